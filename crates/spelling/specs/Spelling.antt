-- What judging the bytes of a string or a binary asks and answers. Assumes nothing: these are definitions.
use Rattle.std.specs.Prelude.{◌≡◌, Bool, true, List, ℕ, ◌≤◌, ◌<◌, length}
use Rattle.words.specs.Tests.{is_yes}
use Rattle.schema.specs.Marks.{STRING, LIST}
use Rattle.schema.specs.Types.{Text}
use Rattle.layout.specs.Layout.{spells?}

-- the kind of a string or of a binary
pub record TextKind (k : ℕ) : Type 0 where
  pub low : STRING ≤ k
  pub high : k < LIST

-- the bytes of b from at up to stop, and their padding up to next, behind which at least one word of b ends
pub record Padded (b : List ℕ) (at stop next : ℕ) : Type 0 where
  pub from : at ≤ stop
  pub pad : stop ≤ next
  pub word : 8 ≤ next
  pub room : next ≤ length b

-- r tells whether u is what the type asks: text in a string, any bytes in a binary
pub record Spelling (t : Text) (u : List ℕ) (r : Bool) : Type 0 where
  pub is : r ≡ is_yes (spells? t u)

-- a look: where it says yes, u is; where it says no, it says nothing
abbrev pub SpellingIf : Text → List ℕ → Bool → Type 0
SpellingIf t u r = r ≡ true → Spelling t u true
