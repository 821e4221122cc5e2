-- What the card tool writes for an input. Assumes nothing: these are definitions.
use Rattle.std.specs.Prelude.{◌≡◌, List, [], ◌∷◌, ℕ, ◌-◌, ◌≤◌, Option, Some, None, length}
use Rattle.words.specs.Bytes.{part}
use Rattle.schema.specs.Reading.{judged}
use Rattle.schema.specs.declared.Judged.TheVariants.{Accepted}
use Rattle.layout.specs.Refusals.{number_in}
use Rattle.layout.specs.Entries.{Verdict, done, refused, check_of}
use Rattle.lettering.specs.Text.{numbered}
use Rattle.leaves.specs.Whole.{card_of}
use Rattle.card.specs.Input.{split_of}

-- `refused`, space, the refusal's number
unfoldable pub refusal : ℕ → List ℕ
refusal n = numbered (114 ∷ 101 ∷ 102 ∷ 117 ∷ 115 ∷ 101 ∷ 100 ∷ 32 ∷ []) n

-- the schema is accepted, and the row not too long
pub record Ready (s row : List ℕ) : Type 0 where
  pub schema : judged s ≡ Accepted
  pub short : length row ≤ 16384

-- the card of an accepted row, or only the refusal, with the number that check gives
abbrev pub by_verdict : Verdict → List ℕ → List ℕ
by_verdict done card = card
by_verdict (refused r) card = refusal (number_in r)

unfoldable pub judged_text : List ℕ → List ℕ → List ℕ
judged_text s row = by_verdict (check_of s row) (card_of s row)

-- an input under two bytes, or shorter than announced, is refused with 1; else the schema ends at e, and f says what is written for it
-- and the rest
abbrev pub by_split : (List ℕ → List ℕ → List ℕ) → Option ℕ → List ℕ → List ℕ
by_split f None input = refusal 1
by_split f (Some e) input = f (part input 2 (e - 2)) (part input e (length input - e))

-- the rest is the row
unfoldable pub output_of : List ℕ → List ℕ
output_of input = by_split judged_text (split_of input) input
