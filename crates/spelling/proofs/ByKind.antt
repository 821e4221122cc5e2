-- A string and a binary by their kind. Assumes nothing.
use mathlib.Core.Path.{◌≡◌, refl, sym}
use mathlib.Core.Bool.{Bool, true, not}
use mathlib.Core.List.{List}
use Prim.Native.Nat.{ℕ, ◌-◌, ◌≤◌}
use native.Mathlib.Omega.{arith}
use lib.Dec.{eqb}
use borrow.Author.Tests.{ne_eqb}
use Rattle.words.specs.Bytes.{part}
use Rattle.words.specs.Tests.{is_yes}
use Rattle.words.specs.TextTest.{is_text}
use Rattle.words.specs.Chars.{Ascii}
use Rattle.words.proofs.TextTurns.{ascii-within}
use Rattle.schema.specs.Types.{st, bi, text_at}
use Rattle.layout.specs.Layout.{spells?}
use Rattle.spelling.specs.Spelling.{TextKind, Padded, Spelling}

-- a binary is free
pub free : (u : List ℕ) → Spelling bi u true
unfolding spells? is_yes
free u = record { is = refl }

-- a kind that is not a string's is a binary's
pub of-binary : {k : ℕ} → TextKind k → (k ≡ 7 → ⊥) → (u : List ℕ) → Spelling (text_at k) u true
unfolding text_at
of-binary {k} h ne u = let e : k ≡ 8 = omega arith in rw e (free u)

pub no-string : {k : ℕ} → TextKind k → (k ≡ 7 → ⊥) → (u : List ℕ) → Spelling (text_at k) u (not (eqb k 7))
no-string {k} h ne u = rw (ne_eqb k 7 ne) (of-binary h ne u)

pub of-text : {u : List ℕ} {r : Bool} → r ≡ is_text u → Spelling st u r
unfolding spells? is_text
of-text q = record { is = q }

pub of-string : {k : ℕ} {u : List ℕ} {r : Bool} → k ≡ 7 → Spelling st u r → Spelling (text_at k) u r
unfolding text_at
of-string e s = rw e s

-- one word tells: from its first byte on, and up to the padding's end
pub by_word : (b : List ℕ) (at stop : ℕ) → at ≤ stop → stop - at ≤ 8 → Ascii (part b at 8) → Spelling st (part b at (stop - at)) true
by_word b at stop l h r = of-text (sym (ascii-within b at at stop (omega arith) l (omega arith) r))

pub by-padding : {b : List ℕ} {at stop next : ℕ} → Padded b at stop next → next - at ≤ 8 → Ascii (part b (next - 8) 8)
    → Spelling st (part b at (stop - at)) true
by-padding {b} {at} {stop} {next} p h r = of-text (sym (ascii-within b (next - 8) at stop (omega arith) p.from (omega arith) r))
