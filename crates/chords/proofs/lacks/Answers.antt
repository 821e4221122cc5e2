-- `chords::lacks` meets its contract. Assumes nothing.
use mathlib.Core.Path.{◌≡◌, sym, ◌∙◌}
use mathlib.Core.Bool.{Bool, true, false, ◌||◌}
use Rattle.chords.proofs.lacks.Goals as goal

one-is : (a b : Bool) → a ≡ true → true ≡ a || b
one-is a b e = rw e

other-is : (a b v : Bool) → a ≡ false → v ≡ b → v ≡ a || b
other-is a b v e q = rw e q

pub returns-then-is_null : goal.returns-then-is_null
returns-then-is_null c = one-is _ _ (sym c.is_null.ensures ∙ c.if-is_null.true)

pub returns : goal.returns
returns c = other-is _ _ _ (sym c.is_null.ensures ∙ c.if-is_null.false) c.is_null-2.ensures
