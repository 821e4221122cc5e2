-- A step that was not taken. Assumes nothing.
use Rattle.std.proofs.Common.{◌≡◌, ℕ, Option, Some, None, Result, Ok, Err, refl}
use Rattle.std.specs.Option.{IsNone, ok_or}

-- the refusal that stands for no answer
pub not-taken : {R E : Type 0} (o : Option R) {e f : E} → ◌≡◌ {A = Result R E} (Err f) (ok_or o e) → IsNone o × (f ≡ e)
not-taken None q = (refl, cc)
not-taken (Some x) q = absurd (cc q)
