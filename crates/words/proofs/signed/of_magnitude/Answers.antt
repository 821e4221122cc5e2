-- `words::signed::of_magnitude` meets its contract. Assumes nothing.
use mathlib.Core.Path.{◌≡◌, sym, ap, ◌∙◌, subst}
use mathlib.Core.Bool.{Bool}
use Prim.Native.Nat.{ℕ, ◌^◌, ◌<◌}
use lib.IntN.{ℤ, negsuc, ◌-ℤ◌}
use lib.Signed.{mag}
use mir.Syntax.{w64}
use mir.Val.{SFits, to_z}
use mir.ValLaws.{to_z-of_z, to_z_pos}
use Rattle.words.specs.Signed.{of_magnitude}
use Rattle.words.proofs.SignedLaws.{neg-one-minus}
use Rattle.words.proofs.signed.of_magnitude.Goals as goal

down : (m : ℕ) → m < 2 ^ 63 → negsuc 0 -ℤ to_z w64 m ≡ negsuc m
down m h = ap (λ (z : ℤ). negsuc 0 -ℤ z) (to_z_pos w64 m h) ∙ neg-one-minus m

below : (m : ℕ) → m < 2 ^ 63 → SFits w64 (negsuc 0 -ℤ to_z w64 m)
below m h = record { sfits = subst (λ (z : ℤ). mag z < 2 ^ 63) (sym (down m h)) h }

pub overflow_sub-result : goal.overflow_sub-result
overflow_sub-result c = below c.args.m c.requires

pub returns-then-neg : goal.returns-then-neg
returns-then-neg c =
    to_z-of_z w64 _ (below c.args.m c.requires) ∙ down c.args.m c.requires ∙ sym (ap (λ (b : Bool). of_magnitude b c.args.m) c.if-neg.true)

pub returns-else-neg : goal.returns-else-neg
returns-else-neg c = to_z_pos w64 c.args.m c.requires ∙ sym (ap (λ (b : Bool). of_magnitude b c.args.m) c.if-neg.false)
