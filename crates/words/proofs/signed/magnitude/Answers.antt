-- `words::signed::magnitude` meets its contract. Assumes nothing.
use mathlib.Core.Path.{◌≡◌, sym, ap, ◌∙◌, subst}
use Prim.Native.Nat.{ℕ, ◌^◌, ◌<◌}
use native.Mathlib.Nat.{lt_of_lt_of_le}
use mathlib.Core.Bool.{false}
use lib.Dec.{T, lit≤}
use lib.IntN.{ℤ, pos, negsuc, nat_abs, ◌-ℤ◌}
use lib.Signed.{mag, non_neg, le_z}
use mir.Syntax.{w64}
use mir.Val.{Fits, SFits, to_z, of_z}
use mir.ValLaws.{to_z-of_z}
use Rattle.words.proofs.SignedLaws.{not_neg, abs_mag, minus_one}
use Rattle.words.proofs.signed.magnitude.Goals as goal

-- what the machine reads back of x's bits is x
abbrev back : ℤ → ℤ
back x = to_z w64 (of_z w64 x)

tiny : (x : ℤ) → SFits w64 x → mag (back x) < 2 ^ 63
tiny x h = subst (λ (z : ℤ). mag z < 2 ^ 63) (sym (to_z-of_z w64 x h)) h.sfits

small : (x : ℤ) → SFits w64 x → mag (back x) < 2 ^ 64
small x h = lt_of_lt_of_le (tiny x h) (lit≤ tt)

below : (x : ℤ) → SFits w64 x → le_z (pos 0) (back x) ≡ false → SFits w64 (negsuc 0 -ℤ back x)
below x h low = record { sfits = subst (λ (z : ℤ). mag z < 2 ^ 63) (sym (minus_one (back x) low)) (tiny x h) }

turned : (x : ℤ) → SFits w64 x → le_z (pos 0) (back x) ≡ false → to_z w64 (of_z w64 (negsuc 0 -ℤ back x)) ≡ pos (mag (back x))
turned x h low = to_z-of_z w64 (negsuc 0 -ℤ back x) (below x h low) ∙ minus_one (back x) low

pub overflow_cast-result : goal.overflow_cast-result
overflow_cast-result c = (
  not_neg (back c.args.x) c.if-x-ge0.true,
  record { fits = subst (λ (n : ℕ). n < 2 ^ 64) (sym (abs_mag (back c.args.x) c.if-x-ge0.true)) (small c.args.x c.ranges.x) },
)

pub overflow_sub-result : goal.overflow_sub-result
overflow_sub-result c = below c.args.x c.ranges.x c.if-x-ge0.false

pub overflow_cast-result-else-x-ge0 : goal.overflow_cast-result-else-x-ge0
overflow_cast-result-else-x-ge0 c =
    subst (λ (z : ℤ). T (non_neg z) × Fits w64 (nat_abs z)) (sym (turned c.args.x c.ranges.x c.if-x-ge0.false))
    (tt, record { fits = small c.args.x c.ranges.x })

pub returns-then-x-ge0 : goal.returns-then-x-ge0
returns-then-x-ge0 c = abs_mag (back c.args.x) c.if-x-ge0.true ∙ ap mag (to_z-of_z w64 c.args.x c.ranges.x)

pub returns-else-x-ge0 : goal.returns-else-x-ge0
returns-else-x-ge0 c = ap nat_abs (turned c.args.x c.ranges.x c.if-x-ge0.false) ∙ ap mag (to_z-of_z w64 c.args.x c.ranges.x)
