-- Quotient and remainder by 2 ^ k without a division, for every exponent. `x >> k` MEANS `x / 2 ^ k`, in every need that has it; that
-- `x & (2 ^ k - 1)` is the remainder is the law here. Assumes nothing.
use mathlib.Core.Path.{◌≡◌, sym, ◌∙◌}
use Prim.Native.Nat.{ℕ, ◌-◌, ◌%◌, ◌^◌}
use lib.Bits.{bit_and, and_mask}

pub mask_is : (x k : ℕ) → bit_and x (2 ^ k - 1) ≡ x % 2 ^ k
mask_is = and_mask

-- so a test by mask tells a multiple of 8
pub eights : (x : ℕ) → bit_and x 7 ≡ 0 → x % 8 ≡ 0
eights x e = sym (mask_is x 3) ∙ e

pub no-eights : (x : ℕ) → (bit_and x 7 ≡ 0 → ⊥) → x % 8 ≡ 0 → ⊥
no-eights x h e = h (mask_is x 3 ∙ e)
