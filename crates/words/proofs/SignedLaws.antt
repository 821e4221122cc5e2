-- Two's complement over half its range, and the signed operations that the code makes. Assumes nothing.
use mathlib.Core.Path.{◌≡◌, refl, sym, ap, ◌∙◌, subst}
use mathlib.Core.Bool.{Bool, true, false, cond, true≢false}
use Prim.Native.Nat.{ℕ, zero, suc, ◌+◌, ◌-◌, ◌*◌, ◌^◌, ◌≤◌, ◌<◌}
use native.Mathlib.Nat.{zero-add}
use native.Mathlib.Omega.{arith}
use lib.Dec.{T, leb-zero}
use lib.IntN.{ℤ, pos, negsuc, nat_abs, ◌-ℤ◌}
use lib.Signed.{mag, le_z, lt_z, non_neg}
use lib.Pow.{pow-add, pow_mono}
use borrow.Author.Tests.{lt-ltb, le-ltb}
use mir.Syntax.{w64}
use mir.Val.{to_z, of_z}
use mir.ValLaws.{to_z-of_z}
use Rattle.words.specs.Signed.{half_of, is_negative, to_signed, of_signed}
use mathlib.Core.List.{List}
use lib.ListN.{length}
use Rattle.words.specs.Bytes.{Bytes, le, num}
use Rattle.words.proofs.Numbers.{num-le, le-num, num-lt}
use Rattle.words.proofs.Parts.{lt-or-le}
use Rattle.words.proofs.NumLaws.{pow256}
use mathlib.Core.Logic.{⊎_elim}

-- ---- the machine's operations

pub not_neg : (z : ℤ) → le_z (pos 0) z ≡ true → T (non_neg z)
not_neg (pos n) e = tt
not_neg (negsuc n) e = absurd (true≢false (sym e))

pub abs_mag : (z : ℤ) → le_z (pos 0) z ≡ true → nat_abs z ≡ mag z
abs_mag (pos n) e = refl
abs_mag (negsuc n) e = absurd (true≢false (sym e))

-- -1 - z, of a negative z
pub minus_one : (z : ℤ) → le_z (pos 0) z ≡ false → negsuc 0 -ℤ z ≡ pos (mag z)
minus_one (pos n) e = absurd (true≢false (sym (leb-zero n) ∙ e))
minus_one (negsuc n) e =
    let p : suc n - 1 ≡ n = omega arith in
    rw (le-ltb (suc n) 1 (omega arith), p)

-- -1 - m
pub neg-one-minus : (m : ℕ) → negsuc 0 -ℤ pos m ≡ negsuc m
neg-one-minus zero = refl
neg-one-minus (suc m) = ap (λ (x : ℕ). negsuc (suc x)) (zero-add m)

pub below-zero : (z : ℤ) → lt_z z (pos 0) ≡ is_negative z
below-zero (pos n) = le-ltb n 0 (omega arith)
below-zero (negsuc n) = refl

-- ---- bits and numbers, h half the range

of-to : (h n : ℕ) → n < h + h → of_signed h (to_signed h n) ≡ n
of-to h n l =
    ⊎_elim (λ (p : n < h). ap (λ (b : Bool). of_signed h (cond b (pos n) (negsuc (h + h - suc n)))) (lt-ltb n h p))
    (λ (p : h ≤ n). ap (λ (b : Bool). of_signed h (cond b (pos n) (negsuc (h + h - suc n)))) (le-ltb n h p) ∙ omega arith)
    (lt-or-le n h)

to-of : (h : ℕ) (z : ℤ) → mag z < h → to_signed h (of_signed h z) ≡ z
to-of h (pos n) l = rw (lt-ltb n h l)
to-of h (negsuc n) l =
    let p : h ≤ h + h - suc n = omega arith in
    let q : h + h - suc (h + h - suc n) ≡ n = omega arith in
    rw (le-ltb (h + h - suc n) h p, q)

-- the bits are a number of the width, and the number is in the range
pub of_signed-lt : (h : ℕ) (z : ℤ) → mag z < h → of_signed h z < h + h
of_signed-lt h (pos n) l = omega arith
of_signed-lt h (negsuc n) l = omega arith

pub to_signed-mag : (h n : ℕ) → n < h + h → mag (to_signed h n) < h
to_signed-mag h n l =
    ⊎_elim (λ (p : n < h). subst (λ (b : Bool). mag (cond b (pos n) (negsuc (h + h - suc n))) < h) (sym (lt-ltb n h p)) p)
    (λ (p : h ≤ n). subst (λ (b : Bool). mag (cond b (pos n) (negsuc (h + h - suc n))) < h) (sym (le-ltb n h p)) (omega arith))
    (lt-or-le n h)

-- half the range, of k bytes
half_twice : (k : ℕ) → 0 < k → half_of k + half_of k ≡ 2 ^ (8 * k)
half_twice k p =
    let e : 8 * k ≡ 1 + (8 * k - 1) = omega arith in
    sym (ap (λ (n : ℕ). 2 ^ n) e ∙ pow-add 2 1 (8 * k - 1) ∙ omega arith)

pub half_le : (k : ℕ) → k ≤ 8 → half_of k ≤ 2 ^ 63
half_le k l = let h : 8 * k - 1 ≤ 63 = omega arith in pow_mono h

pub to_low : (h n : ℕ) → n < h → to_signed h n ≡ pos n
to_low h n p = rw (lt-ltb n h p)

pub to_high : (h n : ℕ) → h ≤ n → n < h + h → to_signed h n ≡ negsuc (h - 1 - (n - h))
to_high h n p l =
    let e : h + h - suc n ≡ h - 1 - (n - h) = omega arith in
    rw (le-ltb n h p, e)

-- a signed result comes back as the number that it is
pub passed : (z y : ℤ) → z ≡ y → mag y < 2 ^ 63 → to_z w64 (of_z w64 z) ≡ y
passed z y e l = ap (λ (u : ℤ). to_z w64 (of_z w64 u)) e ∙ to_z-of_z w64 y (record { sfits = l })

pub of_low : (h : ℕ) (z : ℤ) → is_negative z ≡ false → mag z ≡ of_signed h z
of_low h (pos n) e = refl
of_low h (negsuc n) e = absurd (true≢false e)

pub of-high : (h : ℕ) (z : ℤ) → is_negative z ≡ true → mag z < h → h + (h - 1 - mag z) ≡ of_signed h z
of-high h (pos n) e l = absurd (true≢false (sym e))
of-high h (negsuc n) e l = omega arith

-- k bytes hold the bits of the width
pub half-bytes : (k : ℕ) → 0 < k → half_of k + half_of k ≡ 256 ^ k
half-bytes k p = half_twice k p ∙ sym (pow256 k)

-- there and back through k bytes, for every number that they hold, and for every k bytes
pub signed_back : (k : ℕ) (z : ℤ) → 0 < k → mag z < half_of k → to_signed (half_of k) (num (le k (of_signed (half_of k) z))) ≡ z
signed_back k z p l =
    ap (to_signed (half_of k)) (num-le k (of_signed (half_of k) z) (subst (λ (n : ℕ). of_signed (half_of k) z < n) (half-bytes k p) (of_signed-lt (half_of k) z l)))
    ∙ to-of (half_of k) z l

pub bytes_back : {l : List ℕ} → Bytes l → 0 < length l → le (length l) (of_signed (half_of (length l)) (to_signed (half_of (length l)) (num l))) ≡ l
bytes_back {l} h p =
    ap (le (length l)) (of-to (half_of (length l)) (num l) (subst (λ (n : ℕ). num l < n) (sym (half-bytes (length l) p)) (num-lt h)))
    ∙ le-num h
