-- One bit of a number and of a bitmap: masks, what a store of a bit alters and what it leaves. Assumes nothing.
use mathlib.Core.Path.{◌≡◌, refl, sym, ap, ap₂, ◌∙◌, subst}
use mathlib.Core.Logic.{◌⊎◌, inl, inr, ⊎_elim}
use mathlib.Core.Bool.{Bool, true, false, not}
use mathlib.Core.List.{List, [], ◌∷◌}
use Prim.Native.Nat.{ℕ, zero, suc, ◌+◌, ◌-◌, ◌*◌, ◌/◌, ◌%◌, ◌^◌, ◌≤◌, ◌<◌, max}
use native.Mathlib.Nat.{pow-suc, mul_assoc, mod-lt, add-mul-div_right, mod-eq_of_lt, add_assoc, add-zero, add_comm, le-add_left, zero-mul}
use native.Mathlib.Nat.{zero-div, div-div-eq-div-mul}
use native.Mathlib.Decide.{dec_lt}
use native.Mathlib.Omega.{arith}
use lib.Dec.{eqb, lit<}
use lib.ListN.{length, get_or, length-set}
use lib.Seq.{sets, get_or-set_same, get_or-set_other}
use lib.Arith.{digits_lt}
use lib.Pow.{pow_pos, pow-add, split, high, shr-shr, shr_lt, high_ones, ones_lt, pow_mono}
use lib.Bits.{bit_and, bit_or, and_high, and_block, or_block, or_step, or_zero_r}
use borrow.Author.Tests.{ne_eqb}
use Rattle.words.proofs.Powers.{mask_is}
use Rattle.words.specs.Bytes.{Bytes, empty, byte, num, part}
use Rattle.words.specs.Bits.{bit_of, digit, with_bit, bit, put_bit}
use Rattle.words.proofs.Numbers.{byte_at}
use Rattle.words.proofs.Parts.{lt-or-le, get_d_part, bytes-part}
use Rattle.words.proofs.Runs.{bytes-sets, get_or-sets-lo, get_or-sets-hi}

-- ---- masks

twice : (k : ℕ) → 2 ^ (1 + k) ≡ 2 * 2 ^ k
twice k = pow-add 2 1 k

and-bit : (x k : ℕ) → bit_and x (2 ^ k) ≡ x / 2 ^ k % 2 * 2 ^ k
and-bit x k =
    let e : 2 ^ k ≡ 2 ^ (1 + k) - 2 ^ k = omega (arith, twice k) in
    ap (bit_and x) e ∙ and_high x 1 k

or-one : (a : ℕ) → bit_or a 1 ≡ a / 2 * 2 + 1
or-one a =
    let m : max (a % 2) 1 ≡ 1 = omega arith in
    or_step a 1 ∙ rw (or_zero_r (a / 2), m)

pub or-bit : (x k : ℕ) → bit_or x (2 ^ k) ≡ with_bit x k true
or-bit x k =
    let e : 2 ^ k ≡ 1 * 2 ^ k + 0 = omega arith in
    ap (λ (y : ℕ). bit_or y (2 ^ k)) (sym (split x k)) ∙ ap (bit_or (x / 2 ^ k * 2 ^ k + x % 2 ^ k)) e
    ∙ or_block k (x / 2 ^ k) 1 (x % 2 ^ k) 0 (mod-lt x (pow_pos k)) (pow_pos k)
    ∙ rw (or-one (x / 2 ^ k), or_zero_r (x % 2 ^ k))

-- all bits of j + 1 + k but bit k
mask-eq : (j k : ℕ) → 2 ^ (j + (1 + k)) - 1 - 2 ^ k ≡ (2 ^ (j + 1) - 2 ^ 1) * 2 ^ k + (2 ^ k - 1)
mask-eq j k =
    let e : (2 ^ (j + 1) - 2 ^ 1) * 2 ^ k ≡ (2 ^ j - 1) * 2 ^ (1 + k) =
    ap (λ (n : ℕ). n * 2 ^ k) (high_ones j 1) ∙ mul_assoc (2 ^ j - 1) 2 (2 ^ k) ∙ ap (λ (n : ℕ). (2 ^ j - 1) * n) (sym (twice k)) in
    let m : 2 ^ (1 + k) ≤ 2 ^ (j + (1 + k)) = pow_mono (le-add_left (1 + k) j) in
    rw (e, ← high_ones j (1 + k)) (omega (arith, twice k, pow_pos k, m))

and_not_bit : (j k x : ℕ) → x < 2 ^ (j + (1 + k)) → bit_and x (2 ^ (j + (1 + k)) - 1 - 2 ^ k) ≡ with_bit x k false
and_not_bit j k x h =
    let a = x / 2 ^ k in
    let r = x % 2 ^ k in
    let hr : r < 2 ^ k = mod-lt x (pow_pos k) in
    let ha : a / 2 < 2 ^ j = shr_lt j 1 (shr_lt (j + 1) k (rw (add_assoc j 1 k) h)) in
    let hi : bit_and a (2 ^ (j + 1) - 2 ^ 1) ≡ a / 2 * 2 = and_high a j 1 ∙ ap (λ (n : ℕ). n * 2) (mod-eq_of_lt ha) in
    let lo : bit_and r (2 ^ k - 1) ≡ r = mask_is r k ∙ mod-eq_of_lt hr in
    ap₂ bit_and (sym (split x k)) (mask-eq j k)
    ∙ and_block k a (2 ^ (j + 1) - 2 ^ 1) r (2 ^ k - 1) hr (ones_lt k)
    ∙ ap₂ (λ (m n : ℕ). m * 2 ^ k + n) (hi ∙ sym (add-zero (a / 2 * 2))) lo

-- ---- one bit of a number, read and stored

digit_lt : (v : Bool) → digit v < 2
digit_lt true = lit< tt
digit_lt false = lit< tt

digit-is : (v : Bool) → eqb (digit v) 1 ≡ v
digit-is true = refl
digit-is false = refl

digit-of : (n : ℕ) → n < 2 → digit (eqb n 1) ≡ n
digit-of zero h = refl
digit-of (suc zero) h = refl
digit-of (suc (suc n)) h = absurd (not-lt h)
  where
    not-lt : suc (suc n) < 2 → ⊥
    not-lt p = omega arith

module _ (x k : ℕ) (v : Bool) where
  with-high : with_bit x k v / 2 ^ k ≡ x / 2 ^ k / 2 * 2 + digit v
  with-high = high (x / 2 ^ k / 2 * 2 + digit v) k (mod-lt x (pow_pos k))

  pub bit-with : bit_of (with_bit x k v) k ≡ v
  bit-with =
      let e : (x / 2 ^ k / 2 * 2 + digit v) % 2 ≡ digit v = omega (arith, digit_lt v) in
      ap (λ (n : ℕ). eqb (n % 2) 1) with-high ∙ ap (λ (n : ℕ). eqb n 1) e ∙ digit-is v

  -- a lower bit goes by what is below bit k, a higher one by what is above
  low_bit : (a r m d : ℕ) → k ≡ suc d + m → (a * 2 ^ k + r) / 2 ^ m % 2 ≡ r / 2 ^ m % 2
  low_bit a r m d e =
      let p : a * 2 ^ k ≡ (a * 2 ^ d * 2) * 2 ^ m =
      ap (λ (n : ℕ). a * 2 ^ n) e ∙ ap (λ (n : ℕ). a * n) (pow-add 2 (suc d) m ∙ ap (λ (n : ℕ). n * 2 ^ m) (pow-suc 2 d))
      ∙ sym (mul_assoc a (2 ^ d * 2) (2 ^ m)) ∙ ap (λ (n : ℕ). n * 2 ^ m) (sym (mul_assoc a (2 ^ d) 2)) in
      ap (λ (n : ℕ). (n + r) / 2 ^ m % 2) p ∙ ap (λ (n : ℕ). n / 2 ^ m % 2) (add_comm (a * 2 ^ d * 2 * 2 ^ m) r)
      ∙ ap (λ (n : ℕ). n % 2) (add-mul-div_right r (a * 2 ^ d * 2) (pow_pos m)) ∙ omega arith

  high_bit : (y m d : ℕ) → m ≡ k + (1 + d) → y / 2 ^ m ≡ y / 2 ^ k / 2 / 2 ^ d
  high_bit y m d e = ap (λ (n : ℕ). y / 2 ^ n) e ∙ sym (shr-shr y k (1 + d)) ∙ sym (shr-shr (y / 2 ^ k) 1 d)

  bit-with-other : (m : ℕ) → (m < k) ⊎ (k < m) → bit_of (with_bit x k v) m ≡ bit_of x m
  bit-with-other m o =
      ap (λ (n : ℕ). eqb n 1)
      (⊎_elim
      (λ lt. let e : k ≡ suc (k - suc m) + m = omega arith in
      low_bit (x / 2 ^ k / 2 * 2 + digit v) (x % 2 ^ k) m (k - suc m) e
      ∙ sym (ap (λ (n : ℕ). n / 2 ^ m % 2) (sym (split x k)) ∙ low_bit (x / 2 ^ k) (x % 2 ^ k) m (k - suc m) e))
      (λ gt. let e : m ≡ k + (1 + (m - suc k)) = omega arith in
      let q : (x / 2 ^ k / 2 * 2 + digit v) / 2 ≡ x / 2 ^ k / 2 = omega (arith, digit_lt v) in
      ap (λ (n : ℕ). n % 2)
      (high_bit (with_bit x k v) m (m - suc k) e
      ∙ ap (λ (n : ℕ). n / 2 / 2 ^ (m - suc k)) with-high ∙ ap (λ (n : ℕ). n / 2 ^ (m - suc k)) q
      ∙ sym (high_bit x m (m - suc k) e)))
      o)

  -- a number of j + 1 + k bits stays one
  with-lt : (j : ℕ) → x < 2 ^ (j + (1 + k)) → with_bit x k v < 2 ^ (j + (1 + k))
  with-lt j h =
      let ha : x / 2 ^ k < 2 ^ (j + 1) = shr_lt (j + 1) k (rw (add_assoc j 1 k) h) in
      let e : 2 ^ (j + 1) ≡ 2 ^ j * 2 = pow-add 2 j 1 in
      let hb : x / 2 ^ k / 2 * 2 + digit v < 2 ^ (j + 1) = omega (arith, digit_lt v) in
      subst (λ (n : ℕ). with_bit x k v < n) (sym (pow-add 2 (j + 1) k) ∙ ap (λ (n : ℕ). 2 ^ n) (add_assoc j 1 k)) (digits_lt hb (mod-lt x (pow_pos k)))

-- storing what stands there alters nothing
pub with-same : (x k : ℕ) → with_bit x k (bit_of x k) ≡ x
with-same x k =
    let e : x / 2 ^ k / 2 * 2 + x / 2 ^ k % 2 ≡ x / 2 ^ k = omega arith in
    ap (λ (n : ℕ). (x / 2 ^ k / 2 * 2 + n) * 2 ^ k + x % 2 ^ k) (digit-of (x / 2 ^ k % 2) (mod-lt (x / 2 ^ k) (lit< tt)))
    ∙ ap (λ (n : ℕ). n * 2 ^ k + x % 2 ^ k) e ∙ split x k

-- a byte stays one
pub with_byte : (x k : ℕ) (v : Bool) → k < 8 → x < 256 → with_bit x k v < 256
with_byte x k v h l =
    let e : 7 - k + (1 + k) ≡ 8 = omega arith in
    subst (λ (n : ℕ). with_bit x k v < 2 ^ n) e (with-lt x k v (7 - k) (subst (λ (n : ℕ). x < 2 ^ n) (sym e) l))

-- what the test by mask says
pub test_bit : (x k : ℕ) → not (eqb (bit_and x (2 ^ k)) 0) ≡ bit_of x k
test_bit x k = ap (λ (n : ℕ). not (eqb n 0)) (and-bit x k) ∙ go (x / 2 ^ k % 2) (mod-lt (x / 2 ^ k) (lit< tt))
  where
    go : (t : ℕ) → t < 2 → not (eqb (t * 2 ^ k) 0) ≡ eqb t 1
    go zero h = rw zero-mul
    go (suc zero) h = ap not (ne_eqb (1 * 2 ^ k) 0 (λ e. omega (arith, pow_pos k)))
    go (suc (suc t)) h = absurd (two t h)
      where
        two : (t : ℕ) → suc (suc t) < 2 → ⊥
        two t p = omega arith

-- `x & !m` in a byte
pub clear-bit : (x k : ℕ) → k < 8 → x < 256 → bit_and x (255 - 2 ^ k) ≡ with_bit x k false
clear-bit x k h l =
    let e : 7 - k + (1 + k) ≡ 8 = omega arith in
    subst (λ (n : ℕ). bit_and x (2 ^ n - 1 - 2 ^ k) ≡ with_bit x k false) e (and_not_bit (7 - k) k x (subst (λ (n : ℕ). x < 2 ^ n) (sym e) l))

-- ---- the order of two numbers

tri : (a b : ℕ) → ((a < b) ⊎ (b < a)) ⊎ (a ≡ b)
tri a b = ⊎_elim (λ l. inl (inl l)) (λ g. ⊎_elim (λ l. inl (inr l)) (λ l. inr (omega arith)) (lt-or-le b a)) (lt-or-le a b)

apart : (a b : ℕ) → (a ≡ b → ⊥) → (a < b) ⊎ (b < a)
apart a b ne = ⊎_elim (λ o. o) (λ e. absurd (ne e)) (tri a b)

-- ---- the bits of a bitmap

module _ (b : List ℕ) (at i : ℕ) (v : Bool) (fits : at + i / 8 < length b) where
  at_place : get_or (put_bit b at i v) (at + i / 8) 0 ≡ with_bit (get_or b (at + i / 8) 0) (i % 8) v
  at_place = get_or-set_same b (at + i / 8) (with_bit (get_or b (at + i / 8) 0) (i % 8) v) 0 fits

  -- the bit reads as stored
  pub bit-put : bit (put_bit b at i v) at i ≡ v
  bit-put = ap (λ (n : ℕ). bit_of n (i % 8)) at_place ∙ bit-with (get_or b (at + i / 8) 0) (i % 8) v

  -- every other reads as before
  pub bit-put-other : (j : ℕ) → (j ≡ i → ⊥) → bit (put_bit b at i v) at j ≡ bit b at j
  bit-put-other j ne = ⊎_elim (λ o. else (λ e. ⊎_elim (λ l. omega arith) (λ l. omega arith) o)) here (tri (j / 8) (i / 8))
    where
      else : (at + j / 8 ≡ at + i / 8 → ⊥) → bit (put_bit b at i v) at j ≡ bit b at j
      else f = ap (λ (n : ℕ). bit_of n (j % 8)) (get_or-set_other b (at + i / 8) (at + j / 8) (with_bit (get_or b (at + i / 8) 0) (i % 8) v) 0 f)

      -- the same byte, and another bit of it
      here : j / 8 ≡ i / 8 → bit (put_bit b at i v) at j ≡ bit b at j
      here e =
          ap (λ (n : ℕ). bit_of (get_or (put_bit b at i v) (at + n) 0) (j % 8)) e
          ∙ ap (λ (n : ℕ). bit_of n (j % 8)) at_place
          ∙ bit-with-other (get_or b (at + i / 8) 0) (i % 8) v (j % 8) (apart (j % 8) (i % 8) (λ q. ne (omega arith)))
          ∙ ap (λ (n : ℕ). bit_of (get_or b (at + n) 0) (j % 8)) (sym e)

pub length-put : (b : List ℕ) (at i : ℕ) (v : Bool) → length (put_bit b at i v) ≡ length b
length-put b at i v = length-set b (at + i / 8) (with_bit (get_or b (at + i / 8) 0) (i % 8) v)

pub bytes-put : {b : List ℕ} (at i : ℕ) (v : Bool) → Bytes b → Bytes (put_bit b at i v)
bytes-put {b} at i v h =
    let x = with_bit (get_or b (at + i / 8) 0) (i % 8) v in
    let l : x < 256 = with_byte (get_or b (at + i / 8) 0) (i % 8) v (mod-lt i (lit< tt)) (byte_at h (at + i / 8)) in
    bytes-sets {v = x ∷ []} (at + i / 8) h (byte l empty)

-- a run elsewhere leaves a bit as it was
pub bit-run : (b : List ℕ) (p : ℕ) (u : List ℕ) (at i : ℕ) → p + length u ≤ length b → (at + i / 8 < p) ⊎ (p + length u ≤ at + i / 8)
    → bit (sets b p u) at i ≡ bit b at i
bit-run b p u at i h o = ap (λ (x : ℕ). bit_of x (i % 8)) (⊎_elim (λ lo. get_or-sets-lo b p u h (at + i / 8) lo) (λ hi. get_or-sets-hi b p u h (at + i / 8) hi) o)

-- ---- a bitmap as a number

-- bit i of d + 256 * n, for i below 8
bit-near : (d n i : ℕ) → i < 8 → (d + 256 * n) / 2 ^ i % 2 ≡ d / 2 ^ i % 2
bit-near d n zero h = omega arith
bit-near d n (suc zero) h = omega arith
bit-near d n (suc (suc zero)) h = omega arith
bit-near d n (suc (suc (suc zero))) h = omega arith
bit-near d n (suc (suc (suc (suc zero)))) h = omega arith
bit-near d n (suc (suc (suc (suc (suc zero))))) h = omega arith
bit-near d n (suc (suc (suc (suc (suc (suc zero)))))) h = omega arith
bit-near d n (suc (suc (suc (suc (suc (suc (suc zero))))))) h = omega arith
bit-near d n (suc (suc (suc (suc (suc (suc (suc (suc i)))))))) h = absurd (omega arith)

bit-step : (d : ℕ) (ds : List ℕ) (i : ℕ) → Dec (i < 8) → d < 256 → (8 ≤ i → num ds / 2 ^ (i - 8) % 2 ≡ get_or ds ((i - 8) / 8) 0 / 2 ^ ((i - 8) % 8) % 2)
    → (d + 256 * num ds) / 2 ^ i % 2 ≡ get_or (d ∷ ds) (i / 8) 0 / 2 ^ (i % 8) % 2
bit-step d ds i (yes h) b f =
    let q : i / 8 ≡ 0 = omega arith in
    let r : i % 8 ≡ i = omega arith in
    rw (q, r) (bit-near d (num ds) i h)
bit-step d ds i (no h) b f =
    let q : i / 8 ≡ suc ((i - 8) / 8) = omega arith in
    let r : i % 8 ≡ (i - 8) % 8 = omega arith in
    let e : i ≡ 8 + (i - 8) = omega arith in
    let p : 2 ^ i ≡ 2 ^ 8 * 2 ^ (i - 8) = ap (λ (k : ℕ). 2 ^ k) e ∙ pow-add 2 8 (i - 8) in
    let z : (d + 256 * num ds) / 256 ≡ num ds = omega arith in
    rw (q, r, p, ← (div-div-eq-div-mul (d + 256 * num ds) 256 (2 ^ (i - 8))), z) (f (omega arith))

-- bit i of the number is bit i % 8 of byte i / 8
bit_at : {b : List ℕ} (i : ℕ) → Bytes b → num b / 2 ^ i % 2 ≡ get_or b (i / 8) 0 / 2 ^ (i % 8) % 2
unfolding num
bit_at i empty = rw (zero-div (2 ^ i), zero-div (2 ^ (i % 8)))
bit_at i (byte {d} {ds} p h) = bit-step d ds i (dec_lt i 8) p (λ k. bit_at (i - 8) h)

-- the bits of a bitmap are those of its number
pub bit-num : {b : List ℕ} (at n i : ℕ) → Bytes b → i / 8 < n → bit_of (num (part b at n)) i ≡ bit b at i
bit-num {b} at n i h l = ap (λ (x : ℕ). eqb x 1) (bit_at i (bytes-part at n h)) ∙ ap (λ (x : ℕ). bit_of x (i % 8)) (get_d_part b at n (i / 8) l)
