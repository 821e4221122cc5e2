-- Little-endian numbers over the width: sums of parts, bytes of a joined number. Assumes nothing.
use mathlib.Core.Path.{◌≡◌, refl, sym, ap, ◌∙◌}
use mathlib.Core.List.{List, [], ◌∷◌, ◌++◌}
use Prim.Native.Nat.{ℕ, zero, suc, ◌+◌, ◌*◌, ◌/◌, ◌%◌, ◌^◌, ◌≤◌, ◌<◌}
use native.Mathlib.Nat.{pow-suc, mul_comm, mul_assoc, div-div-eq-div-mul, div-eq_of_lt}
use native.Mathlib.Omega.{arith}
use lib.ListN.{length, get_or}
use lib.Arith.{digits_div, digits_mod}
use lib.Pow.{pow-add}
use Rattle.words.specs.Bytes.{Bytes, le, num, part, zeros}
use Rattle.words.proofs.Numbers.{num-lt}
use Rattle.words.proofs.Parts.{length_part, bytes-part, part-add, part-cons}

pub pow256 : (k : ℕ) → 256 ^ k ≡ 2 ^ (8 * k)
pow256 zero = refl
pow256 (suc k) =
    let e : 8 * suc k ≡ 8 * k + 8 = omega arith in
    rw (pow-suc, pow256 k, e, pow-add 2 (8 * k) 8)

-- ---- the number of bytes side by side

num-append : (a b : List ℕ) → num (a ++ b) ≡ num a + 256 ^ length a * num b
unfolding num
num-append [] b = omega arith
num-append (x ∷ a) b =
    let e : 256 ^ suc (length a) * num b ≡ 256 * (256 ^ length a * num b) = ap (λ (n : ℕ). n * num b)
    (pow-suc 256 (length a) ∙ mul_comm (256 ^ length a) 256) ∙ mul_assoc 256 (256 ^ length a) (num b) in
    rw (num-append a b, e) (omega arith)

-- the number of k bytes of a run is below 256 ^ k
pub part-lt : {b : List ℕ} (at k : ℕ) → Bytes b → at + k ≤ length b → num (part b at k) < 256 ^ k
part-lt {b} at k h f = rw (length_part b at k f) at (num-lt (bytes-part at k h))

-- the number of j + k bytes, its high part first
pub num-part : (b : List ℕ) (at j k : ℕ) → at + j ≤ length b → num (part b at (j + k)) ≡ num (part b (at + j) k) * 256 ^ j + num (part b at j)
num-part b at j k f =
    let long : length (part b at j) ≡ j = length_part b at j f in
    rw (part-add b at j k, num-append (part b at j) (part b (at + j) k), long, mul_comm (num (part b (at + j) k)) (256 ^ j)) (omega arith)

-- the halves of a number of j + k bytes, as they stand
pub num-high : {b : List ℕ} (at j k : ℕ) → Bytes b → at + j ≤ length b → num (part b at (j + k)) / 256 ^ j ≡ num (part b (at + j) k)
num-high {b} at j k h f = rw (num-part b at j k f) (digits_div (num (part b (at + j) k)) (part-lt at j h f))

pub num-low : {b : List ℕ} (at j k : ℕ) → Bytes b → at + j ≤ length b → num (part b at (j + k)) % 256 ^ j ≡ num (part b at j)
num-low {b} at j k h f = rw (num-part b at j k f) (digits_mod (num (part b (at + j) k)) (part-lt at j h f))

-- ---- the bytes of a number

-- the first j of j + k bytes, and the k above them
le-add : (j k x : ℕ) → le (j + k) x ≡ le j x ++ le k (x / 256 ^ j)
unfolding le
le-add zero k x =
    let e : 0 + k ≡ k = omega arith in
    let f : x / 1 ≡ x = omega arith in
    rw (e, f)
le-add (suc j) k x =
    let e : suc j + k ≡ suc (j + k) = omega arith in
    let f : x / 256 / 256 ^ j ≡ x / 256 ^ suc j = div-div-eq-div-mul x 256 (256 ^ j) ∙ ap (λ (n : ℕ). x / n) (mul_comm 256 (256 ^ j) ∙ sym (pow-suc 256 j)) in
    rw (e, le-add j k (x / 256), f)

le-one : (x : ℕ) → le 1 x ≡ x % 256 ∷ []
unfolding le
le-one x = refl

-- one byte more
pub le-snoc : (w x : ℕ) → le (suc w) x ≡ le w x ++ (x / 256 ^ w % 256 ∷ [])
le-snoc w x =
    let e : suc w ≡ w + 1 = omega arith in
    ap (λ (n : ℕ). le n x) e ∙ le-add w 1 x ∙ ap (λ (t : List ℕ). le w x ++ t) (le-one (x / 256 ^ w))

pub le-zero : (w : ℕ) → le w 0 ≡ zeros w
unfolding le
le-zero zero = refl
le-zero (suc w) = ap (λ (l : List ℕ). 0 ∷ l) (le-zero w)

-- a number of j bytes in j + k is those bytes and zeros, whatever it stands for: no fill by the sign
pub le-pad : (j k x : ℕ) → x < 256 ^ j → le (j + k) x ≡ le j x ++ zeros k
le-pad j k x h = le-add j k x ∙ ap (λ (l : List ℕ). le j x ++ l) (ap (le k) (div-eq_of_lt h) ∙ le-zero k)

-- ---- one byte

pub num-one : (b : List ℕ) (at : ℕ) → at < length b → num (part b at 1) ≡ get_or b at 0
unfolding num
num-one b at h = rw (part-cons b at 0 h) (omega arith)

-- one byte more above those read
pub num-snoc : (b : List ℕ) (at k : ℕ) → at + k < length b → num (part b at (suc k)) ≡ get_or b (at + k) 0 * 2 ^ (8 * k) + num (part b at k)
num-snoc b at k h =
    let e : suc k ≡ k + 1 = omega arith in
    rw (e, num-part b at k 1 (omega arith), num-one b (at + k) h, pow256 k)
