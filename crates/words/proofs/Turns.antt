-- What one more byte of a read, of a write and of a loop does, over the width, and the tests by one word. Assumes nothing.
use mathlib.Core.Path.{◌≡◌, refl, sym, ap, ap₂, ◌∙◌, subst}
use mathlib.Core.Bool.{true}
use mathlib.Core.Logic.{⊎_elim}
use mathlib.Core.List.{List, [], ◌∷◌, ◌++◌}
use Prim.Native.Nat.{ℕ, suc, ◌+◌, ◌-◌, ◌*◌, ◌/◌, ◌%◌, ◌^◌, ◌≤◌, ◌<◌}
use native.Mathlib.Nat.{pow-suc, div-div-eq-div-mul, div-eq_of_lt, lt_of_lt_of_le, pow-le-pow_right, mod-lt, mul-le-mul_right}
use native.Mathlib.Numerals.{add-one}
use native.Mathlib.Omega.{arith}
use lib.Dec.{eqb, ltb, lit<, lit≤}
use lib.ListN.{length, get_or, set}
use lib.Seq.{sets}
use lib.Arith.{digits_lt}
use lib.Pow.{pow-add, pow_pos, shl_exact, shr-shr, split}
use lib.Bits.{bit_and, bit_or, or_shifted, or_shifted_r}
use borrow.Author.Tests.{lt-ltb, le-ltb, eq-eqb, ne_eqb}
use Rattle.words.proofs.Powers.{mask_is}
use Rattle.words.specs.Bytes.{Bytes, le, num, part, bitmap, pad}
use Rattle.words.specs.Reads.{Reads}
use Rattle.words.proofs.Numbers.{length-le, byte_at}
use Rattle.words.proofs.Parts.{lt-or-le, length_part, part-cons, part-snoc}
use Rattle.words.proofs.Runs.{set-sets}
use Rattle.words.proofs.NumLaws.{pow256, part-lt, num-part, num-high, num-one, num-snoc, le-snoc}

-- a number of j bits moved up by k, with a number of k bits under it, in a word of w
pub shl-or : (j k w : ℕ) {a b : ℕ} → a < 2 ^ j → b < 2 ^ k → j + k ≤ w → bit_or ((a * 2 ^ k) % 2 ^ w) b ≡ a * 2 ^ k + b
shl-or j k w {a} {b} ha hb l = ap (λ (x : ℕ). bit_or x b) (shl_exact j k w ha l) ∙ or_shifted a k b hb

-- ---- a straight read, byte by byte from the lowest on

pub reads-one : {b : List ℕ} (at x : ℕ) → Bytes b → x ≡ get_or b at 0 → at < length b → Reads b at 1 x
reads-one {b} at x h e f =
    record { is = e ∙ sym (num-one b at f); below = rw e (byte_at h at) }

pub reads-next : {b : List ℕ} (at n w x : ℕ) → Bytes b → Reads b at n w → x ≡ get_or b (at + n) 0 → n < 8 → at + n < length b
    → Reads b at (n + 1) (bit_or w (x * 2 ^ (8 * n) % 2 ^ 64))
reads-next {b} at n w x h r e l f =
    let small : w < 2 ^ (8 * n) = rw pow256 at r.below in
    let one : x < 2 ^ 8 = rw e (byte_at h (at + n)) in
    let sum : bit_or w (x * 2 ^ (8 * n) % 2 ^ 64) ≡ num (part b at (n + 1)) =
    ap (bit_or w) (shl_exact 8 (8 * n) 64 one (omega arith)) ∙ or_shifted_r x (8 * n) w small ∙ rw (add-one n, num-snoc b at n f, ← e, ← r.is) in
    record { is = sum; below = rw sum (part-lt at (n + 1) h (omega arith)) }

-- ---- a straight write, byte by byte from the lowest on

pub low_byte : (x : ℕ) → bit_and x 255 ≡ x % 256
low_byte x = mask_is x 8

pub puts-next : (b l : List ℕ) (at n v x : ℕ) → l ≡ sets b at (le n v) → x ≡ v / 256 ^ n → set l (at + n) (bit_and x 255) ≡ sets b at (le (n + 1) v)
puts-next b l at n v x e f =
    ap (λ (t : List ℕ). set t (at + n) (bit_and x 255)) e
    ∙ set-sets b at (at + n) (le n v) (bit_and x 255) (ap (λ (k : ℕ). at + k) (sym (length-le n v)))
    ∙ ap (λ (y : ℕ). sets b at (le n v ++ (y ∷ []))) (mask_is x 8 ∙ ap (λ (y : ℕ). y % 256) f)
    ∙ ap (sets b at) (sym (le-snoc n v) ∙ ap (λ (k : ℕ). le k v) (sym (add-one n)))

-- ---- the turns of the loops

-- nothing is read yet
pub reads_none : (b : List ℕ) (at k : ℕ) → k ≡ 0 → Reads b at k 0
unfolding num
reads_none b at k e = rw e (record { is = refl; below = lit< tt })

-- a read from the top down
module _ {b : List ℕ} (at i k r x : ℕ) (h : Bytes b) (p : 0 < i) (q : i ≤ k) (small : k ≤ 8) (fits : at + k ≤ length b) where
  pub reads-turn : Reads b (at + i) (k - i) r → x ≡ get_or b (at + (i - 1)) 0 → Reads b (at + (i - 1)) (k - (i - 1)) (bit_or (r * 2 ^ 8 % 2 ^ 64) x)
  unfolding num
  reads-turn w e =
      let j = at + (i - 1) in
      let less : k - i ≤ 7 = omega arith in
      let low : r < 2 ^ 56 = lt_of_lt_of_le w.below (pow-le-pow_right {n = 256} (lit< tt) less) in
      let one : x < 2 ^ 8 = rw e (byte_at h j) in
      let up : k - (i - 1) ≡ suc (k - i) = omega arith in
      let on : suc j ≡ at + i = omega arith in
      let sum : bit_or (r * 2 ^ 8 % 2 ^ 64) x ≡ num (part b j (k - (i - 1))) =
      shl-or 56 8 64 low one (lit≤ tt) ∙ rw (up, part-cons b j (k - i) (omega arith), on, ← e, ← w.is) (omega arith) in
      record { is = sum; below = rw sum (part-lt j (k - (i - 1)) h (omega arith)) }

-- one byte further on in a number
pub div-next : (v i : ℕ) → v / 256 ^ i / 256 ≡ v / 256 ^ (i + 1)
div-next v i = div-div-eq-div-mul v (256 ^ i) 256 ∙ ap (λ (x : ℕ). v / x) (sym (pow-suc 256 i) ∙ ap (λ (x : ℕ). 256 ^ x) (sym (add-one i)))

-- a copy
pub copy-turn : (x l : List ℕ) (at from i : ℕ) → from + i < length l → set (sets x at (part l from i)) (at + i) (get_or l (from + i) 0) ≡ sets x at
    (part l from (i + 1))
copy-turn x l at from i h =
    set-sets x at (at + i) (part l from i) _ (ap (λ (k : ℕ). at + k) (sym (length_part l from i (omega arith))))
    ∙ ap (sets x at) (sym (part-snoc l from i h))
    ∙ ap (λ (k : ℕ). sets x at (part l from k)) (sym (add-one i))

-- ---- tests by one word

-- a number below 2 ^ k is none once shifted by k, and a larger one is some
pub shift-test : (w k : ℕ) → eqb (w / 2 ^ k) 0 ≡ ltb w (2 ^ k)
shift-test w k =
    ⊎_elim
    (λ (l : w < 2 ^ k). eq-eqb (w / 2 ^ k) 0 (div-eq_of_lt l) ∙ sym (lt-ltb w (2 ^ k) l))
    (λ (g : 2 ^ k ≤ w). ne_eqb (w / 2 ^ k) 0 (λ z. above z g) ∙ sym (le-ltb w (2 ^ k) g))
    (lt-or-le w (2 ^ k))
  where
    above : w / 2 ^ k ≡ 0 → 2 ^ k ≤ w → ⊥
    above z g = omega (arith, rw z at (split w k), mod-lt w (pow_pos k))

-- of two numbers of the same low part's size the high ones decide
ltb-high : (w r m lo : ℕ) → lo < m → ltb w r ≡ ltb (w * m + lo) (r * m)
ltb-high w r m lo h =
    ⊎_elim
    (λ (l : w < r). lt-ltb w r l ∙ sym (lt-ltb (w * m + lo) (r * m) (digits_lt l h)))
    (λ (g : r ≤ w). le-ltb w r g ∙ sym (le-ltb (w * m + lo) (r * m) (omega (arith, mul-le-mul_right {m = r} {n = w} m g))))
    (lt-or-le w r)

module _ {b : List ℕ} (n end : ℕ) (h : Bytes b) (fits : bitmap n ≤ end) (room : end ≤ length b) where
  -- whole words have no bits past n
  pub past-none : n % 64 ≡ 0 → true ≡ ltb (num (part b (end - bitmap n) (bitmap n))) (2 ^ n)
  past-none z =
      let e : 8 * bitmap n ≡ n = omega arith in
      let p : 256 ^ bitmap n ≡ 2 ^ n = pow256 (bitmap n) ∙ ap (λ (k : ℕ). 2 ^ k) e in
      let l : num (part b (end - bitmap n) (bitmap n)) < 256 ^ bitmap n = part-lt (end - bitmap n) (bitmap n) h (omega arith) in
      sym (lt-ltb (num (part b (end - bitmap n) (bitmap n))) (2 ^ n) (subst (λ (k : ℕ). num (part b (end - bitmap n) (bitmap n)) < k) p l))

  -- else those past n are in the last word
  pub past_word : (n % 64 ≡ 0 → ⊥) → (w : ℕ) → w ≡ num (part b (end - 8) 8) → eqb (w / 2 ^ (n % 64)) 0 ≡ ltb (num (part b (end - bitmap n) (bitmap n))) (2 ^ n)
  past_word f w e =
      let k = n / 64 * 8 in
      let at = end - bitmap n in
      let some : 0 < n % 64 = omega (arith, f) in
      let size : bitmap n ≡ k + 8 = omega arith in
      let last : at + k ≡ end - 8 = omega arith in
      let low : num (part b at k) < 256 ^ k = part-lt at k h (omega arith) in
      let all : num (part b at (bitmap n)) ≡ w * 256 ^ k + num (part b at k) =
      ap (λ (m : ℕ). num (part b at m)) size ∙ num-part b at k 8 (omega arith) ∙ ap (λ (m : ℕ). num (part b m 8) * 256 ^ k + num (part b at k)) last
      ∙ ap (λ (m : ℕ). m * 256 ^ k + num (part b at k)) (sym e) in
      let bits : n ≡ n % 64 + 8 * k = omega arith in
      let p : 2 ^ n ≡ 2 ^ (n % 64) * 256 ^ k = ap (λ (m : ℕ). 2 ^ m) bits ∙ pow-add 2 (n % 64) (8 * k) ∙ ap (λ (m : ℕ). 2 ^ (n % 64) * m) (sym (pow256 k)) in
      shift-test w (n % 64) ∙ ltb-high w (2 ^ (n % 64)) (256 ^ k) (num (part b at k)) low ∙ ap₂ ltb (sym all) (sym p)

-- the padding up to next, by the word that ends there
pub pad-word : {b : List ℕ} (end next w s : ℕ) → Bytes b → next ≡ pad end → 8 ≤ next → next ≤ length b → w ≡ num (part b (next - 8) 8) → s ≡ 8 * ((end + 7) % 8)
    → eqb (w / 2 ^ s / 2 ^ 8) 0 ≡ eqb (num (part b end (next - end))) 0
pad-word {b} end next w s h e l room f g =
    let k = (end + 7) % 8 + 1 in
    let p : s + 8 ≡ 8 * k = omega arith in
    let t : 8 ≡ k + (next - end) = omega arith in
    let q : next - 8 + k ≡ end = omega arith in
    ap (λ (x : ℕ). eqb x 0)
    (shr-shr w s 8 ∙ ap (λ (x : ℕ). w / 2 ^ x) p ∙ ap (λ (x : ℕ). w / x) (sym (pow256 k))
    ∙ ap (λ (x : ℕ). x / 256 ^ k) (f ∙ ap (λ (x : ℕ). num (part b (next - 8) x)) t)
    ∙ num-high (next - 8) k (next - end) h (omega arith) ∙ ap (λ (x : ℕ). num (part b x (next - end))) q)
