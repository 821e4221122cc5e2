-- The first byte of a part that is not zero, as a loop from its start meets it. Assumes nothing.
use mathlib.Core.Path.{◌≡◌, refl, sym, ap, ◌∙◌}
use mathlib.Core.Bool.{Bool, true, false}
use mathlib.Core.List.{List, [], ◌∷◌}
use Prim.Native.Nat.{ℕ, zero, suc, ◌+◌, ◌*◌, ◌-◌, ◌/◌, ◌%◌, ◌^◌, ◌≤◌, ◌<◌}
use native.Mathlib.Omega.{arith}
use native.Mathlib.Numerals.{add-one}
use native.Mathlib.Decide.{dec_lt}
use lib.Pow.{pow_mono}
use lib.Dec.{ltb}
use lib.ListN.{length, drop, get_or, length-drop}
use lib.Seq.{drop-drop, drop-cons}
use borrow.Author.Tests.{lt-ltb}
use Rattle.words.specs.Bytes.{Bytes, num, part, bitmap, zeros_ahead, high_bits, past_byte}
use Rattle.words.proofs.NumLaws.{pow256, part-lt}
use Rattle.words.proofs.Parts.{length_part, part-cons, get_d_part, drop-take}

pub part-first : (b : List ℕ) (i stop : ℕ) → i < stop → stop ≤ length b → part b i (stop - i) ≡ get_or b i 0 ∷ part b (i + 1) (stop - (i + 1))
part-first b i stop h l =
    let e : stop - i ≡ suc (stop - (i + 1)) = omega arith in
    rw (e, add-one i) (part-cons b i (stop - suc i) (omega arith))

ahead-zero : (x : ℕ) (r : List ℕ) → x ≡ 0 → zeros_ahead (x ∷ r) ≡ suc (zeros_ahead r)
unfolding zeros_ahead
ahead-zero zero r e = refl
ahead-zero (suc x) r e = absurd (omega arith)

ahead-other : (x : ℕ) (r : List ℕ) → (x ≡ 0 → ⊥) → zeros_ahead (x ∷ r) ≡ 0
unfolding zeros_ahead
ahead-other zero r e = absurd (e refl)
ahead-other (suc x) r e = refl

pub ahead-most : (b : List ℕ) → zeros_ahead b ≤ length b
unfolding zeros_ahead
ahead-most [] = omega arith
ahead-most (zero ∷ b) = omega (arith, ahead-most b)
ahead-most (suc x ∷ b) = omega arith

-- from i on the same byte is found
abbrev pub Found : List ℕ → ℕ → ℕ → ℕ → Type 0
Found b at stop i = i + zeros_ahead (part b i (stop - i)) ≡ at + zeros_ahead (part b at (stop - at))

pub found-on : (b : List ℕ) (at stop i : ℕ) → i < stop → stop ≤ length b → get_or b i 0 ≡ 0 → Found b at stop i → Found b at stop (i + 1)
found-on b at stop i h l z f =
    let e : zeros_ahead (part b i (stop - i)) ≡ suc (zeros_ahead (part b (i + 1) (stop - (i + 1)))) = ap zeros_ahead (part-first b i stop h l)
    ∙ ahead-zero (get_or b i 0) _ z in
    omega arith

pub found_here : (b : List ℕ) (at stop i : ℕ) → i < stop → stop ≤ length b → (get_or b i 0 ≡ 0 → ⊥) → Found b at stop i
    → i ≡ at + zeros_ahead (part b at (stop - at))
found_here b at stop i h l z f =
    let e : zeros_ahead (part b i (stop - i)) ≡ 0 = ap zeros_ahead (part-first b i stop h l) ∙ ahead-other (get_or b i 0) _ z in
    omega arith

pub found_none : (b : List ℕ) (at stop : ℕ) → Found b at stop stop → stop ≡ at + zeros_ahead (part b at (stop - at))
unfolding zeros_ahead
found_none b at stop f =
    let z : stop - stop ≡ 0 = omega arith in
    let e : zeros_ahead (part b stop (stop - stop)) ≡ 0 = ap (λ (n : ℕ). zeros_ahead (part b stop n)) z in
    omega arith

-- ---- a bit past n

-- there is room for one where there is one
pub past_room : {b : List ℕ} (n from : ℕ) → Bytes b → from + bitmap n ≤ length b → ltb (num (part b from (bitmap n))) (2 ^ n) ≡ false → n / 8 < bitmap n
past_room {b} n from hb l e = go (dec_lt (n / 8) (bitmap n))
  where
    m : ℕ
    m = num (part b from (bitmap n))

    go : Dec (n / 8 < bitmap n) → n / 8 < bitmap n
    go (yes r) = r
    go (no r) =
        let p : 2 ^ (8 * bitmap n) ≤ 2 ^ n = pow_mono {i = 8 * bitmap n} {j = n} (omega arith) in
        let q : m < 2 ^ (8 * bitmap n) = rw (← (pow256 (bitmap n))) (part-lt from (bitmap n) hb l) in
        let z : ◌≡◌ {A = Bool} true false = sym (lt-ltb m (2 ^ n) (omega arith)) ∙ e in
        let y : ◌≡◌ {A = ℕ} 0 1 = cc in
        absurd (omega arith)

module _ (b : List ℕ) (n stop : ℕ) (l : bitmap n ≤ stop) (h : stop ≤ length b) (r : n / 8 < bitmap n) where
  abbrev from : ℕ
  from = stop - bitmap n

  abbrev m : List ℕ
  m = part b from (bitmap n)

  -- the bits past n: of the byte numbered n / 8, and the bytes behind it
  bits_are : high_bits (n % 8) (drop (n / 8) m) ≡ get_or b (from + n / 8) 0 / 2 ^ (n % 8) ∷ part b (from + n / 8 + 1) (stop - (from + n / 8 + 1))
  unfolding high_bits
  bits_are =
      let o : from + suc (n / 8) ≡ from + n / 8 + 1 = omega arith in
      let k : bitmap n - suc (n / 8) ≡ stop - (from + n / 8 + 1) = omega arith in
      let d : drop (suc (n / 8)) m ≡ part b (from + n / 8 + 1) (stop - (from + n / 8 + 1)) = drop-take (suc (n / 8)) (bitmap n) (drop from b)
      ∙ rw (drop-drop (suc (n / 8)) from b, o, k) in
      rw (drop-cons m (n / 8) 0 (rw (length_part b from (bitmap n) (omega arith)) r), get_d_part b from (bitmap n) (n / 8) r, d)

  pub past-here : (get_or b (from + n / 8) 0 / 2 ^ (n % 8) ≡ 0 → ⊥) → from + n / 8 ≡ from + past_byte n m
  unfolding past_byte
  past-here z = rw (bits_are, ahead-other (get_or b (from + n / 8) 0 / 2 ^ (n % 8)) _ z) (omega arith)

  pub past-later : get_or b (from + n / 8) 0 / 2 ^ (n % 8) ≡ 0 → (q : ℕ)
      → q ≡ from + n / 8 + 1 + zeros_ahead (part b (from + n / 8 + 1) (stop - (from + n / 8 + 1))) → q ≡ from + past_byte n m
  unfolding past_byte
  past-later z q g = rw (bits_are, ahead-zero (get_or b (from + n / 8) 0 / 2 ^ (n % 8)) _ z) (omega arith)

high-length : (r : ℕ) (m : List ℕ) → length (high_bits r m) ≡ length m
unfolding high_bits
high-length r [] = refl
high-length r (x ∷ m) = refl

-- it is a byte of the bitmap, or the next
pub past-most : (n : ℕ) (m : List ℕ) → n / 8 ≤ length m → past_byte n m ≤ length m
unfolding past_byte
past-most n m h = omega (arith, ahead-most (high_bits (n % 8) (drop (n / 8) m)), high-length (n % 8) (drop (n / 8) m), length-drop (n / 8) m)
