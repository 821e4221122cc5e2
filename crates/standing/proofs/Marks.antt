-- The maps of taken units: what the loops over them do, and what their bits are then. Assumes nothing.
use mathlib.Core.Path.{◌≡◌, refl, sym, ap, ◌∙◌}
use mathlib.Core.Bool.{Bool, true, false, cond, true≢false}
use mathlib.Core.List.{List}
use Prim.Native.Nat.{ℕ, zero, suc, ◌+◌, ◌*◌, ◌-◌, ◌/◌, ◌%◌, ◌^◌, ◌≤◌, ◌<◌}
use native.Mathlib.Decide.{dec_lt, ℕ_discrete}
use native.Mathlib.Nat.{lt_of_lt_of_le, mod-lt, mod-eq_of_lt, one-mul}
use native.Mathlib.Numerals.{add-one}
use native.Mathlib.Omega.{arith}
use lib.ListN.{length, get_or, set}
use lib.Bits.{bit_and, bit_or}
use lib.Pow.{pow-lt}
use Rattle.words.proofs.Powers.{mask_is, eights, no-eights}
use Rattle.words.specs.Bytes.{pad}
use Rattle.words.specs.Bits.{bit_of, with_bit, bit, put_bit}
use Rattle.words.specs.Slots.{Offset, Size}
use Rattle.words.proofs.BitLaws.{or-bit, bit-with, with-same, with_byte, length-put}
use Rattle.layout.specs.Tiles.{Range, ends}
use Rattle.standing.specs.Maps.{both, clear_from, marked, admits, taken, admitted, places, with_range}
use Rattle.standing.specs.Standing.{range_at, Placing, PlacingChild}
use borrow.Author.Tests.{eq-eqb, ne_eqb, lt-ltb, le-ltb}
use lib.Dec.{eqb, ltb, lit<, lit≤}

both_false : (x : Bool) → both x false ≡ false
both_false true = refl
both_false false = refl

-- ---- the loops

pub clear-set : (m : List ℕ) (at a b : ℕ) → a < b → bit m at a ≡ true → clear_from m at a (b - a) ≡ false
unfolding clear_from
clear-set m at a b h e = let n : b - a ≡ suc (b - suc a) = omega arith in rw (n, e)

pub clear_step : (m : List ℕ) (at a b : ℕ) → a < b → bit m at a ≡ false → clear_from m at a (b - a) ≡ clear_from m at (a + 1) (b - (a + 1))
unfolding clear_from
clear_step m at a b h e = let n : b - a ≡ suc (b - suc a) = omega arith in rw (add-one a, n, e)

pub clear-end : (m : List ℕ) (at a b : ℕ) → b ≤ a → clear_from m at a (b - a) ≡ true
unfolding clear_from
clear-end m at a b h = let n : b - a ≡ 0 = omega arith in rw n

pub marked_step : (m : List ℕ) (at a b : ℕ) → a < b → marked m at a (b - a) ≡ marked (put_bit m at a true) at (a + 1) (b - (a + 1))
unfolding marked
marked_step m at a b h = let n : b - a ≡ suc (b - suc a) = omega arith in rw (add-one a, n)

pub marked-end : (m : List ℕ) (at a b : ℕ) → b ≤ a → marked m at a (b - a) ≡ m
unfolding marked
marked-end m at a b h = let n : b - a ≡ 0 = omega arith in rw n

pub length_marked : (m : List ℕ) (at a n : ℕ) → length (marked m at a n) ≡ length m
unfolding marked
length_marked m at a zero = refl
length_marked m at a (suc n) = length_marked (put_bit m at a true) at (suc a) n ∙ length-put m at a true

-- ---- what a further value finds

module _ (m : List ℕ) (a b : ℕ) where
  pub admit-inside : a ≡ b → bit m 264 a ≡ true → (false ≡ admits m a b) × (m ≡ admitted m a b false)
  unfolding admits admitted
  admit-inside e f = (rw (eq-eqb a b e, f), refl)

  pub admit-empty : a ≡ b → bit m 264 a ≡ false → (m' : List ℕ) → m' ≡ put_bit m 528 a true → (true ≡ admits m a b) × (m' ≡ admitted m a b true)
  unfolding admits admitted taken
  admit-empty e f m' g = (rw (eq-eqb a b e, f), rw (eq-eqb a b e) g)

  module _ (ne : a ≡ b → ⊥) where
    pub admit-taken : clear_from m 0 a (b - a) ≡ false → (false ≡ admits m a b) × (m ≡ admitted m a b false)
    unfolding admits admitted
    admit-taken f = (rw (ne_eqb a b ne, f), refl)

    pub admit-over : clear_from m 528 (a + 1) (b - (a + 1)) ≡ false → (false ≡ admits m a b) × (m ≡ admitted m a b false)
    unfolding admits admitted
    admit-over f = (rw (ne_eqb a b ne, rw (add-one a) at f) (sym (both_false (clear_from m 0 a (b - a)))), refl)

    pub admit-full : clear_from m 0 a (b - a) ≡ true → clear_from m 528 (a + 1) (b - (a + 1)) ≡ true → (m₁ m₂ : List ℕ) → m₁ ≡ marked m 0 a (b - a)
        → m₂ ≡ marked m₁ 264 (a + 1) (b - (a + 1))
        → (true ≡ admits m a b) × (m₂ ≡ admitted m a b true)
    unfolding admits admitted taken
    admit-full f g m₁ m₂ e h = (rw (ne_eqb a b ne, f, rw (add-one a) at g), rw (ne_eqb a b ne) (h ∙ rw (e, add-one a)))

-- ---- one unit, by the byte that has its bit, and x the mask of that bit

pub unit-mask : (a : ℕ) → 1 * 2 ^ bit_and a 7 % 2 ^ 64 ≡ 2 ^ (a % 8)
unit-mask a =
    let l : 2 ^ (a % 8) < 2 ^ 64 = pow-lt {j = 64} (lt_of_lt_of_le (mod-lt a (lit< tt)) (lit≤ {m = 8} {n = 64} tt)) in
    rw (mask_is a 3, one-mul) (mod-eq_of_lt l)

module _ (m : List ℕ) (a : ℕ) {old x : ℕ} (was : old ≡ get_or m (a / 8) 0) (is : x ≡ 2 ^ (a % 8)) where
  with_unit : bit_or old x ≡ with_bit old (a % 8) true
  with_unit = ap (bit_or old) is ∙ or-bit old (a % 8)

  first-map : 0 + a / 8 ≡ a / 8
  first-map = omega arith

  pub unit-fits : old < 256 → bit_or old x < 256
  unit-fits h = rw with_unit (with_byte old (a % 8) true (mod-lt a (lit< tt)) h)

  pub unit-taken : bit_or old x ≡ old → (false ≡ admits m a (a + 1)) × (m ≡ admitted m a (a + 1) false)
  unit-taken e =
      let f : bit m 0 a ≡ true = rw (first-map, ← was, ← e, with_unit) (bit-with old (a % 8) true) in
      admit-taken m a (a + 1) (λ e. omega arith) (clear-set m 0 a (a + 1) (omega arith) f)

  pub unit-free : (bit_or old x ≡ old → ⊥) → (true ≡ admits m a (a + 1)) × (set m (a / 8) (bit_or old x) ≡ admitted m a (a + 1) true)
  unit-free n =
      let f : bit m 0 a ≡ false = rw (first-map, ← was) (go (bit_of old (a % 8)) refl) in
      let g : set m (a / 8) (bit_or old x) ≡ put_bit m 0 a true = rw (first-map, with_unit, was) in
      let e = marked_step m 0 a (a + 1) (omega arith) ∙ marked-end (put_bit m 0 a true) 0 (a + 1) (a + 1) (omega arith) in
      admit-full m a (a + 1) (λ e. omega arith) (clear_step m 0 a (a + 1) (omega arith) f ∙ clear-end m 0 (a + 1) (a + 1) (omega arith))
      (clear-end m 528 (a + 1) (a + 1) (omega arith)) _ _ (g ∙ sym e) (sym (marked-end _ 264 (a + 1) (a + 1) (omega arith)))
    where
      go : (v : Bool) → bit_of old (a % 8) ≡ v → bit_of old (a % 8) ≡ false
      go false q = q
      go true q = absurd (n (with_unit ∙ ap (with_bit old (a % 8)) (sym q) ∙ with-same old (a % 8)))

-- ---- the place of a value

pub place-low : {m : List ℕ} {start len : ℕ} {r : Range} {from : ℕ} → from ≡ r.start → from < start → Placing m start len r false m
unfolding places with_range admitted
place-low {start = start} {r = r} e h = record { is = rw (lt-ltb r.start start (omega arith)); maps = refl }

odd : {m : List ℕ} {start len : ℕ} {r : Range} {from : ℕ} → from ≡ r.start → start ≤ from → (from % 8 ≡ 0 → ⊥) → Placing m start len r false m
unfolding places with_range admitted
odd {start = start} {r = r} e l h = record {
  is = rw (le-ltb r.start start (omega arith), ne_eqb (r.start % 8) 0 (λ z. h (ap (λ (u : ℕ). u % 8) e ∙ z)));
  maps = refl;
}

pub place-odd : {m : List ℕ} {start len : ℕ} {r : Range} {from : ℕ} → from ≡ r.start → start ≤ from → (bit_and from 7 ≡ 0 → ⊥)
    → Placing m start len r false m
place-odd e l h = odd e l (no-eights _ h)

-- it begins at from, at or behind start, and has size bytes without its padding
pub record Bounds (start : ℕ) (r : Range) (from size : ℕ) : Type 0 where
  pub from_is : from ≡ r.start
  pub ends_is : ends r ≡ from + pad size
  pub low : start ≤ from

module _ {start : ℕ} {r : Range} {from size : ℕ} (d : Bounds start r from size) where
  first : start ≤ r.start
  first = omega (arith, d.from_is, d.low)

  eight : from % 8 ≡ 0 → r.start % 8 ≡ 0
  eight e = omega (arith, d.from_is)

  module _ {m : List ℕ} {len : ℕ} where
    pub place-long : len < from + size → Placing m start len r false m
    unfolding places with_range admitted
    place-long h = go (ℕ_discrete (from % 8) 0)
      where
        go : Dec (from % 8 ≡ 0) → Placing m start len r false m
        go (yes e) = record {
          is = rw (le-ltb r.start start first, eq-eqb (r.start % 8) 0 (eight e), lt-ltb len (ends r) (omega (arith, d.ends_is)));
          maps = refl;
        }
        go (no n) = odd d.from_is d.low n

    module _ (f : bit_and from 7 ≡ 0) (w : len % 8 ≡ 0) (h : from + size ≤ len) where
      pub place-beside : {next : ℕ} → next ≡ pad (from + size) → {v : Bool} {m' : List ℕ}
          → (v ≡ admits m (from / 8) (next / 8)) × (m' ≡ admitted m (from / 8) (next / 8) v)
          → Placing m start len r v m'
      unfolding places with_range
      place-beside {next} n a =
          let even = eights from f in
          let z : next ≡ ends r = omega (arith, d.ends_is, even) in
          record {
            is = rw (le-ltb r.start start first, eq-eqb (r.start % 8) 0 (eight even), le-ltb len (ends r) (omega (arith, d.ends_is, even)))
                (rw (d.from_is, z) at a.0);
            maps = rw (d.from_is, z) at a.1;
          }

      -- it takes one unit
      pub place-unit : (size ≡ 0 → ⊥) → size ≤ 8 → {v : Bool} {m' : List ℕ}
          → (v ≡ admits m (from / 8) (from / 8 + 1)) × (m' ≡ admitted m (from / 8) (from / 8 + 1) v)
          → Placing m start len r v m'
      place-unit o l a = let z : from / 8 + 1 ≡ pad (from + size) / 8 = omega (arith, eights from f) in place-beside refl (rw z at a)

-- where the value of a slot begins, and its size
pub slot-bounds : {b : List ℕ} {slot from size start : ℕ} → Offset b slot from → Size b slot size → start ≤ from → Bounds start (range_at b slot) from size
slot-bounds f z l = record { from_is = f.is; ends_is = rw (f.is, z.is); low = l }

-- a child that is null, and one that is there, by its bit
module _ {m b : List ℕ} {h i slot start : ℕ} {x : Bool} (e : x ≡ bit b h i) where
  pub child-null : x ≡ true → PlacingChild m b h i slot start true m
  child-null f = record { null = λ z. (refl, refl); there = λ z. absurd (true≢false (sym f ∙ e ∙ z)) }

  pub child-there : x ≡ false → {v : Bool} {m' : List ℕ} → Placing m start (length b) (range_at b slot) v m' → PlacingChild m b h i slot start v m'
  child-there f p = record { null = λ z. absurd (true≢false (sym z ∙ sym e ∙ f)); there = λ z. p }

-- what an answer says
pub record Beside (m : List ℕ) (start len : ℕ) (r : Range) : Type 0 where
  pub low : start ≤ r.start
  pub even : r.start % 8 ≡ 0
  pub high : ends r ≤ len
  pub admits : admits m (r.start / 8) (ends r / 8) ≡ true

module _ {m : List ℕ} {start len : ℕ} {r : Range} where
  pub places-yes : places m start len r ≡ true → Beside m start len r
  unfolding places
  places-yes e = go (dec_lt r.start start) (ℕ_discrete (r.start % 8) 0) (dec_lt len (ends r)) e
    where
      go : Dec (r.start < start) → Dec (r.start % 8 ≡ 0) → Dec (len < ends r) → cond (ltb r.start start) false
          (cond (eqb (r.start % 8) 0) (cond (ltb len (ends r)) false (admits m (r.start / 8) (ends r / 8))) false) ≡ true → Beside m start len r
      go (yes a) b c e = absurd (true≢false (sym (rw (lt-ltb r.start start a) at e)))
      go (no a) (no b) c e = absurd (true≢false (sym (rw (le-ltb r.start start (omega arith), ne_eqb (r.start % 8) 0 b) at e)))
      go (no a) (yes b) (yes c) e =
          absurd (true≢false (sym (rw (le-ltb r.start start (omega arith), eq-eqb (r.start % 8) 0 b, lt-ltb len (ends r) c) at e)))
      go (no a) (yes b) (no c) e = record {
        low = omega arith;
        even = b;
        high = omega arith;
        admits = rw (le-ltb r.start start (omega arith), eq-eqb (r.start % 8) 0 b, le-ltb len (ends r) (omega arith)) at e;
      }

  pub places-no : places m start len r ≡ false → Beside m start len r → ⊥
  unfolding places
  places-no e s =
      true≢false (sym (rw (le-ltb r.start start s.low, eq-eqb (r.start % 8) 0 s.even, le-ltb len (ends r) s.high, s.admits)) ∙ e)
