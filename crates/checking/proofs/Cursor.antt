-- A child that varies and is not null, as the loop over children meets it: one law for each way through the loop's body. Assumes nothing.
use mathlib.Core.Path.{◌≡◌, refl, sym, ap, ◌∙◌, subst}
use mathlib.Core.Bool.{Bool, true, false, not}
use mathlib.Core.List.{List, ◌∷◌}
use Prim.Native.Nat.{ℕ, suc, ◌+◌, ◌*◌, ◌-◌, ◌/◌, ◌%◌, ◌^◌, ◌≤◌, ◌<◌}
use native.Mathlib.Decide.{dec_lt, ℕ_discrete}
use native.Mathlib.Omega.{arith}
use mir.Val.{Fits}
use mir.Syntax.{w64}
use lib.Dec.{eqb}
use lib.ListN.{length}
use borrow.Author.Tests.{eq-eqb, ne_eqb, eqb-true}
use Rattle.words.specs.Bytes.{num, pad, bitmap, part, zeros_ahead}
use Rattle.words.specs.Bits.{bit}
use Rattle.words.specs.Slots.{Offset, Size}
use Rattle.words.proofs.Parts.{length_part}
use Rattle.layout.specs.Tiles.{Range, range, total, Stands}
use Rattle.layout.specs.Layout.{front, codec}
use Rattle.layout.proofs.Tiles.{stands-next}
use Rattle.spelling.specs.Spelling.{Padded}
use Rattle.standing.specs.Standing.{range_at}
use Rattle.checking.specs.Sound.{fault_of, in_child, fault_from}
use Rattle.checking.specs.Room.{Unfit, Asked}
use Rattle.checking.proofs.Tests.{passed, part_small, found-fits, no_bytes, ChildIs, child-slot, child-bad, child-unpadded, child-next}
use Rattle.checking.proofs.Containers.{Eights, child-asks}
use Rattle.checking.proofs.Children.{good-off, good-outside}
use Rattle.checking.proofs.Loops.{
  Held,
  head_of,
  kids_of,
  type_in,
  vary_in,
  fault_in,
  held-count,
  held-kid,
  Slots,
  before,
  StandsHere,
  At,
  astray,
  ranges_more,
  slots-fit,
  front-is,
  slot_at,
  loop-slot,
}

-- its slot says the offset o
pub record Told {k : Held} {b : List ℕ} {n slots start i slot cur stop done since : ℕ}
    (a : At k b n slots start i slot cur stop done since) (o : ℕ) : Type 0 where
  pub less : i < stop
  pub ranged : vary_in k i ≡ true
  pub here : bit b (head_of k) i ≡ false
  pub says : Offset b slot o

module _ {k : Held} {b : List ℕ} {n slots start i slot cur stop done since : ℕ}
    {a : At k b n slots start i slot cur stop done since} {o : ℕ} (t : Told a o) where
  -- the cursor moves there
  pub told-moves : {r : ℕ} → Asked (Unfit (head_of k) (vary_in k) b n) stop done r → At k b n slots start i slot o r (done + (cur - since)) o
  told-moves {r} q = go (ℕ_discrete done 0)
    where
      moved : i ≤ r → Unfit (head_of k) (vary_in k) b n r → At k b n slots start i slot o r (done + (cur - since)) o
      moved l u = record {
        fixed = a.fixed;
        most = l;
        within = u.most;
        slot_is = a.slot_is;
        begun = omega arith;
        near = omega (arith, t.says.below);
        sum = omega (arith, a.sum);
        few = omega (arith, a.few);
        same = a.same;
        order = λ e. absurd (omega (arith, a.sum, a.fixed.data₀, t.less, a.within));
        asked = λ _. u;
      }

      -- those before it stand
      first : (e : done ≡ 0) → Dec (r < i) → i ≤ r
      first e (yes l) = absurd ((q.fresh e).fault (omega (arith, a.most, a.within)) ((a.order e).stood r l))
      first e (no l) = omega arith

      go : Dec (done ≡ 0) → At k b n slots start i slot o r (done + (cur - since)) o
      go (yes e) = moved (first e (dec_lt r i)) (q.fresh e)
      go (no ne) = moved (omega (arith, q.kept ne, t.less)) (subst (Unfit (head_of k) (vary_in k) b n) (sym (q.kept ne)) (a.asked ne))

  pub told-less : (o ≡ cur → ⊥) → 2 * (n - i) + astray b slot o < 2 * (n - i) + astray b slot cur
  unfolding astray
  told-less ne =
      let e : num (part b slot 8) / 2 ^ 32 ≡ o = sym t.says.is in
      rw (e, eq-eqb o o refl, ne_eqb o cur ne) (omega arith)

range-is : (x cur z : ℕ) → cur ≡ x / 2 ^ 32 → z ≡ x % 2 ^ 32 → range (x / 2 ^ 32) (pad (x % 2 ^ 32)) ≡ range cur (pad z)
range-is x cur z f s = rw (f, s)

-- where the value stops
pub stop-fits : {k : Held} {b : List ℕ} {n slots start i slot cur stop done since : ℕ} → At k b n slots start i slot cur stop done since
    → {z : ℕ} → Size b slot z → Fits w64 (cur + z)
stop-fits a r = omega (arith, a.near, r.below)

pub stop-small : {k : Held} {b : List ℕ} {n slots start i slot cur stop done since : ℕ} → At k b n slots start i slot cur stop done since
    → {z : ℕ} → Size b slot z → cur + z < 2 ^ 40
stop-small a r = omega (arith, a.near, r.below)

-- its slot says the cursor, and z bytes
module _ {k : Held} {b : List ℕ} {n slots start i slot cur stop done since : ℕ}
    {a : At k b n slots start i slot cur stop done since} {o : ℕ} (t : Told a o) (from : o ≡ cur) {z : ℕ} (size : Size b slot z) where
  abbrev x : ℕ
  x = num (part b slot 8)

  x-offset : cur ≡ x / 2 ^ 32
  x-offset = sym from ∙ t.says.is

  ex : x ≡ num (part b (head_of k + bitmap n + 8 * i) 8)
  ex = let p : slot ≡ head_of k + bitmap n + 8 * i = omega (arith, a.slot_is, a.fixed.map) in ap (λ (q : ℕ). num (part b q 8)) p

  own : range_at b (head_of k + bitmap n + 8 * i) ≡ range cur (pad z)
  own = ap (λ (y : ℕ). range (y / 2 ^ 32) (pad (y % 2 ^ 32))) (sym ex) ∙ range-is x cur z x-offset size.is

  front-slot : slot ≡ head_of k + bitmap (length (kids_of k)) + i * 8
  front-slot = omega (arith, a.slot_is, a.fixed.map, slot_at a.fixed i)

  ex' : x ≡ num (part b (head_of k + bitmap (length (kids_of k)) + i * 8) 8)
  ex' = ex ∙ ap (λ (q : ℕ). num (part b q 8)) (sym (slot_at a.fixed i))

  -- which end behind the container
  pub past_end : length b < cur + z → slot + 2 ≡ fault_in k b
  past_end g =
      let p : slot + 2 ≡ suc (suc (head_of k + bitmap (length (kids_of k)) + i * 8)) = omega (arith, front-slot) in
      let d = a.fixed in
      p ∙ sym (good-off (head_of k) 8 (kids_of k) b (slots-fit d) d.bytes i (omega (arith, t.less, a.within, held-count k d.right)) (before k b n i)
      (codec (type_in k i))
      (held-kid k d.right i (omega (arith, t.less, a.within)) t.ranged) refl t.here x ex' off)
      ∙ a.same
    where
      off : Stands (front (head_of k) 8 (length (kids_of k))) (length b) (before k b n i) (range (x / 2 ^ 32) (pad (x % 2 ^ 32))) → ⊥
      off s = let hi : x / 2 ^ 32 + pad (x % 2 ^ 32) ≤ length b = s.high in omega (arith, x-offset, size.is)

pad-in : (cur z : ℕ) {next len : ℕ} → cur % 8 ≡ 0 → next ≡ pad (cur + z) → next ≤ len → cur + pad z ≤ len
pad-in cur z e t r = omega arith

-- they lie in the container, and end at next with their padding
pub record Here {k : Held} {b : List ℕ} {n slots start i slot cur stop done since : ℕ}
    (a : At k b n slots start i slot cur stop done since) (o z next : ℕ) : Type 0 where
  pub told : Told a o
  pub from : o ≡ cur
  pub size : Size b slot z
  pub end : cur + z ≤ length b
  pub to : next ≡ pad (cur + z)

module _ {k : Held} {b : List ℕ} {n slots start i slot cur stop done since : ℕ}
    {a : At k b n slots start i slot cur stop done since} {o z next : ℕ} (t : Here a o z next) where
  abbrev dd : Slots k b n slots start
  dd = a.fixed

  abbrev contents : List ℕ
  contents = part b cur (cur + z - cur)

  abbrev blank : List ℕ
  blank = part b (cur + z) (next - (cur + z))

  less : i < stop
  less = t.told.less

  mine : range_at b (head_of k + bitmap n + 8 * i) ≡ range cur (pad z)
  mine = own t.told t.from t.size

  -- the container is whole units
  room : next ≤ length b
  room = omega (arith, t.end, t.to, dd.whole)

  abbrev There : ℕ → Range → Type 0
  There q r = Stands q (length b) (before k b n i) r

  stands : There (head_of k + bitmap n + 8 * n) (range cur (pad z))
  stands = go (ℕ_discrete done 0)
    where
      go : Dec (done ≡ 0) → There (head_of k + bitmap n + 8 * n) (range cur (pad z))
      go (yes e) =
          let o = a.order e in
          let c : head_of k + bitmap n + 8 * n + total (before k b n i) ≡ cur = omega (arith, a.sum, o.from_zero, dd.map, dd.data₀) in
          subst (λ (q : ℕ). There (head_of k + bitmap n + 8 * n) (range q (pad z))) c
          (stands-next (head_of k + bitmap n + 8 * n) (length b) (before k b n i) (pad z) o.packed (rw c o.eight)
          (rw c (pad-in cur z o.eight t.to room)))
      go (no ne) = subst (There (head_of k + bitmap n + 8 * n)) mine ((a.asked ne).stand i less t.told.ranged t.told.here)

  eight : cur % 8 ≡ 0
  eight = stands.eight

  low : start ≤ cur
  low = omega (arith, stands.low, dd.map, dd.data₀)

  pub here-pad : (8 ≤ next) × (next ≤ length b) × (cur + z < 2 ^ 40) × (next ≡ pad (cur + z))
  here-pad = (omega (arith, t.to, low, dd.data₀, less, a.within), room, omega (arith, t.to, dd.small), t.to)

  here-short : length contents ≤ 16384
  here-short = part_small b cur (cur + z - cur) dd.small

  -- its contents, then its padding
  child : ChildIs b slot cur (fault_of (type_in k i) contents) (cur + z) next (fault_from (head_of k) 8 (kids_of k) b (i + 1) (range cur (pad z) ∷ before k b n i))
      (fault_in k b)
  unfolding fault_of
  child =
      let g : cur + z - cur ≡ z = omega arith in
      let c = good-outside (head_of k) 8 (kids_of k) b (slots-fit dd) dd.bytes i (omega (arith, less, a.within, held-count k dd.right))
      (before k b n i) (codec (type_in k i))
      (held-kid k dd.right i (omega (arith, less, a.within)) t.told.ranged) refl t.told.here _ (ex' t.told t.from t.size) cur z next
      (sym (x-offset t.told t.from t.size)) t.size.is (omega (arith, t.to, eight))
      (subst (λ (q : ℕ). There q (range cur (pad z))) (sym (front-is dd)) stands) in
      record { is = sym (c ∙ rw (← front-slot t.told t.from t.size, g)) ∙ a.same }

  goes : fault_of (type_in k i) contents ≡ 0 → num blank ≡ 0 → At k b n slots start (i + 1) (slot + 8) next stop done since
  unfolding total
  goes g p =
      let e : before k b n (i + 1) ≡ range cur (pad z) ∷ before k b n i =
      ranges_more k b n i t.told.ranged t.told.here ∙ ap (λ (r : Range). r ∷ before k b n i) mine in
      record {
        fixed = dd;
        most = omega (arith, less);
        within = a.within;
        slot_is = omega (arith, a.slot_is);
        begun = omega (arith, a.begun, t.to);
        near = omega (arith, room, dd.small);
        sum = rw e (omega (arith, a.sum, a.begun, t.to, eight));
        few = omega (arith, a.few, a.begun, t.to, eight, room, dd.small);
        same = rw e (child-next child g p);
        order = λ q. let o = a.order q in record {
          whole = o.whole;
          from_zero = o.from_zero;
          packed = rw e (omega (arith, a.sum, o.from_zero, dd.map, dd.data₀), o.packed);
          eight = omega (arith, t.to);
          high = room;
          stood = λ j m. go q j m (dec_lt j i);
        };
        asked = a.asked;
      }
    where
      go : done ≡ 0 → (j : ℕ) → j < i + 1 → Dec (j < i) → StandsHere k b n j
      go q j m (yes m') = (a.order q).stood j m'
      go q j m (no m') = let e : i ≡ j = omega arith in subst (StandsHere k b n) e (λ _ _. subst (There (head_of k + bitmap n + 8 * n)) (sym mine) stands)

  module _ {r : ℕ} (er : r ≡ fault_of (type_in k i) contents) where
    pub here-asks : (r ≡ 0 → ⊥) → (1 ≤ r) × (r ≤ 65536) × (slot ≤ 65536) × (cur ≤ 65536)
    here-asks ne =
        child-asks (type_in k i) contents er ne here-short (omega (arith, loop-slot a less, dd.small)) (omega (arith, t.end, dd.small))

    pub here-bad : (r ≡ 0 → ⊥) → {y : ℕ} → y ≡ in_child slot cur r 0 → y ≡ fault_in k b
    here-bad ne ey = child-bad child er ne ey

    -- behind a container there is no padding
    pub here-whole : Eights (type_in k i) → r ≡ 0 → At k b n slots start (i + 1) (slot + 8) next stop done since
    here-whole w e =
        let g : fault_of (type_in k i) contents ≡ 0 = sym er ∙ e in
        goes g (no_bytes b (cur + z) next (omega (arith, w contents g, length_part b cur (cur + z - cur) (omega (arith, t.end)), eight, t.to)))

  -- the bytes of a string or a binary
  pub here-padded : Padded b cur (cur + z) next
  here-padded = record { from = omega arith; pad = omega (arith, t.to); word = here-pad.0; room = room }

  -- which are not what they should be
  pub here-misspelled : fault_of (type_in k i) contents ≡ 1 → slot + 2 ≡ fault_in k b
  here-misspelled g = child-bad child (sym g) (λ e. omega arith) (child-slot slot cur 1 refl)

  -- or are
  module _ (g : fault_of (type_in k i) contents ≡ 0) {v : Bool} (e : v ≡ eqb (num blank) 0) where
    pub here-unpadded : not v ≡ true → {y : ℕ} → y ≡ cur + z + zeros_ahead blank → y + 2 ≡ fault_in k b
    here-unpadded q ey = child-unpadded child g e q ey

    pub here-next : not v ≡ false → At k b n slots start (i + 1) (slot + 8) next stop done since
    here-next q = goes g (eqb-true _ 0 (passed e q))

  pub here-search : (cur + z ≤ next) × (next ≤ length b)
  here-search = (omega (arith, t.to), room)

  pub here_found : {y : ℕ} → y ≡ cur + z + zeros_ahead blank → Fits w64 (y + 2)
  here_found e = found-fits b (cur + z) next e here-search.0 room dd.small
