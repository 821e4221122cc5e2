-- A fixed-width field in its slot, judged by the slot's number. Assumes nothing.
use mathlib.Core.Path.{◌≡◌, refl, sym, ap, ◌∙◌}
use mathlib.Core.Bool.{Bool, true, false, cond}
use mathlib.Core.List.{List}
use Prim.Native.Nat.{ℕ, zero, suc, ◌+◌, ◌*◌, ◌-◌, ◌/◌, ◌^◌, ◌≤◌, ◌<◌}
use native.Mathlib.Decide.{dec_lt, ℕ_discrete}
use native.Mathlib.Omega.{arith}
use mir.Val.{Fits}
use mir.Syntax.{w64}
use lib.Dec.{eqb, ltb}
use borrow.Author.Tests.{eq-eqb, ne_eqb, eqb-true, eqb-false, lt-ltb, le-ltb}
use lib.ListN.{get_or}
use Rattle.words.specs.Bytes.{Bytes, num, part, zeros_ahead}
use Rattle.words.specs.Bits.{bit}
use Rattle.words.specs.Reads.{Reads}
use Rattle.words.proofs.Parts.{length_part}
use Rattle.words.proofs.NumLaws.{part-lt, num-high, num-part, num-one, pow256}
use Rattle.schema.specs.Marks.{types, line}
use Rattle.schema.specs.Types.{Fixed, bo, i1, i2, i4, i8, f4, f8, width, fixed_place, fixed_at}
use Rattle.schema.proofs.Table.{width-8, place-fixed, line-width, bool-one}
use Rattle.table.specs.Words.{top_bit, place_in, top_in, width_in}
use Rattle.layout.specs.Layout.{number, limit}
use Rattle.layout.proofs.Widths.{limit-free, bool-two}
use Rattle.checking.specs.Sound.{code, in_child}
use Rattle.checking.specs.Room.{FieldRoom, field_then, field_good}
use Rattle.checking.proofs.Tests.{child-sound, found-fits}
use Rattle.checking.proofs.Leaves.{number-judged, no-zeros}

bool-wide : (f : Fixed) → width f ≡ 8 → fixed_place f ≡ 0 → ⊥
unfolding width types fixed_place
bool-wide bo e h = omega arith
bool-wide i1 e h = omega arith
bool-wide i2 e h = omega arith
bool-wide i4 e h = omega arith
bool-wide i8 e h = omega arith
bool-wide f4 e h = omega arith
bool-wide f8 e h = omega arith

-- only an int64 and a float64 have 63 for their highest bit, and 8 bytes
top-whole : (k : ℕ) → k < 7 → top_bit k ≡ 63 → (line k).width ≡ 8
unfolding types
top-whole zero h e = absurd (omega arith)
top-whole (suc zero) h e = absurd (omega arith)
top-whole (suc (suc zero)) h e = absurd (omega arith)
top-whole (suc (suc (suc zero))) h e = absurd (omega arith)
top-whole (suc (suc (suc (suc zero)))) h e = refl
top-whole (suc (suc (suc (suc (suc zero))))) h e = absurd (omega arith)
top-whole (suc (suc (suc (suc (suc (suc zero)))))) h e = refl
top-whole (suc (suc (suc (suc (suc (suc (suc k))))))) h e = absurd (omega arith)

top_small : (k : ℕ) → k < 7 → top_bit k < 64
top_small zero h = omega arith
top_small (suc zero) h = omega arith
top_small (suc (suc zero)) h = omega arith
top_small (suc (suc (suc zero))) h = omega arith
top_small (suc (suc (suc (suc zero)))) h = omega arith
top_small (suc (suc (suc (suc (suc zero))))) h = omega arith
top_small (suc (suc (suc (suc (suc (suc zero)))))) h = omega arith
top_small (suc (suc (suc (suc (suc (suc (suc k))))))) h = absurd (omega arith)

-- what stands above the highest bit of a shorter number stands behind its bytes
top-rest : (k x : ℕ) → k < 7 → (k ≡ 0 → ⊥) → (top_bit k ≡ 63 → ⊥) → x / 2 / 2 ^ top_bit k ≡ x / 2 ^ (8 * (line k).width)
unfolding types
top-rest zero x h a b = absurd (a refl)
top-rest (suc zero) x h a b = omega arith
top-rest (suc (suc zero)) x h a b = omega arith
top-rest (suc (suc (suc zero))) x h a b = omega arith
top-rest (suc (suc (suc (suc zero)))) x h a b = absurd (b refl)
top-rest (suc (suc (suc (suc (suc zero))))) x h a b = omega arith
top-rest (suc (suc (suc (suc (suc (suc zero)))))) x h a b = absurd (b refl)
top-rest (suc (suc (suc (suc (suc (suc (suc k))))))) x h a b = absurd (omega arith)

-- and above a bool's, what is more than 1
top-bool : (k x : ℕ) → k ≡ 0 → eqb (x / 2 / 2 ^ top_bit k) 0 ≡ ltb x 2
top-bool k x e = rw e (go (dec_lt x 2))
  where
    go : Dec (x < 2) → eqb (x / 2 / 1) 0 ≡ ltb x 2
    go (yes p) = eq-eqb (x / 2 / 1) 0 (omega arith) ∙ sym (lt-ltb x 2 p)
    go (no p) = ne_eqb (x / 2 / 1) 0 (λ e. omega arith) ∙ sym (le-ltb x 2 (omega arith))

-- ---- a field that is judged, and what follows

module _ (j o y : ℕ) where
  abbrev judged_then : Bool → ℕ → Bool → ℕ → ℕ
  judged_then t r u x = cond t x (in_child j o r (cond u x (suc (suc y))))

  passes : (t : Bool) (r : ℕ) (u : Bool) (x : ℕ) → judged_then t r u 0 ≡ 0 → judged_then t r u x ≡ x
  unfolding in_child
  passes true r u x e = refl
  passes false zero true x e = refl
  passes false zero false x e = absurd (omega arith)
  passes false (suc zero) u x e = absurd (omega arith)
  passes false (suc (suc r)) u x e = absurd (omega arith)

  hides : (t : Bool) (r : ℕ) (u : Bool) (x : ℕ) → (judged_then t r u 0 ≡ 0 → ⊥) → judged_then t r u x ≡ judged_then t r u 0
  unfolding in_child
  hides true r u x e = absurd (e refl)
  hides false zero true x e = absurd (e refl)
  hides false zero false x e = refl
  hides false (suc zero) u x e = refl
  hides false (suc (suc r)) u x e = refl

abbrev at_rest : Fixed → List ℕ → ℕ → ℕ
at_rest f b slot = slot + width f + zeros_ahead (part b (slot + width f) (slot + 8 - (slot + width f)))

abbrev no-rest : Fixed → List ℕ → ℕ → Bool
no-rest f b slot = eqb (num (part b (slot + width f) (slot + 8 - (slot + width f)))) 0

-- a good field is passed, and a fault in one hides what follows
pub field-passes : (f : Fixed) (b : List ℕ) (i slot x : ℕ) → field_good f b i slot ≡ true → field_then f b i slot x ≡ x
unfolding field_then
field-passes f b i slot x e =
    passes slot slot (at_rest f b slot) (bit b 0 i) (code ((number (width f) (limit f)).get (part b slot (width f)))) (no-rest f b slot) x (eqb-true _ 0 e)

pub field-hides : (f : Fixed) (b : List ℕ) (i slot x : ℕ) → field_good f b i slot ≡ false → field_then f b i slot x ≡ field_then f b i slot 0
unfolding field_then
field-hides f b i slot x e =
    hides slot slot (at_rest f b slot) (bit b 0 i) (code ((number (width f) (limit f)).get (part b slot (width f)))) (no-rest f b slot) x (eqb-false _ 0 e)

-- a test by a number that is 0 or not
tested : (t : Bool) (n : ℕ) → eqb (cond t 0 (suc n)) 0 ≡ t
tested true n = eq-eqb 0 0 refl
tested false n = ne_eqb (suc n) 0 (λ z. omega arith)

module _ {b : List ℕ} {i slot entry : ℕ} (r : FieldRoom b i slot entry) (hb : Bytes b) where
  abbrev k : ℕ
  k = place_in entry

  abbrev f : Fixed
  f = fixed_at k

  abbrev w : ℕ
  w = width f

  small-w : w ≤ 8
  small-w = width-8 f

  abbrev own : List ℕ
  own = part b slot w

  abbrev rest : List ℕ
  rest = part b (slot + w) (slot + 8 - (slot + w))

  judged : code ((number w (limit f)).get own) ≡ cond (ltb (num own) (limit f)) 0 2
  judged = number-judged w (limit f) own (length_part b slot w (omega (arith, r.slot-room, small-w)))

  free : (fixed_place f ≡ 0 → ⊥) → code ((number w (limit f)).get own) ≡ 0
  free h = judged ∙ rw (lt-ltb (num own) (limit f) (rw (limit-free f h) (part-lt slot w hb (omega (arith, r.slot-room, small-w)))))

  -- what a slot's number is judged by, where it is not null
  is : bit b 0 i ≡ false
      → field_then f b i slot 0 ≡ in_child slot slot (code ((number w (limit f)).get own)) (cond (eqb (num rest) 0) 0 (suc (suc (slot + w + zeros_ahead rest))))
  unfolding field_then
  is e = rw e

  -- a number by the zeros behind it
  number_is : bit b 0 i ≡ false → (k ≡ 0 → ⊥) → field_then f b i slot 0 ≡ cond (eqb (num rest) 0) 0 (suc (suc (slot + w + zeros_ahead rest)))
  number_is e h = is e ∙ child-sound slot slot _ _ (free (λ z. h (sym (place-fixed k r.fixed) ∙ z)))

  -- and a bool by its byte too
  module _ (e : bit b 0 i ≡ false) (h : k ≡ 0) where
    bool_is : field_then f b i slot 0 ≡ in_child slot slot (cond (ltb (num own) 2) 0 2) (cond (eqb (num rest) 0) 0 (suc (suc (slot + w + zeros_ahead rest))))
    bool_is = is e ∙ rw (judged, bool-two k h)

    bool-none : num own < 2 → num rest ≡ 0 → field_then f b i slot 0 ≡ 0
    unfolding in_child
    bool-none l z = bool_is ∙ rw (lt-ltb (num own) 2 l, eq-eqb (num rest) 0 z)

    bool-own : 2 ≤ num own → field_then f b i slot 0 ≡ slot + 2
    unfolding in_child
    bool-own l = let g : suc (suc (slot + 0)) ≡ slot + 2 = omega arith in bool_is ∙ rw (le-ltb (num own) 2 l) g

    bool-rest : num own < 2 → (num rest ≡ 0 → ⊥) → field_then f b i slot 0 ≡ slot + w + zeros_ahead rest + 2
    unfolding in_child
    bool-rest l z =
        let g : suc (suc (slot + w + zeros_ahead rest)) ≡ slot + w + zeros_ahead rest + 2 = omega arith in
        bool_is ∙ rw (lt-ltb (num own) 2 l, ne_eqb (num rest) 0 z) g

  -- ---- whether it is good

  good : field_then f b i slot 0 ≡ 0 → true ≡ field_good f b i slot
  good e = sym (eq-eqb (field_then f b i slot 0) 0 e)

  field-wide : (v : ℕ) → v ≡ (line k).width → v ≡ 8 → true ≡ field_good f b i slot
  unfolding field_then
  field-wide v e q =
      let w8 : w ≡ 8 = sym (line-width k r.fixed) ∙ sym e ∙ q in
      let z : slot + 8 - (slot + w) ≡ 0 = omega arith in
      good (ap (cond (bit b 0 i) 0) (child-sound slot slot _ _ (free (bool-wide f w8)) ∙ no-zeros b (slot + w) (slot + 8) 0 z) ∙ go (bit b 0 i))
    where
      go : (t : Bool) → ◌≡◌ {A = ℕ} (cond t 0 0) 0
      go true = refl
      go false = refl

  pub field-whole : {v : ℕ} → v ≡ top_in entry → v ≡ 63 → true ≡ field_good f b i slot
  field-whole e q = field-wide (line k).width refl (top-whole k r.fixed (sym r.lined.top ∙ sym e ∙ q))

  null-good : bit b 0 i ≡ true → true ≡ field_good f b i slot
  unfolding field_then
  null-good e = good (rw e)

  pub field-null : {v : Bool} → v ≡ bit b 0 i → v ≡ true → true ≡ field_good f b i slot
  field-null e q = null-good (sym e ∙ q)

  module _ {v : Bool} (ev : v ≡ bit b 0 i) (fv : v ≡ false) {x : ℕ} (rx : Reads b slot 8 x) where
    e : bit b 0 i ≡ false
    e = sym ev ∙ fv

    whole : w + (slot + 8 - (slot + w)) ≡ 8
    whole = omega (arith, small-w)

    high : x / 256 ^ w ≡ num rest
    high =
        ap (λ (y : ℕ). y / 256 ^ w) (rx.is ∙ ap (λ (n : ℕ). num (part b slot n)) (sym whole))
        ∙ num-high slot w (slot + 8 - (slot + w)) hb (omega (arith, r.slot-room, small-w))

    field-number : (k ≡ 0 → ⊥) → {u : ℕ} → u ≡ (line k).width → eqb (x / 2 ^ (8 * u)) 0 ≡ field_good f b i slot
    field-number h {u} q =
        let vw : u ≡ w = q ∙ line-width k r.fixed in
        let over : x / 2 ^ (8 * u) ≡ num rest = rw (vw, ← (pow256 w)) high in
        ap (λ (y : ℕ). eqb y 0) over ∙ sym (ap (λ (y : ℕ). eqb y 0) (number_is e h) ∙ tested (eqb (num rest) 0) (suc (slot + w + zeros_ahead rest)))

    -- a bool's byte and the seven zeros behind it, by the slot's number
    byte-and-rest : k ≡ 0 → x ≡ num rest * 256 + num own
    byte-and-rest h =
        rx.is ∙ ap (λ (n : ℕ). num (part b slot n)) (sym whole)
        ∙ num-part b slot w (slot + 8 - (slot + w)) (omega (arith, r.slot-room, small-w)) ∙ ap (λ (n : ℕ). num rest * 256 ^ n + num own) (bool-one k h)

    field-bool : k ≡ 0 → ltb x 2 ≡ field_good f b i slot
    field-bool h = go (dec_lt x 2) (dec_lt (num own) 2)
      where
        go : Dec (x < 2) → Dec (num own < 2) → ltb x 2 ≡ field_good f b i slot
        go (yes l) o = lt-ltb x 2 l ∙ good (bool-none e h (omega (arith, byte-and-rest h)) (omega (arith, byte-and-rest h)))
        go (no l) (yes o) =
            let y = bool-rest e h o (λ z. l (omega (arith, byte-and-rest h))) in
            le-ltb x 2 (omega arith) ∙ sym (ne_eqb (field_then f b i slot 0) 0 (λ z. omega (arith, y)))
        go (no l) (no o) =
            let y = bool-own e h (omega arith) in
            le-ltb x 2 (omega arith) ∙ sym (ne_eqb (field_then f b i slot 0) 0 (λ z. omega (arith, y)))

    -- no bit above its highest
    pub field-above : {u : ℕ} → u ≡ top_in entry → (u ≡ 63 → ⊥) → eqb (x / 2 / 2 ^ u) 0 ≡ field_good f b i slot
    field-above {u} eu ne = ap (λ (y : ℕ). eqb (x / 2 / 2 ^ y) 0) top ∙ go (ℕ_discrete k 0)
      where
        top : u ≡ top_bit k
        top = eu ∙ r.lined.top

        go : Dec (k ≡ 0) → eqb (x / 2 / 2 ^ top_bit k) 0 ≡ field_good f b i slot
        go (yes h) = top-bool k x h ∙ field-bool h
        go (no h) = ap (λ (y : ℕ). eqb y 0) (top-rest k x r.fixed h (λ q. ne (top ∙ q))) ∙ field-number h refl

  -- ---- where the fault is, if it is not

  module _ (bad : field_good f b i slot ≡ false) where
    wrong : field_then f b i slot 0 ≡ 0 → ⊥
    wrong = eqb-false (field_then f b i slot 0) 0 bad

    present : bit b 0 i ≡ false
    present = go (bit b 0 i) refl
      where
        go : (v : Bool) → bit b 0 i ≡ v → v ≡ false
        go true q = absurd (wrong (eqb-true (field_then f b i slot 0) 0 (sym (null-good q))))
        go false q = refl

    pub field-rest : {m : ℕ} → m ≡ k → (m ≡ 0 → ⊥) → {v : ℕ} → v ≡ width_in entry
        → {y : ℕ} → y ≡ slot + v + zeros_ahead (part b (slot + v) (slot + 8 - (slot + v))) → y + 2 ≡ field_then f b i slot 0
    field-rest em ne {v} q {y} ey =
        let vw : v ≡ w = q ∙ r.lined.width ∙ line-width k r.fixed in
        let ey' : y ≡ slot + w + zeros_ahead rest = rw vw at ey in
        let g : y + 2 ≡ suc (suc (slot + w + zeros_ahead rest)) = omega arith in
        let n = number_is present (λ z. ne (em ∙ z)) in
        g ∙ sym (n ∙ rw (ne_eqb (num rest) 0 (λ z. wrong (n ∙ rw (eq-eqb (num rest) 0 z)))))

    module _ {m : ℕ} (em : m ≡ k) (z : m ≡ 0) where
      h : k ≡ 0
      h = sym em ∙ z

      own_is : num own ≡ get_or b slot 0
      own_is = ap (λ (n : ℕ). num (part b slot n)) (bool-one k h) ∙ num-one b slot (omega (arith, r.slot-room))

      pub field-two : 1 < get_or b slot 0 → slot + 2 ≡ field_then f b i slot 0
      field-two l = sym (bool-own present h (omega (arith, own_is)))

      pub field-behind : get_or b slot 0 ≤ 1 → {y : ℕ} → y ≡ slot + 1 + zeros_ahead (part b (slot + 1) (slot + 8 - (slot + 1))) → y + 2 ≡ field_then f b i slot 0
      field-behind l {y} ey =
          let o : num own < 2 = omega (arith, own_is) in
          let ey' : y ≡ slot + w + zeros_ahead rest = rw (bool-one k h) ey in
          let g : y + 2 ≡ slot + w + zeros_ahead rest + 2 = omega arith in
          g ∙ sym (bool-rest present h o (λ z. wrong (bool-none present h o z)))

-- ---- room

module _ {b : List ℕ} {i slot entry : ℕ} (r : FieldRoom b i slot entry) where
  module _ {v : ℕ} (e : v ≡ width_in entry) where
    eight : v ≤ 8
    eight = omega (arith, r.lined.width, line-width (place_in entry) r.fixed, width-8 (fixed_at (place_in entry)))

    -- the bytes behind a field's own
    pub rest-search : slot + v ≤ slot + 8
    rest-search = omega (arith, eight)

    pub rest-on : Fits w64 (slot + v)
    rest-on = omega (arith, eight, r.slot-room, r.small)

    pub rest-found : {y : ℕ} → y ≡ slot + v + zeros_ahead (part b (slot + v) (slot + 8 - (slot + v))) → Fits w64 (y + 2)
    rest-found ey = found-fits b (slot + v) (slot + 8) ey rest-search r.slot-room r.small

  pub slot-fits : (j : ℕ) → j ≤ 8 → Fits w64 (slot + j)
  slot-fits j l = omega (arith, r.slot-room, r.small)

  -- a shift by the highest bit
  pub above-shift : {u : ℕ} → u ≡ top_in entry → u < 64
  above-shift e = omega (arith, r.lined.top, top_small (place_in entry) r.fixed)

  pub behind-found : {y : ℕ} → y ≡ slot + 1 + zeros_ahead (part b (slot + 1) (slot + 8 - (slot + 1))) → Fits w64 (y + 2)
  behind-found ey = found-fits b (slot + 1) (slot + 8) ey (omega arith) r.slot-room r.small
