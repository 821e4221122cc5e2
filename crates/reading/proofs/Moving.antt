-- A step in the row, as the code takes it, is the walk's step. Assumes nothing.
use mathlib.Core.Path.{◌≡◌, refl, sym, ap, ◌∙◌, subst}
use mathlib.Core.Logic.{◌⊎◌, inl, inr}
use mathlib.Core.Bool.{true}
use mathlib.Core.Option.{none, some}
use mathlib.Core.List.{List, [], ◌∷◌}
use Prim.Native.Nat.{ℕ, zero, suc, ◌+◌, ◌-◌, ◌≤◌, ◌<◌}
use native.Mathlib.Omega.{arith}
use native.Mathlib.Decide.{dec_lt, ℕ_discrete}
use lib.ListN.{length, take, drop, length-drop}
use lib.Seq.{take-length}
use mir.Syntax.{w64}
use mir.Val.{Fits}
use borrow.Author.Tests.{leb-true}
use Rattle.words.specs.Bytes.{num, part}
use Rattle.words.proofs.Parts.{part-part}
use Rattle.schema.specs.Types.{Ty, fix, text, li, ma, ro, Tys, count, field}
use Rattle.schema.specs.Walk.{types_at}
use Rattle.schema.proofs.Typing.{typed-count}
use Rattle.layout.specs.Layout.{front, slot_of, codec}
use Rattle.layout.specs.Refusals.{numbered}
use Rattle.layout.specs.Walk as W
use Rattle.layout.specs.Walk.{stop, step_in}
use Rattle.layout.specs.Reading.{type_along as type_on}
use Rattle.table.specs.Words.{width_in, count_in}
use Rattle.table.specs.Tables.{schema_of, pos_of}
use Rattle.reading.specs.Children.{seat_as, wide_of, child_as, ChildIn, IsChild, Comes}
use Rattle.reading.specs.Opening.{held_ty, values_ty, open_ty, Kinded, Kin, OfKind, OfMap, OfStruct}
use Rattle.reading.specs.Places.{slot_width, holds_of, struct_holds, place_ty, bytes_of, Sized, Rests, PlaceHolds, next_as, Tells, Enters, Entered, Steps, From}
use Rattle.reading.specs.Places.{array_place, array_at}
use Rattle.reading.specs.declared.TypeParts.{TypeParts}
use Rattle.reading.specs.declared.Seat.{Seat}
use Rattle.reading.specs.declared.Place.{Place}
use Rattle.reading.specs.declared.Child.{Child}
use Rattle.reading.specs.declared.Child.TheVariants.{Null as CNull, At as CAt}
use Rattle.reading.specs.declared.Found.{Found}
use Rattle.reading.specs.declared.Found.TheVariants.{Null, At}
use Rattle.std.specs.Prelude.{Result, Ok, Err}
use Rattle.answers.specs.declared.Refusal.{Refusal as Answered}
use Rattle.answers.specs.declared.Refusal.TheVariants as N
use Rattle.answers.specs.Meaning.{refusal_means}
use Rattle.reading.proofs.Pointing.{wide-8, slot-codec, step-no}
use Rattle.reading.proofs.Opening.{ty-fixed, ty-text, ty-list, ty-map, ty_struct, struct_left, leaf-width, wide-open}
use Rattle.reading.proofs.Opening.{assert-same, assert-none, no-leaf, no-array, no-count, of_struct}
use Rattle.reading.proofs.Rules.{fixed-some, list-says, map-says, header_is, slot-some, slot-enough, slot-most, slot-zero, rest-row, rest-size}

-- ---- a child

sized-at : {y : TypeParts} → Kinded y → (k : ℕ) → (width_in y.entry ≡ 0) ⊎ (k ≡ width_in y.entry) → Sized y k
sized-at K k (inr q) = λ h. q
sized-at {y} K k (inl q) = λ h. absurd (omega (arith, leaf-width K (λ e. omega arith), fixed-some y.kind h))

module _ (y : TypeParts) (c : Child) where
  pub enter-null : (z : Seat) → c ≡ CNull z → Entered y c (Null y z)
  unfolding next_as child_as
  enter-null z q t row E =
      let l : ChildIn row (width_in y.entry) (Ok (CNull z)) = rw q at E.lands in
      rw q (record { means = refl; lands = record { is = E.is; seated = l }; tells = refl })

  pub enter-at : (z : Seat) (o k : ℕ) → c ≡ CAt z o k → Entered y c (At (record { opened = y; seat = z; start = o; len = k }))
  unfolding next_as child_as
  enter-at z o k q t row E =
      let l : ChildIn row (width_in y.entry) (Ok (CAt z o k)) = rw q at E.lands in
      rw q (record {
        means = refl;
        lands = record {
          is = E.is;
          within = l.within;
          short = E.short;
          sized = sized-at E.is.kinded k l.sized;
          seated = λ h. l.seated;
        };
        tells = refl;
      })

-- ---- no step

stopped : (t row : List ℕ) (p : Place) (i : ℕ)
    → step_in (place_ty t p) i (seat_as p.seat) p.start (bytes_of row p) ≡ stop (numbered 5) → Steps t row p i (Err N.NoPlace)
unfolding next_as
stopped t row p i e = record { means = sym e; lands = tt; tells = tt }

-- where the schema has no such place, the step is refused with 5
no-kin : (y : Ty) (i : ℕ) (z : W.Seat) (o : ℕ) (b : List ℕ) → none ≡ type_on (i ∷ []) y → step_in y i z o b ≡ stop (numbered 5)
unfolding type_on step_in W.child
no-kin (fix f) i z o b e = refl
no-kin (text f) i z o b e = refl
no-kin (li y) i z o b e = let x : ◌≡◌ {A = ℕ} 0 1 = cc in absurd (omega arith)
no-kin (ma k v) zero z o b e = let x : ◌≡◌ {A = ℕ} 0 1 = cc in absurd (omega arith)
no-kin (ma k v) (suc zero) z o b e = let x : ◌≡◌ {A = ℕ} 0 1 = cc in absurd (omega arith)
no-kin (ma k v) (suc (suc i)) z o b e = refl
no-kin (ro ts) i z o b e = step-no (dec_lt i (count ts)) (numbered 5) _ (assert-none (dec_lt i (count ts)) _ e)

module _ {t row : List ℕ} {p : Place} (S : PlaceHolds t row p) (i : ℕ) where
  pub leaf-stop : p.opened.kind < 9 → Steps t row p i (Err N.NoPlace)
  leaf-stop h = stopped t row p i (no-kin (place_ty t p) i _ _ _ (no-leaf S.rests.is i h))

  pub map-stop : p.opened.kind ≡ 10 → 2 ≤ i → Steps t row p i (Err N.NoPlace)
  map-stop e h = stopped t row p i (no-kin (place_ty t p) i _ _ _ (no-array S.rests.is i e h))

  pub struct-stop : p.opened.kind ≡ 11 → {n : ℕ} → n ≡ count_in p.opened.entry → n ≤ i → Steps t row p i (Err N.NoPlace)
  struct-stop e q h = stopped t row p i (no-kin (place_ty t p) i _ _ _ (no-count S.rests.is i e q h))

-- ---- a step from a place

some_one : {A : Type 0} {a b : A} → some a ≡ some b → a ≡ b
some_one e = cc

-- a child's type has the child's bytes
module _ {t : List ℕ} {x : TypeParts} {i : ℕ} {y : TypeParts} (K : Kin t x i y) {v : ℕ} (u : v ≡ width_in y.entry) where
  wide_is : wide_of (open_ty t y) ≡ v
  wide_is = sym (u ∙ wide-open K.is.kinded t)

  small : v ≤ 8
  small = rw wide_is at (wide-8 (open_ty t y))

  enters : {row : List ℕ} {c : Child} → length row ≤ 16384 → ChildIn row v (Ok c) → Enters t row y c
  enters {row} {c} h l = record { is = K.is; short = h; lands = subst (λ (w : ℕ). ChildIn row w (Ok c)) u l }

-- an element
module _ {t row : List ℕ} {p : Place} (F : From t row 9 p) where
  list-ty : place_ty t p ≡ li (held_ty t p.opened.first)
  list-ty = ty-list t p.opened F.kind

  list-holds : holds_of (li (held_ty t p.opened.first)) (bytes_of row p) ≡ true
  list-holds = rw list-ty at F.stands.holds

  header : 8 ≤ p.len
  header = rw (rest-size F.stands.rests) at (list-says _ _ list-holds).header

  pub header-room : p.start + 8 ≤ length row
  header-room = omega (arith, header, F.stands.rests.within)

  pub list_of : OfKind t 9 p.opened
  list_of = record { is = F.stands.rests.is; kind = F.kind }

  module _ {n : ℕ} (q : n ≡ num (part row p.start 8)) where
    counted : num (take 8 (bytes_of row p)) ≡ n
    counted = header_is (rest-row F.stands.rests) header q

    pub list-stop : {i : ℕ} → n ≤ i → Steps t row p i (Err N.NoPlace)
    unfolding step_in W.child
    list-stop {i} h = stopped t row p i (rw (list-ty, counted) (step-no (dec_lt i n) (numbered 5) _ (λ l. omega arith)))

    module _ {i : ℕ} (h : i < n) {y : TypeParts} (K : Kin t p.opened i y) {v : ℕ} (u : v ≡ width_in y.entry) {w : ℕ} (g : w ≡ slot_width v) where
      same-ty : open_ty t y ≡ held_ty t p.opened.first
      unfolding type_on
      same-ty = some_one (rw list-ty at K.same)

      slot_is : slot_of (codec (held_ty t p.opened.first)).wide ≡ w
      slot_is = slot-codec _ ∙ ap (λ (y : Ty). slot_width (wide_of y)) (sym same-ty) ∙ ap slot_width (wide_is K u) ∙ sym g

      fixed : front 8 w n ≤ p.len
      fixed = rw (slot_is, counted, rest-size F.stands.rests) at (list-says _ _ list-holds).fixed

      pub list-child : IsChild row p.start p.len 8 n w v i
      list-child = record {
        within = F.stands.rests.within;
        short = F.stands.rests.short;
        child = h;
        fixed = fixed;
        slot = rw g (slot-enough v);
        wide = rw g (slot-most v (small K u));
        some = rw g (slot-some v);
        points = λ z. g ∙ sym (slot-zero v z);
      }

      pub list-step : {c : Child} → Comes row p.start p.len 8 n w v i (Ok c) → {r : Found} → Entered y c r → Steps t row p i (Ok r)
      unfolding step_in
      list-step {c} k {r} m =
          let e = m t row (enters K u F.stands.rests.short k.lands) in
          record {
            means = e.means ∙ k.means (open_ty t y) (wide_is K u) ∙ rw (list-ty, slot_is, counted, same-ty);
            lands = e.lands;
            tells = subst (λ o. Tells t (Ok r) o) K.same e.tells;
          }

      pub list-refused : {f : Answered} → Comes row p.start p.len 8 n w v i (Err f) → Steps t row p i (Err f)
      unfolding step_in next_as child_as
      list-refused k = record { means = k.means (open_ty t y) (wide_is K u) ∙ rw (list-ty, slot_is, counted, same-ty); lands = tt; tells = tt }

-- a field
module _ {t row : List ℕ} {p : Place} (F : From t row 11 p) {n : ℕ} (q : n ≡ count_in p.opened.entry) where
  abbrev types : Tys
  types = types_at (schema_of t) (pos_of t p.opened.first) 7 (count_in p.opened.entry)

  struct-ty : place_ty t p ≡ ro types
  struct-ty = ty_struct t p.opened F.kind

  fields-count : count types ≡ n
  fields-count = typed-count _ _ 7 _ (F.stands.rests.is.struct F.kind).types ∙ sym q

  struct_fixed : front 0 8 n ≤ p.len
  unfolding holds_of struct_holds
  struct_fixed =
      let h : holds_of (ro types) (bytes_of row p) ≡ true = rw struct-ty at F.stands.holds in
      leb-true _ _ (rw (fields-count, rest-size F.stands.rests) at h)

  module _ {i : ℕ} (h : i < n) where
    pub struct-of : OfStruct t p.opened i
    struct-of = of_struct F.stands.rests.is F.kind q h

    module _ {y : TypeParts} (K : Kin t p.opened i y) {v : ℕ} (u : v ≡ width_in y.entry) where
      field-ty : open_ty t y ≡ field types i
      unfolding type_on
      field-ty = assert-same (dec_lt i _) _ _ (rw struct-ty at K.same)

      pub struct-child : IsChild row p.start p.len 0 n 8 v i
      struct-child = record {
        within = F.stands.rests.within;
        short = F.stands.rests.short;
        child = h;
        fixed = struct_fixed;
        slot = small K u;
        wide = omega arith;
        some = omega arith;
        points = λ _. refl;
      }

      pub struct-step : {c : Child} → Comes row p.start p.len 0 n 8 v i (Ok c) → {r : Found} → Entered y c r → Steps t row p i (Ok r)
      unfolding step_in
      struct-step {c} k {r} m =
          let e = m t row (enters K u F.stands.rests.short k.lands) in
          record {
            means = e.means ∙ k.means (open_ty t y) (wide_is K u) ∙ rw (struct-ty, fields-count, field-ty);
            lands = e.lands;
            tells = subst (λ o. Tells t (Ok r) o) K.same e.tells;
          }

      pub struct-refused : {f : Answered} → Comes row p.start p.len 0 n 8 v i (Err f) → Steps t row p i (Err f)
      unfolding step_in next_as child_as
      struct-refused k = record { means = k.means (open_ty t y) (wide_is K u) ∙ rw (struct-ty, fields-count, field-ty); lands = tt; tells = tt }

-- a map's arrays
drop-part : (b : List ℕ) (k : ℕ) → drop k b ≡ part b k (length b - k)
drop-part b k = rw (← (length-drop k b)) (sym (take-length (drop k b)))

-- a container, whose size and seat no table tells
abbrev pub Holder : Ty → Type 0
Holder (fix f) = ⊥
Holder (text f) = ⊥
Holder (li t) = Unit {0}
Holder (ma k v) = Unit {0}
Holder (ro ts) = Unit {0}

pub holder : (t : List ℕ) (y : TypeParts) → Holder (open_ty t y) → y.kind < 9 → ⊥
holder t y h l = go (dec_lt y.kind 7)
  where
    go : Dec (y.kind < 7) → ⊥
    go (yes g) = rw (ty-fixed t y g) at h
    go (no g) = rw (ty-text t y (omega arith) l) at h

pub held-kind : {y : TypeParts} → Kinded y → (t : List ℕ) → 9 ≤ y.kind → Holder (open_ty t y)
held-kind {y} k t h = go (ℕ_discrete y.kind 9) (ℕ_discrete y.kind 10)
  where
    go : Dec (y.kind ≡ 9) → Dec (y.kind ≡ 10) → Holder (open_ty t y)
    go (yes e) q = rw (ty-list t y e) tt
    go (no n) (yes e) = rw (ty-map t y e) tt
    go (no n) (no m) = rw (ty_struct t y (struct_left k h n m)) tt

map-kin : (y : Ty) (a b : Ty) (i : ℕ) → some y ≡ type_on (i ∷ []) (ma a b) → ((i ≡ 0) × (y ≡ li a)) ⊎ ((i ≡ 1) × (y ≡ li b))
unfolding type_on
map-kin y a b zero q = inl (refl, some_one q)
map-kin y a b (suc zero) q = inr (refl, some_one q)
map-kin y a b (suc (suc i)) q = let x : ◌≡◌ {A = ℕ} 0 1 = cc in absurd (omega arith)

module _ {t row : List ℕ} {p : Place} (F : From t row 10 p) where
  map-ty : place_ty t p ≡ ma (held_ty t p.opened.first) (values_ty t p.opened.first)
  map-ty = ty-map t p.opened F.kind

  map-holds : holds_of (ma (held_ty t p.opened.first) (values_ty t p.opened.first)) (bytes_of row p) ≡ true
  map-holds = rw map-ty at F.stands.holds

  map-header : 8 ≤ p.len
  map-header = rw (rest-size F.stands.rests) at (map-says _ _ _ map-holds).header

  pub map-room : p.start + 8 ≤ length row
  map-room = omega (arith, map-header, F.stands.rests.within)

  pub map_of : {i : ℕ} → i < 2 → OfMap t p.opened i
  map_of h = record { of = record { is = F.stands.rests.is; kind = F.kind }; within = h }

  module _ {z : ℕ} (q : z ≡ num (part row p.start 8)) where
    keys-size : num (take 8 (bytes_of row p)) ≡ z
    keys-size = header_is (rest-row F.stands.rests) map-header q

    pub keys-room : 8 + z ≤ p.len
    keys-room = rw (keys-size, rest-size F.stands.rests) at (map-says _ _ _ map-holds).keys

    pub before-fits : Fits w64 (8 + z)
    before-fits = omega (arith, keys-room, F.stands.rests.within, F.stands.rests.short)

    pub values-fits : Fits w64 (p.start + (8 + z))
    values-fits = omega (arith, keys-room, F.stands.rests.within, F.stands.rests.short)

    module _ {i : ℕ} {y : TypeParts} (K : Kin t p.opened i y) where
      arrays : ((i ≡ 0) × (open_ty t y ≡ li (held_ty t p.opened.first))) ⊎ ((i ≡ 1) × (open_ty t y ≡ li (values_ty t p.opened.first)))
      arrays = map-kin (open_ty t y) _ _ i (rw map-ty at K.same)

      array-rests : (e : Ty) → open_ty t y ≡ li e → (o k : ℕ) → o + k ≤ length row → Rests t row (array_place y o k)
      array-rests e u o k h = record {
        is = K.is;
        within = h;
        short = F.stands.rests.short;
        sized = λ l. absurd (holder t y (rw u tt) (omega arith));
        seated = λ l. absurd (holder t y (rw u tt) l);
      }

      pub keys_step : i ≡ 0 → {r : Found} → r ≡ array_at y (p.start + 8) z → Steps t row p i (Ok r)
      unfolding step_in next_as
      keys_step j {r} e = rw e (go arrays)
        where
          go : ((i ≡ 0) × (open_ty t y ≡ li (held_ty t p.opened.first))) ⊎ ((i ≡ 1) × (open_ty t y ≡ li (values_ty t p.opened.first)))
              → Steps t row p i (Ok (array_at y (p.start + 8) z))
          go (inl x) = record {
            means = rw (map-ty, j, keys-size, part-part row p.start p.len 8 z keys-room, x.1);
            lands = array-rests _ x.1 _ _ (omega (arith, keys-room, F.stands.rests.within));
            tells = K.same;
          }
          go (inr x) = absurd (omega (arith, x.0))

      values-bytes : drop (8 + z) (bytes_of row p) ≡ part row (p.start + (8 + z)) (p.len - (8 + z))
      values-bytes =
          drop-part (bytes_of row p) (8 + z)
          ∙ rw (rest-size F.stands.rests) (part-part row p.start p.len (8 + z) (p.len - (8 + z)) (omega (arith, keys-room)))

      pub values-step : (i ≡ 0 → ⊥) → {r : Found} → r ≡ array_at y (p.start + (8 + z)) (p.len - (8 + z)) → Steps t row p i (Ok r)
      unfolding step_in next_as
      values-step j {r} e = rw e (go arrays)
        where
          go : ((i ≡ 0) × (open_ty t y ≡ li (held_ty t p.opened.first))) ⊎ ((i ≡ 1) × (open_ty t y ≡ li (values_ty t p.opened.first)))
              → Steps t row p i (Ok (array_at y (p.start + (8 + z)) (p.len - (8 + z))))
          go (inl x) = absurd (j x.0)
          go (inr x) = record {
            means = rw (map-ty, x.0, keys-size, values-bytes, x.1);
            lands = array-rests _ x.1 _ _ (omega (arith, keys-room, F.stands.rests.within));
            tells = K.same;
          }
