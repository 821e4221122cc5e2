-- A type of the table taken apart, and a step from it by the schema alone. Assumes nothing.
use mathlib.Core.Path.{◌≡◌, refl, sym, ap, ◌∙◌}
use mathlib.Core.Bool.{Bool, true, false}
use mathlib.Core.Option.{Option, none, some}
use mathlib.Core.List.{List, [], ◌∷◌}
use Prim.Native.Nat.{ℕ, zero, suc, ◌+◌, ◌≤◌, ◌<◌}
use native.Mathlib.Omega.{arith}
use native.Mathlib.Decide.{dec_lt, ℕ_discrete}
use lib.Dec.{eqb}
use borrow.Author.Tests.{lt-ltb, le-ltb, eq-eqb, ne_eqb}
use mir.Syntax.{w64}
use mir.Val.{Fits}
use Rattle.schema.specs.Marks.{types, line}
use Rattle.schema.specs.Kinds.{pick}
use Rattle.schema.specs.Types.{Ty, fix, text, li, ma, ro, Tys, width, count, field, fixed_at, text_at, place}
use Rattle.schema.specs.Walk.{Typed, type_at, types_at, next_at, fields_of, ListAt, MapAt, StructAt}
use Rattle.schema.proofs.Typing.{typed-count, typed-deeper, field-typed, OnWay, way-start, way-typed, way_step, way_end}
use Rattle.schema.proofs.Places.{typed-place, fixed_of, text_of}
use Rattle.schema.proofs.Table.{line-width}
use Rattle.layout.specs.Reader.{◌>>◌, assert}
use Rattle.layout.specs.Reading.{type_along as type_on}
use Rattle.layout.proofs.Reader.{assert-yes, assert-no}
use Rattle.table.specs.Words.{place_in, width_in, count_in, after_in}
use Rattle.table.specs.Tables.{Table, schema_of, pos_of, InTable, EntryAt}
use Rattle.table.proofs.Places.{place-room, table-short, entry-list, entry-map, entry-struct, root-whole}
use Rattle.reading.specs.Children.{wide_of}
use Rattle.reading.specs.Opening.{held_ty, values_ty, open_ty, Kinded, Both, Fields, OpenIs, Opens, FieldIn, IsField, either_of, IsEither, Lots}
use Rattle.reading.specs.Opening.{Kin, OfKind, OfMap, OfStruct}
use Rattle.reading.specs.declared.TypeParts.{TypeParts}
use Rattle.std.specs.Prelude.{Some, None}

-- ---- its type by its kind

module _ (t : List ℕ) (x : TypeParts) where
  pub ty-fixed : x.kind < 7 → open_ty t x ≡ fix (fixed_at x.kind)
  unfolding open_ty
  ty-fixed h = rw (lt-ltb x.kind 7 h)

  pub ty-text : 7 ≤ x.kind → x.kind < 9 → open_ty t x ≡ text (text_at x.kind)
  unfolding open_ty
  ty-text g h = rw (le-ltb x.kind 7 g, lt-ltb x.kind 9 h)

  pub ty-list : x.kind ≡ 9 → open_ty t x ≡ li (held_ty t x.first)
  unfolding open_ty
  ty-list e = rw e

  pub ty-map : x.kind ≡ 10 → open_ty t x ≡ ma (held_ty t x.first) (values_ty t x.first)
  unfolding open_ty
  ty-map e = rw e

  pub ty_struct : x.kind ≡ 11 → open_ty t x ≡ ro (types_at (schema_of t) (pos_of t x.first) 7 (count_in x.entry))
  unfolding open_ty
  ty_struct e = rw e

-- what is left where it is no other
pub struct_left : {x : TypeParts} → Kinded x → 9 ≤ x.kind → (x.kind ≡ 9 → ⊥) → (x.kind ≡ 10 → ⊥) → x.kind ≡ 11
struct_left k a b c = omega (arith, k.few)

-- ---- its width

none-line : (k : ℕ) → 7 ≤ k → (line k).width ≡ 0
unfolding types
none-line zero h = absurd (omega arith)
none-line (suc zero) h = absurd (omega arith)
none-line (suc (suc zero)) h = absurd (omega arith)
none-line (suc (suc (suc zero))) h = absurd (omega arith)
none-line (suc (suc (suc (suc zero)))) h = absurd (omega arith)
none-line (suc (suc (suc (suc (suc zero))))) h = absurd (omega arith)
none-line (suc (suc (suc (suc (suc (suc zero)))))) h = absurd (omega arith)
none-line (suc (suc (suc (suc (suc (suc (suc zero))))))) h = refl
none-line (suc (suc (suc (suc (suc (suc (suc (suc zero)))))))) h = refl
none-line (suc (suc (suc (suc (suc (suc (suc (suc (suc zero))))))))) h = refl
none-line (suc (suc (suc (suc (suc (suc (suc (suc (suc (suc zero)))))))))) h = refl
none-line (suc (suc (suc (suc (suc (suc (suc (suc (suc (suc (suc zero))))))))))) h = refl
none-line (suc (suc (suc (suc (suc (suc (suc (suc (suc (suc (suc (suc k)))))))))))) h = refl

module _ {x : TypeParts} (k : Kinded x) where
  -- a leaf's kind is its entry's
  pub leaf-place : x.kind < 9 → place_in x.entry ≡ x.kind
  leaf-place h = k.own (λ e. omega arith)

  pub leaf-width : (x.kind ≡ 9 → ⊥) → width_in x.entry ≡ (line x.kind).width
  leaf-width n = k.lined.width ∙ ap (λ (j : ℕ). (line j).width) (k.own n)

  no-width : 7 ≤ x.kind → width_in x.entry ≡ 0
  no-width h = go (ℕ_discrete x.kind 9)
    where
      go : Dec (x.kind ≡ 9) → width_in x.entry ≡ 0
      go (yes e) = k.varies e
      go (no n) = leaf-width n ∙ none-line x.kind h

  -- where the kind does not give a fixed width
  varied : (t : List ℕ) → 7 ≤ x.kind → wide_of (open_ty t x) ≡ 0
  unfolding wide_of
  varied t h = go (dec_lt x.kind 9) (ℕ_discrete x.kind 9) (ℕ_discrete x.kind 10)
    where
      go : Dec (x.kind < 9) → Dec (x.kind ≡ 9) → Dec (x.kind ≡ 10) → wide_of (open_ty t x) ≡ 0
      go (yes l) p q = rw (ty-text t x h l)
      go (no l) (yes e) q = rw (ty-list t x e)
      go (no l) (no n) (yes e) = rw (ty-map t x e)
      go (no l) (no n) (no m) = rw (ty_struct t x (struct_left k (omega arith) n m))

  -- its entry has the bytes of its type
  pub wide-open : (t : List ℕ) → width_in x.entry ≡ wide_of (open_ty t x)
  unfolding wide_of
  wide-open t = go (dec_lt x.kind 7)
    where
      go : Dec (x.kind < 7) → width_in x.entry ≡ wide_of (open_ty t x)
      go (yes h) = leaf-width (λ e. omega arith) ∙ line-width x.kind h ∙ rw (ty-fixed t x h)
      go (no h) = no-width (omega arith) ∙ sym (varied t (omega arith))

-- ---- the type at a place

pub deeper : (t : List ℕ) (c : ℕ) → Table t → Typed (schema_of t) (pos_of t c) 7 → InTable t c 8
deeper t c T h = record { table = T; typed = (typed-deeper (schema_of t) (pos_of t c) 7 8 h (omega arith)).typed }

same-deep : (t : List ℕ) (c : ℕ) → Typed (schema_of t) (pos_of t c) 7 → type_at (schema_of t) (pos_of t c) 8 ≡ held_ty t c
same-deep t c h = (typed-deeper (schema_of t) (pos_of t c) 7 8 h (omega arith)).same

-- a place's number is small
pub place-fits : {t : List ℕ} {c : ℕ} → InTable t c 8 → Fits w64 (c + 1)
place-fits {t} {c} S = omega (arith, place-room t S.table c 8 S.typed, table-short t S.table)

module _ {t : List ℕ} {c w : ℕ} (S : InTable t c 8) (E : EntryAt t c 8 w) where
  abbrev s : List ℕ
  s = schema_of t

  abbrev at : ℕ
  at = pos_of t c

  abbrev pub opening : TypeParts
  opening = record { kind = place_in w; first = c + 1; entry = w }

  at-list : place_in w ≡ 9 → ListAt s at 8 (pos_of t (c + 1))
  at-list = entry-list S E

  at_map : place_in w ≡ 10 → MapAt s at 8 (pos_of t (c + 1)) (next_at s (pos_of t (c + 1)) 7)
  at_map = entry-map S E

  at-struct : place_in w ≡ 11 → StructAt s at 8 (pos_of t (c + 1)) (count_in w)
  at-struct e = entry-struct S E e refl

  open-kinded : Kinded opening
  open-kinded = record {
    lined = E.lined;
    few = E.lined.few;
    own = λ n. refl;
    varies = λ e. E.lined.width ∙ none-line (place_in w) (omega arith);
  }

  open_is : OpenIs t opening
  open_is = record {
    table = S.table;
    kinded = open-kinded;
    list = λ e. (at-list e).element;
    map = λ e. record { keys = (at_map e).keys; values = (at_map e).values };
    struct = λ e. record { types = (at-struct e).fields; low = (at-struct e).low; high = (at-struct e).high };
  }

  kind-is : place_in w ≡ place (type_at s at 8)
  kind-is = E.place ∙ typed-place s at 8 S.typed

  open-same : open_ty t opening ≡ type_at s at 8
  open-same = go (dec_lt (place_in w) 7) (dec_lt (place_in w) 9) (ℕ_discrete (place_in w) 9) (ℕ_discrete (place_in w) 10)
    where
      go : Dec (place_in w < 7) → Dec (place_in w < 9) → Dec (place_in w ≡ 9) → Dec (place_in w ≡ 10) → open_ty t opening ≡ type_at s at 8
      go (yes h) p q r = ty-fixed t opening h ∙ sym (fixed_of (type_at s at 8) (place_in w) kind-is h)
      go (no h) (yes p) q r = ty-text t opening (omega arith) p ∙ sym (text_of (type_at s at 8) (place_in w) kind-is (omega arith) p)
      go (no h) (no p) (yes e) r = ty-list t opening e ∙ sym (at-list e).whole
      go (no h) (no p) (no q) (yes e) = ty-map t opening e ∙ sym (at_map e).whole
      go (no h) (no p) (no q) (no r) =
          let e : place_in w ≡ 11 = struct_left open-kinded (omega arith) q r in ty_struct t opening e ∙ sym (at-struct e).whole

  pub entry-opens : Opens t c opening
  entry-opens = record { is = open_is; same = open-same }

-- ---- what a type holds

module _ {t : List ℕ} {x : TypeParts} (O : OfKind t 9 x) where
  pub element-stands : InTable t x.first 8
  element-stands = deeper t x.first O.is.table (O.is.list O.kind)

  pub element-kin : {r : TypeParts} → Opens t x.first r → (i : ℕ) → Kin t x i r
  unfolding type_on
  element-kin o i = record {
    is = o.is;
    same = ap some (o.same ∙ same-deep t x.first (O.is.list O.kind)) ∙ rw (ty-list t x O.kind);
  }

map-none : (a b : Ty) (i : ℕ) → 2 ≤ i → none ≡ type_on (i ∷ []) (ma a b)
unfolding type_on
map-none a b zero h = absurd (omega arith)
map-none a b (suc zero) h = absurd (omega arith)
map-none a b (suc (suc i)) h = refl

map-either : (s : List ℕ) (a b i : ℕ) → i < 2 → some (li (type_at s (either_of i a b) 7)) ≡ type_on (i ∷ []) (ma (type_at s a 7) (type_at s b 7))
unfolding type_on
map-either s a b zero h = refl
map-either s a b (suc zero) h = refl
map-either s a b (suc (suc i)) h = absurd (omega arith)

either-typed : (s : List ℕ) (a b : ℕ) (q : Bool) → Typed s a 7 → Typed s b 7 → Typed s (pick q a b) 7
either-typed s a b true x y = x
either-typed s a b false x y = y

module _ {t : List ℕ} {x : TypeParts} {i : ℕ} (O : OfMap t x i) where
  both : Both t x.first
  both = O.of.is.map O.of.kind

  pub keys-stand : InTable t x.first 7
  keys-stand = record { table = O.of.is.table; typed = both.keys }

  pub array-kin : (c : ℕ) → IsEither t x.first i c → Kin t x i (record { kind = 9; first = c; entry = x.entry })
  array-kin c e = record {
    is = record {
      table = O.of.is.table;
      kinded = record {
        lined = k.lined;
        few = omega arith;
        own = λ n. absurd (n refl);
        varies = λ _. leaf-width k (λ n. omega (arith, O.of.kind)) ∙ none-line x.kind (omega (arith, O.of.kind));
      };
      list = λ _. rw e (either-typed (schema_of t) _ _ (eqb i 0) both.keys both.values);
      map = λ n. absurd (omega arith);
      struct = λ n. absurd (omega arith);
    };
    same = ap some (ty-list t (record { kind = 9; first = c; entry = x.entry }) refl)
        ∙ rw (e, ty-map t x O.of.kind) (map-either (schema_of t) _ _ i O.within);
  }
    where
      k : Kinded x
      k = O.of.is.kinded

module _ {t : List ℕ} {x : TypeParts} {i : ℕ} (O : OfStruct t x i) where
  fields : Fields t x.first (count_in x.entry)
  fields = O.of.is.struct O.of.kind

  abbrev field_types : Tys
  field_types = types_at (schema_of t) (pos_of t x.first) 7 (count_in x.entry)

  pub field_in : FieldIn t x.first i
  field_in = record { table = O.of.is.table; has = record { n = count_in x.entry; fields = fields.types; within = O.within } }

  module _ (c : ℕ) (e : IsField t x.first i c) where
    field-held : Typed (schema_of t) (pos_of t c) 7
    field-held = rw e (field-typed (schema_of t) i (pos_of t x.first) 7 (count_in x.entry) fields.types O.within).typed

    pub field-stands : InTable t c 8
    field-stands = deeper t c O.of.is.table field-held

    pub field-kin : {r : TypeParts} → Opens t c r → Kin t x i r
    unfolding type_on
    field-kin {r} o =
        let n = typed-count (schema_of t) (pos_of t x.first) 7 (count_in x.entry) fields.types in
        let f = (field-typed (schema_of t) i (pos_of t x.first) 7 (count_in x.entry) fields.types O.within).same in
        let g : open_ty t r ≡ field field_types i = o.same ∙ same-deep t c field-held ∙ rw e f in
        let l : i < count field_types = rw n O.within in
        record { is = o.is; same = rw (ty_struct t x O.of.kind, assert-yes (dec_lt i (count field_types)) l, g) }

-- ---- on the way to a field, and to an array

pub record FieldWay (t : List ℕ) (first i c j : ℕ) : Type 0 where
  pub table : Table t
  pub way : OnWay (schema_of t) (pos_of t first) 7 i (pos_of t c) j

pub field-start : {t : List ℕ} {first i : ℕ} → FieldIn t first i → FieldWay t first i first 0
field-start f = record { table = f.table; way = way-start _ _ _ _ f.has }

module _ {t : List ℕ} {first i c j : ℕ} (W : FieldWay t first i c j) where
  pub field-here : j < i → InTable t c 7
  field-here l = record { table = W.table; typed = way-typed _ _ _ _ _ _ W.way l }

  pub field-on : j < i → {w x : ℕ} → EntryAt t c 7 w → x ≡ after_in w → FieldWay t first i x (j + 1)
  field-on l {w} {x} e q = record { table = W.table; way = way_step _ _ _ _ _ _ W.way _ (ap (pos_of t) q ∙ e.next) l }

  pub field_end : i ≤ j → IsField t first i c
  field_end l = way_end _ _ _ _ _ _ W.way l

pub either-keys : (i a b : ℕ) → i ≡ 0 → a ≡ either_of i a b
either-keys i a b e = rw (eq-eqb i 0 e)

pub either-values : {t : List ℕ} {c w r : ℕ} (i : ℕ) → (i ≡ 0 → ⊥) → EntryAt t c 7 w → r ≡ after_in w → IsEither t c i r
either-values {t} i n e q = rw (ne_eqb i 0 n) (ap (pos_of t) q ∙ e.next)

-- ---- a step by the schema alone

-- where something comes out, it is what comes after; where nothing does, P does not hold
pub assert-same : {P : Type 0} (q : Dec P) (u y : Ty) → some u ≡ (assert q >> some y) → u ≡ y
unfolding assert
assert-same (yes p) u y e = cc
assert-same (no x) u y e = let z : ◌≡◌ {A = ℕ} 0 1 = cc in absurd (omega arith)

pub assert-none : {P : Type 0} (q : Dec P) (y : Ty) → none ≡ (assert q >> some y) → P → ⊥
unfolding assert
assert-none (yes p) y e h = let z : ◌≡◌ {A = ℕ} 0 1 = cc in omega arith
assert-none (no x) y e h = x h

module _ {t : List ℕ} {x : TypeParts} (O : OpenIs t x) (i : ℕ) where
  pub no-leaf : x.kind < 9 → none ≡ type_on (i ∷ []) (open_ty t x)
  unfolding type_on
  no-leaf h = go (dec_lt x.kind 7)
    where
      go : Dec (x.kind < 7) → none ≡ type_on (i ∷ []) (open_ty t x)
      go (yes g) = rw (ty-fixed t x g)
      go (no g) = rw (ty-text t x (omega arith) h)

  pub no-array : x.kind ≡ 10 → 2 ≤ i → none ≡ type_on (i ∷ []) (open_ty t x)
  no-array e h = rw (ty-map t x e) (map-none _ _ i h)

  pub no-count : x.kind ≡ 11 → {n : ℕ} → n ≡ count_in x.entry → n ≤ i → none ≡ type_on (i ∷ []) (open_ty t x)
  unfolding type_on
  no-count e q h =
      let n = typed-count (schema_of t) (pos_of t x.first) 7 (count_in x.entry) (O.struct e).types in
      rw (ty_struct t x e) (sym (assert-no (dec_lt i (count _)) _ (λ l. omega (arith, n, q))))

pub of_struct : {t : List ℕ} {x : TypeParts} → OpenIs t x → x.kind ≡ 11 → {n i : ℕ} → n ≡ count_in x.entry → i < n → OfStruct t x i
of_struct O e q h = record { of = record { is = O; kind = e }; within = rw (← q) h }

pub lot-none : {t : List ℕ} {o : Option Ty} → none ≡ o → Lots t None o
lot-none e = record { means = e; is = tt }

pub lot-kin : {t : List ℕ} {x r : TypeParts} {i : ℕ} → Kin t x i r → Lots t (Some r) (type_on (i ∷ []) (open_ty t x))
lot-kin k = record { means = k.same; is = k.is }

-- ---- the root

pub root-type : {t : List ℕ} {x : TypeParts} → Table t → Opens t 0 x → open_ty t x ≡ ro (fields_of (schema_of t))
root-type T o = o.same ∙ root-whole T
