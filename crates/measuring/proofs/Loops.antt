-- The elements of an array and the fields of a struct, measured in the words of the code. Assumes nothing.
use mathlib.Core.Path.{◌≡◌, ap, ◌∙◌}
use mathlib.Core.Option.{Option}
use mathlib.Core.List.{List, [], ◌∷◌}
use Prim.Native.Nat.{ℕ, ◌+◌, ◌*◌, ◌-◌, ◌^◌, ◌≤◌, ◌<◌}
use native.Mathlib.Nat.{mul-le-mul_left}
use native.Mathlib.Omega.{arith}
use lib.ListN.{drop, replicate}
use mir.Syntax.{w64}
use mir.Val.{Fits}
use Rattle.words.specs.Bytes.{Bytes, pad, bitmap}
use Rattle.words.specs.Pairs.{low_in, high_in, Paired}
use Rattle.schema.specs.Marks.{element_width}
use Rattle.schema.specs.Types.{Ty, li, ro, Tys, count, mark}
use Rattle.schema.specs.Walk.{TypedAll, types_at, next_at}
use Rattle.schema.proofs.Typing.{typed-more, typed-done, typed-count}
use Rattle.layout.specs.Cells.{node}
use Rattle.layout.specs.Layout.{kid, slot_of, codec, kids}
use Rattle.layout.specs.Listing.{item, run_get, script, scripts}
use Rattle.layout.proofs.Widths.{element-wide, slot_small}
use Rattle.table.specs.Words.{Lined, place_in, after_in}
use Rattle.table.specs.Tables.{InTable, EntryAt, schema_of, pos_of, type_of, types_of}
use Rattle.table.proofs.Places.{entry_place}
use Rattle.measuring.specs.Measure.{Gives, size, ChildTold, LeafTold, ArrayTold, FieldsTold, Goes, FixedCan, TextCan, ChildCan, ArrayCan, FieldsCan}
use Rattle.measuring.proofs.Packs.{told_none, told-gives, gives-high}
use Rattle.measuring.proofs.Totals.{total_of, total-none, total-some, Going, going_start, going_next, going-bad, going_end}
use Rattle.measuring.proofs.Totals.{replicate_more, replicate-none, element_kid, element_script, array_fit, array_size}
use Rattle.measuring.proofs.Totals.{kids-then, scripts-then, kids-end, scripts-end, fields_fit, fields-size}

-- ---- a child in a loop: the listing goes on at pos, w is its type's entry, and k the type's place in the table of types

module _ {k w : ℕ} (ek : k ≡ place_in w) {l : List ℕ} {pos : ℕ} (g : Goes l pos) where
  pub is-fixed : Lined w → k < 7 → FixedCan w l pos
  is-fixed h few = record { lined = h; fixed = omega arith; goes = g }

  pub is-text : Lined w → 7 ≤ k → {j : ℕ} → j ≡ place_in w → j < 9 → TextCan w l pos
  is-text h low ej high = record { lined = h; low = omega arith; high = omega arith; goes = g }

  pub is-child : {t : List ℕ} {c d : ℕ} → InTable t c d → EntryAt t c d w → 9 ≤ k → ChildCan t c d l pos
  is-child s e many = record { stands = s; holds = omega (arith, e.place); goes = g }

module _ {t : List ℕ} {c d w : ℕ} (s : InTable t c d) (e : EntryAt t c d w) where
  -- it was measured as q, which is r where the branches meet
  pub leaf-came : {l : List ℕ} {pos q r : ℕ} → LeafTold (place_in w) l pos q → r ≡ q → ChildTold (type_of t c d) l pos r
  leaf-came x er = rw er (x.any _ (entry_place s e))

pub child-came : {u : Ty} {l : List ℕ} {pos q r : ℕ} → ChildTold u l pos q → r ≡ q → ChildTold u l pos r
child-came x er = rw er x

pub goes-low : {l : List ℕ} {pos : ℕ} → Goes l pos → pos < 2 ^ 32
goes-low g = omega (arith, g.inside, g.short)

-- ---- arrays

abbrev array_total : Ty → List ℕ → ℕ → ℕ → Option (ℕ × List ℕ)
array_total ty l n from = total_of (replicate n (element_kid ty)) (run_get (replicate n (element_script ty)) (drop from l))

-- before element i: sum has the bytes of all that were measured, behind the array's own
pub record ArrayGoing (t : List ℕ) (c d : ℕ) (l : List ℕ) (from n w i pos sum : ℕ) : Type 0 where
  pub can : ArrayCan t c d l from n
  pub entry : EntryAt t c d w
  pub held : ℕ
  pub sums : sum ≡ 8 + bitmap n + pad (n * element_width (place_in w)) + held
  pub going : Going (array_total (type_of t c d) l n from) (replicate (n - i) (element_kid (type_of t c d)))
      (replicate (n - i) (element_script (type_of t c d))) l n (n - i) from pos held

pub array-start : {t : List ℕ} {c d : ℕ} {l : List ℕ} {from n w : ℕ} → Bytes l → ArrayCan t c d l from n → EntryAt t c d w → {z : ℕ}
    → z ≡ 8 + bitmap n + pad (n * element_width (place_in w)) → ArrayGoing t c d l from n w 0 from z
array-start {t} {c} {d} {l} {from} {n} hb p e ez =
    let all : n - 0 ≡ n = omega arith in
    record {
      can = p;
      entry = e;
      held = 0;
      sums = omega arith;
      going = rw all (going_start (replicate n (element_kid (type_of t c d))) (replicate n (element_script (type_of t c d))) l n from hb p.goes);
    }

module _ {t : List ℕ} {c d : ℕ} {l : List ℕ} {from n w i pos sum : ℕ} (g : ArrayGoing t c d l from n w i pos sum) where
  abbrev ty : Ty
  ty = type_of t c d

  abbrev left : ℕ
  left = n - i

  array-wide : element_width (place_in w) ≡ slot_of (codec ty).wide
  array-wide = element-wide ty (place_in w) (entry_place g.can.stands g.entry)

  array-few : n * element_width (place_in w) ≤ n * 8
  array-few = mul-le-mul_left n (rw array-wide (slot_small ty))

  array-one : i < n → Going (array_total ty l n from) (element_kid ty ∷ replicate (left - 1) (element_kid ty))
      (element_script ty ∷ replicate (left - 1) (element_script ty)) l n left from pos g.held
  array-one h =
      let some_left : left ≡ 0 → ⊥ = λ e. omega arith in
      rw (replicate_more left (element_kid ty) some_left, replicate_more left (element_script ty) some_left) at g.going

  module _ (h : i < n) {r : ℕ} (x : ChildTold (type_of t c d) l pos r) where
    pub array-bad : r ≡ 0 → ArrayTold (type_of t c d) l from n 0
    array-bad z =
        let bad = going-bad (array-one h) ((x.each (slot_of (codec ty).wide)).refused z) in
        record { told = told_none (total-none (replicate n (element_kid ty)) _ bad) }

    module _ (ne : r ≡ 0 → ⊥) {next m : ℕ} (en : next ≡ low_in r) (em : m ≡ high_in r) where
      array-on : Going (array_total ty l n from) (replicate (left - 1) (element_kid ty)) (replicate (left - 1) (element_script ty))
          l n (left - 1) from next (g.held + m)
      array-on = rw (en, em) (going_next (array-one h) (omega arith) ((x.each (slot_of (codec ty).wide)).good ne))

      pub array-next : ArrayGoing t c d l from n w (i + 1) next (sum + m)
      array-next =
          let e : n - (i + 1) ≡ left - 1 = omega arith in
          record { can = g.can; entry = g.entry; held = g.held + m; sums = omega (arith, g.sums); going = rw e array-on }

      pub array-add : Fits w64 (sum + m)
      array-add = omega (arith, array-on.small, array-on.goes, g.can.few, g.sums, array-few)

  module _ (h : n ≤ i) where
    none-left : left ≡ 0
    none-left = omega arith

    array-gives : Gives (run_get (replicate n (element_script ty)) (drop from l)) (λ cs. size (li ty) (node cs)) l (16 * from) 24 pos sum
    array-gives =
        let e : Going (array_total ty l n from) [] [] l n left from pos g.held =
        rw (replicate-none left (element_kid ty) none-left, replicate-none left (element_script ty) none-left) at g.going in
        let x = total-some (replicate n (element_kid ty)) (run_get (replicate n (element_script ty)) (drop from l)) (going_end e) in
        let f = array_fit ty l from n x.cells (drop pos l) g.going.bytes (omega (arith, g.can.few)) x.reads in
        let q : pad (n * element_width (place_in w)) ≡ pad (n * slot_of (codec ty).wide) = ap (λ (j : ℕ). pad (n * j)) array-wide in
        record {
          thing = x.cells;
          reads = x.reads;
          is = omega (arith, array_size ty n x.cells f, x.is, g.sums);
          words = omega (arith, g.going.words, g.sums);
          inside = g.going.goes.inside;
          small = omega (arith, g.going.small, g.sums, array-few);
        }

    pub array-high : sum < 2 ^ 32
    array-high = gives-high array-gives g.can.goes.short (omega arith)

    pub array-end : {r : ℕ} → Paired pos sum r → ArrayTold (type_of t c d) l from n r
    array-end q = record { told = told-gives array-gives (omega (arith, g.sums)) q }

-- ---- fields

abbrev fields_total : Tys → List ℕ → ℕ → Option (ℕ × List ℕ)
fields_total ts l from = total_of (kids ts) (run_get (scripts ts) (drop from l))

-- before field i, whose type stands at c: sum has the bytes of all that were measured, behind the struct's own
pub record FieldsGoing (t : List ℕ) (first n d : ℕ) (l : List ℕ) (from c i pos sum : ℕ) : Type 0 where
  pub can : FieldsCan t first n d l from
  pub typed : TypedAll (schema_of t) (pos_of t c) d (n - i)
  pub held : ℕ
  pub sums : sum ≡ bitmap n + 8 * n + held
  pub going : Going (fields_total (types_of t first d n) l from) (kids (types_of t c d (n - i))) (scripts (types_of t c d (n - i)))
      l n (n - i) from pos held

pub fields-start : {t : List ℕ} {first n d : ℕ} {l : List ℕ} {from : ℕ} → Bytes l → FieldsCan t first n d l from
    → {z : ℕ} → z ≡ bitmap n + 8 * n → FieldsGoing t first n d l from first 0 from z
fields-start {t} {first} {n} {d} {l} {from} hb p ez =
    let all : n - 0 ≡ n = omega arith in
    record {
      can = p;
      typed = rw all p.typed;
      held = 0;
      sums = omega arith;
      going = rw all (going_start (kids (types_of t first d n)) (scripts (types_of t first d n)) l n from hb p.goes);
    }

module _ {t : List ℕ} {first n d : ℕ} {l : List ℕ} {from c i pos sum : ℕ} (g : FieldsGoing t first n d l from c i pos sum) where
  abbrev to-come : ℕ
  to-come = n - i

  module _ (h : i < n) where
    abbrev on : ℕ
    on = next_at (schema_of t) (pos_of t c) d

    abbrev rest : Tys
    rest = types_at (schema_of t) on d (to-come - 1)

    pub field-stands : InTable t c d
    field-stands = record { table = g.can.table; typed = (typed-more (schema_of t) (pos_of t c) d to-come g.typed (omega arith)).first }

    field-one : Going (fields_total (types_of t first d n) l from) (kid 8 (codec (type_of t c d)) ∷ kids rest)
        (item 8 (mark (type_of t c d)) (script (type_of t c d)) ∷ scripts rest) l n to-come from pos g.held
    field-one =
        let u = type_of t c d in
        let m = typed-more (schema_of t) (pos_of t c) d to-come g.typed (omega arith) in
        let k : kids (types_of t c d to-come) ≡ kid 8 (codec u) ∷ kids rest = ap kids m.whole ∙ kids-then u rest in
        let q : scripts (types_of t c d to-come) ≡ item 8 (mark u) (script u) ∷ scripts rest = ap scripts m.whole ∙ scripts-then u rest in
        rw (k, q) at g.going

    module _ {r : ℕ} (x : ChildTold (type_of t c d) l pos r) where
      pub fields-bad : r ≡ 0 → FieldsTold (types_of t first d n) l from 0
      fields-bad z = record { told = told_none (total-none (kids (types_of t first d n)) _ (going-bad field-one ((x.each 8).refused z))) }

      module _ (ne : r ≡ 0 → ⊥) {next m : ℕ} (en : next ≡ low_in r) (em : m ≡ high_in r) where
        fields-on : Going (fields_total (types_of t first d n) l from) (kids rest) (scripts rest) l n (to-come - 1) from next (g.held + m)
        fields-on = rw (en, em) (going_next field-one (omega arith) ((x.each 8).good ne))

        pub fields-add : Fits w64 (sum + m)
        fields-add = omega (arith, fields-on.small, fields-on.goes, g.can.high, g.sums)

        pub fields-next : {w : ℕ} → EntryAt t c d w → {c' : ℕ} → c' ≡ after_in w → FieldsGoing t first n d l from c' (i + 1) next (sum + m)
        fields-next e {c'} ec =
            let q : pos_of t c' ≡ on = ap (pos_of t) ec ∙ e.next in
            let y : n - (i + 1) ≡ to-come - 1 = omega arith in
            record {
              can = g.can;
              typed = rw (q, y) (typed-more (schema_of t) (pos_of t c) d to-come g.typed (omega arith)).others;
              held = g.held + m;
              sums = omega (arith, g.sums);
              going = rw (q, y) fields-on;
            }

  module _ (h : n ≤ i) where
    fields-gives : Gives (run_get (scripts (types_of t first d n)) (drop from l)) (λ cs. size (ro (types_of t first d n)) (node cs)) l (16 * from) 0 pos sum
    fields-gives =
        let ts = types_of t first d n in
        let done = typed-done (schema_of t) (pos_of t c) d to-come g.typed (omega arith) in
        let k : kids (types_of t c d to-come) ≡ [] = ap kids done ∙ kids-end in
        let q : scripts (types_of t c d to-come) ≡ [] = ap scripts done ∙ scripts-end in
        let e : Going (fields_total ts l from) [] [] l n to-come from pos g.held = rw (k, q) at g.going in
        let x = total-some (kids ts) (run_get (scripts ts) (drop from l)) (going_end e) in
        let f = fields_fit ts l from x.cells (drop pos l) g.going.bytes x.reads in
        let m : count ts ≡ n = typed-count (schema_of t) (pos_of t first) d n g.can.typed in
        let y = rw m at (fields-size ts x.cells f) in
        record {
          thing = x.cells;
          reads = x.reads;
          is = omega (arith, y, x.is, g.sums);
          words = omega (arith, g.going.words, g.sums);
          inside = g.going.goes.inside;
          small = omega (arith, g.going.small, g.can.low, g.sums);
        }

    pub fields-high : sum < 2 ^ 32
    fields-high = gives-high fields-gives g.can.goes.short (omega arith)

    pub fields-end : {r : ℕ} → Paired pos sum r → FieldsTold (types_of t first d n) l from r
    fields-end q = record { told = told-gives fields-gives (omega (arith, g.can.low, g.sums)) q }
