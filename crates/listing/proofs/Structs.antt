-- The fields of a struct, as a loop over them meets them. Assumes nothing.
use mathlib.Core.Path.{◌≡◌, refl, sym, ap, ◌∙◌, subst}
use mathlib.Core.Bool.{Bool, true, false}
use mathlib.Core.Option.{none}
use mathlib.Core.List.{List, [], ◌++◌}
use Prim.Native.Nat.{ℕ, zero, suc, ◌+◌, ◌*◌, ◌^◌, ◌≤◌, ◌<◌}
use native.Mathlib.Omega.{arith}
use native.Mathlib.Numerals.{add-one}
use lib.ListN.{length, get_or}
use Rattle.words.specs.Bytes.{bitmap}
use Rattle.words.specs.Bits.{bit}
use Rattle.schema.specs.Types.{Ty, ro, Tys, end, ◌then◌, count, field, mark}
use Rattle.schema.specs.Walk.{next_at, field_at}
use Rattle.schema.proofs.Typing.{FieldLaw, typed-count, field-typed}
use Rattle.table.specs.Words.{place_in, after_in}
use Rattle.table.specs.Tables.{schema_of, pos_of, InTable, EntryAt, type_of, types_of}
use Rattle.layout.specs.Cells.{Cell, leaf, on_null, parts, part_of}
use Rattle.layout.specs.Layout.{codec, kids, struct}
use Rattle.layout.specs.Listing.{nu, item, script, scripts}
use Rattle.layout.specs.Walk.{root_seat, step_in, child, child_ty}
use Rattle.layout.proofs.Children.{all-length}
use Rattle.layout.proofs.Containers.{body-total, body-fit, kids-lawful, kids-count}
use Rattle.layout.proofs.Stepped.{Comes}
use Rattle.layout.proofs.Walked.{comes}
use Rattle.layout.proofs.Widths.{slot_small}
use Rattle.listing.specs.Lines.{cell_of, lines, field_lines, own_bytes, own_lines, child_lines, Written}
use Rattle.listing.specs.Room.{leaf_at, Own, Present, Elsewhere, Leaf, Container, Fields}
use Rattle.listing.proofs.Found.{There, there-child, lines-child}
use Rattle.listing.proofs.Turns.{Going, going_start, going_end, going-room, going_next}
use Rattle.listing.proofs.Wrote.{met, same_bytes}
use Rattle.listing.proofs.Seats.{Seated, seat-room, seat-null, seat-own, seat-there}
use Rattle.listing.proofs.Seats.{entry-leaf, entry-leaf-lines, entry-elsewhere, entry-lines, entry-container}
use Rattle.listing.proofs.Children.{no_script}

scripts-count : (ts : Tys) → length (scripts ts) ≡ count ts
unfolding script count
scripts-count end = refl
scripts-count (t then ts) = ap suc (scripts-count ts)

scripts-at : (ts : Tys) (i : ℕ) (x : Cell) → i < count ts
    → (get_or (scripts ts) i no_script).put x ≡ on_null (λ _. nu) (mark (field ts i) ++ (script (field ts i)).put x) x
unfolding script count field item
scripts-at end i x h = absurd (omega arith)
scripts-at (t then ts) zero x h = refl
scripts-at (t then ts) (suc i) x h = scripts-at ts i x (omega arith)

-- the next field's type stands behind this one's
field-on : (s : List ℕ) (first d i : ℕ) → field_at s first d (suc i) ≡ next_at s (field_at s first d i) d
unfolding field_at
field-on s first d zero = refl
field-on s first d (suc i) = field-on s (next_at s first d) d i

field-first : (s : List ℕ) (first d : ℕ) → first ≡ field_at s first d 0
unfolding field_at
field-first s first d = refl

-- before field i, whose type stands at the place at and whose slot at slot
pub record AtField (t : List ℕ) (first n d : ℕ) (b : List ℕ) (pos at i slot : ℕ) (out₀ out : List ℕ) (p : ℕ) : Type 0 where
  pub asked : Fields t first n d b pos
  pub at-is : pos_of t at ≡ field_at (schema_of t) (pos_of t first) d i
  pub slot_is : slot ≡ bitmap n + 8 * i
  pub going : Going (scripts (types_of t first d n)) (parts (cell_of (ro (types_of t first d n)) b)) out₀ pos i out p

module _ {t : List ℕ} {first n d : ℕ} {b : List ℕ} {pos : ℕ} (r : Fields t first n d b pos) where
  abbrev ts : Tys
  ts = types_of t first d n

  abbrev c : Cell
  c = cell_of (ro ts) b

  types-count : count ts ≡ n
  types-count = typed-count (schema_of t) (pos_of t first) d n r.typed

  parts-count : length (parts c) ≡ n
  unfolding codec struct
  parts-count = all-length 8 (kids ts) (parts c) (body-fit 0 8 (kids ts) (kids-lawful ts) (parts c) b r.holds.lays.body) ∙ kids-count ts ∙ types-count

  fields-room : bitmap n + 8 * n ≤ length b
  unfolding codec struct
  fields-room =
      let e : length (kids ts) ≡ n = kids-count ts ∙ types-count in
      let z = rw e at (body-total 0 8 (kids ts) (kids-lawful ts) (parts c) b r.holds.lays.body) in
      omega arith

  pub fields-few : n < 2 ^ 32
  fields-few = omega (arith, r.high)

  pub fields-start : {m : ℕ} → m ≡ bitmap n → (out : List ℕ) → AtField t first n d b pos first 0 m out out pos
  fields-start e out = record {
    asked = r;
    at-is = field-first (schema_of t) (pos_of t first) d;
    slot_is = omega arith;
    going = going_start _ _ out pos;
  }

module _ {t : List ℕ} {first n d : ℕ} {b : List ℕ} {pos at i slot : ℕ} {out₀ out : List ℕ} {p : ℕ}
    (a : AtField t first n d b pos at i slot out₀ out p) where
  abbrev r₀ : Fields t first n d b pos
  r₀ = a.asked

  abbrev us : Tys
  us = types_of t first d n

  abbrev cell : Cell
  cell = cell_of (ro us) b

  pub fields-end : n ≤ i → Written out₀ pos (field_lines us b) out p
  unfolding field_lines
  fields-end l = going_end a.going (rw (scripts-count us, types-count r₀) l)

  pub fields-kept : length out ≡ length out₀
  fields-kept = a.going.wrote.kept

  module _ (l : i < n) where
    fits : slot + 8 ≤ length b
    fits = omega (arith, a.slot_is, fields-room r₀)

    law : FieldLaw (schema_of t) i (pos_of t first) d n
    law = field-typed (schema_of t) i (pos_of t first) d n r₀.typed l

    pub field-stands : InTable t at d
    field-stands = record { table = r₀.table; typed = rw a.at-is law.typed }

    abbrev T : Ty
    T = type_of t at d

    type-is : field us i ≡ T
    type-is = rw a.at-is (sym law.same)

    slot_at : 0 + (bitmap n + i * 8) ≡ slot
    slot_at = omega (arith, a.slot_is)

    come : Comes (ro us) T cell i 0 b (child 0 8 n T i 0 b)
    unfolding child_ty step_in
    come = rw (type-is, types-count r₀) at (comes (ro us) cell i root_seat 0 b r₀.holds.lays (omega (arith, r₀.holds.small)))

    there : bit b 0 i ≡ false → Own T b slot
    there e =
        (subst (λ (j : ℕ). There T (part_of i cell) b j) slot_at
        (there-child (ro us) T cell 0 8 n i b l r₀.holds.bytes r₀.holds.small come e)).own

    item-is : (get_or (scripts us) i no_script).put (get_or (parts cell) i (leaf [])) ≡ child_lines T b 0 i slot
    item-is =
        scripts-at us i (part_of i cell) (omega (arith, types-count r₀))
        ∙ ap (λ (y : Ty). on_null (λ _. nu) (mark y ++ (script y).put (part_of i cell)) (part_of i cell)) type-is
        ∙ lines-child (ro us) T cell 0 8 n i b l r₀.holds.bytes r₀.holds.small come
        ∙ ap (child_lines T b 0 i) slot_at

    in-scripts : i < length (scripts us)
    in-scripts = omega (arith, scripts-count us, types-count r₀)

    in_parts : i < length (parts cell)
    in_parts = omega (arith, parts-count r₀)

    field_room : p + length (child_lines T b 0 i slot) ≤ 65536
    unfolding field_lines
    field_room = going-room a.going no_script (leaf []) in-scripts in_parts _ item-is r₀.room

    pub field-seat : Seated T b 0 i slot p
    field-seat = record {
      bytes = r₀.holds.bytes;
      small = r₀.holds.small;
      bit-room = omega (arith, fields-room r₀);
      slot-room = omega (arith, fits, slot_small T);
      present = there;
      room = field_room;
    }

    fields-on : {at' : ℕ} → pos_of t at' ≡ next_at (schema_of t) (pos_of t at) d → {out' : List ℕ} {p' : ℕ}
        → Written out p (child_lines T b 0 i slot) out' p' → AtField t first n d b pos at' (i + 1) (slot + 8) out₀ out' p'
    fields-on ea f = record {
      asked = r₀;
      at-is = ea ∙ ap (λ (j : ℕ). next_at (schema_of t) j d) a.at-is ∙ rw (add-one i) (sym (field-on (schema_of t) (pos_of t first) d i));
      slot_is = omega (arith, a.slot_is);
      going = going_next a.going no_script (leaf []) in-scripts in_parts _ item-is f;
    }

    pub field-null-room : p ≤ 65536
    field-null-room = seat-room field-seat

    -- w is its entry, and x its bit
    module _ {w : ℕ} (e : EntryAt t at d w) {x : Bool} (ex : x ≡ bit b 0 i) where
      -- what was written for it is out' and p' where the branches meet
      module _ {at' : ℕ} (ea : at' ≡ after_in w) {o out' : List ℕ} {q p' : ℕ} (eo : out' ≡ o) (ep : p' ≡ q) where
        abbrev Next : Type 0
        Next = AtField t first n d b pos at' (i + 1) (slot + 8) out₀ out' p'

        step : Written out p (child_lines T b 0 i slot) o q → Next
        step f = fields-on (ap (pos_of t) ea ∙ e.next) (met f eo ep)

        pub field-null : x ≡ true → Written out p nu o q → Next
        field-null f g = step (seat-null field-seat ex f g)

        own : x ≡ false → Written out p (own_lines T b slot) o q → Next
        own f g = step (seat-own field-seat ex f g)

      -- k is the place of its type in the table of types
      module _ (f : x ≡ false) {k : ℕ} (ek : k ≡ place_in w) where
        present : Present T b slot p
        present = seat-there field-seat ex f

        module _ (low : k < 9) where
          pub field-is-leaf : Leaf w b slot p
          field-is-leaf = entry-leaf field-stands e present ek low

          pub field-leaf : {at' : ℕ} → at' ≡ after_in w → {o out' : List ℕ} {q p' : ℕ} → out' ≡ o → p' ≡ q
              → Written out p (own_lines (leaf_at (place_in w)) b slot) o q → AtField t first n d b pos at' (i + 1) (slot + 8) out₀ out' p'
          field-leaf ea eo ep g = own ea eo ep f (same_bytes (entry-leaf-lines field-stands e present ek low) g)

        module _ (high : 9 ≤ k) where
          pub field-elsewhere : Elsewhere b slot
          field-elsewhere = entry-elsewhere field-stands e present ek high

          module _ {u : List ℕ} (eu : u ≡ own_bytes none b slot) where
            pub field-container : Container t at d u p
            field-container = entry-container field-stands e present ek high eu

            pub field-value : {at' : ℕ} → at' ≡ after_in w → {o out' : List ℕ} {q p' : ℕ} → out' ≡ o → p' ≡ q
                → Written out p (lines T u) o q → AtField t first n d b pos at' (i + 1) (slot + 8) out₀ out' p'
            field-value ea eo ep g = own ea eo ep f (same_bytes (entry-lines field-stands e present ek high eu) g)
