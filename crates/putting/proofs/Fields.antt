-- The fields of a struct written one after the other. Assumes nothing.
use mathlib.Core.Path.{◌≡◌, refl, sym, ap, ◌∙◌}
use mathlib.Core.Option.{Option, some}
use mathlib.Core.List.{List, ◌∷◌}
use Prim.Native.Nat.{ℕ, ◌+◌, ◌*◌, ◌-◌, ◌^◌, ◌≤◌, ◌<◌}
use native.Mathlib.Omega.{arith}
use lib.ListN.{length, drop}
use lib.Seq.{sets, length-sets}
use mir.Syntax.{w64}
use mir.Val.{Fits}
use Rattle.words.specs.Bytes.{le, zeros, pad, padded, bitmap}
use Rattle.words.specs.Pairs.{low_in, high_in, Paired}
use Rattle.words.proofs.Numbers.{slice-bytes}
use Rattle.schema.specs.Types.{Ty, ro, Tys, ◌then◌, count, mark}
use Rattle.schema.specs.Walk.{Typed, type_at, TypedAll, types_at, next_at, StructAt}
use Rattle.schema.proofs.Typing.{typed-more, typed-done, typed-count}
use Rattle.layout.specs.Cells.{Cell, node}
use Rattle.layout.specs.Layout.{kid, tails, AllFit, struct, codec, kids, content, body_put}
use Rattle.layout.specs.Listing.{item, run_get, struct_script, script, scripts}
use Rattle.layout.proofs.Cells.{parts-node}
use Rattle.layout.proofs.Children.{tails-eight}
use Rattle.layout.proofs.Containers.{kids-lawful, kids-count}
use Rattle.layout.proofs.Widths.{slot_small}
use Rattle.table.specs.Words.{count_in, after_in}
use Rattle.table.specs.Tables.{schema_of, pos_of, EntryAt, type_of}
use Rattle.table.proofs.Places.{entry-struct}
use Rattle.measuring.specs.Measure.{size}
use Rattle.measuring.proofs.Totals.{kids-then, scripts-then, kids-end, scripts-end, fields_fit, fields-size}
use Rattle.putting.specs.Put.{Ready, ClearCan, Held, PutStruct}
use Rattle.putting.proofs.Given.{given-fields, given-two, run-first}
use Rattle.putting.proofs.Slots.{Octets, padded-whole}
use Rattle.putting.proofs.Paint.{paint, body_is}
use Rattle.putting.proofs.Paints.{size_is, cells_of, rest_of, Paints}
use Rattle.putting.proofs.Paints.{paints-answer, paints-bit, paints-slot, paints-ready, paints-next, paints-end}
use Rattle.putting.proofs.Placed.{Next, SeenHere}

-- where the fields' bytes start
abbrev start_of : ℕ → ℕ → ℕ
start_of n pos = pos + bitmap n + 8 * n

abbrev run : Tys → List ℕ → ℕ → Option (List Cell × List ℕ)
run ts l from = run_get (scripts ts) (drop from l)

-- what a struct's fields ask, with the count that the code found
record FieldsIn (ts : Tys) (n : ℕ) (l : List ℕ) (from pos len : ℕ) : Type 0 where
  pub cells : List Cell
  pub rest : List ℕ
  pub reads : run ts l from ≡ some (cells, rest)
  pub fit : AllFit 8 (kids ts) cells
  pub many : length (kids ts) ≡ n
  pub size_of : size (ro ts) (node cells) ≡ bitmap n + 8 * n + length (tails (kids ts) cells)
  pub room : start_of n pos + length (tails (kids ts) cells) ≤ len

-- the types of a struct's n fields, if its own stands at c
abbrev field_tys : List ℕ → ℕ → ℕ → ℕ → Tys
field_tys t c d n = types_at (schema_of t) (pos_of t (c + 1)) (d - 1) n

-- what is left to be painted before field i of n: fields of the types us, the last ones of ts
abbrev FieldsLeft : Tys → Tys → ℕ → List ℕ → ℕ → ℕ → List ℕ → List ℕ → ℕ → ℕ → ℕ → ℕ → Type 0
FieldsLeft us ts n l from pos x₀ x i from₁ slot cur = Paints (kids us) (scripts us) l pos pos 8
    (paint pos pos 8 (kids ts) (cells_of (run ts l from)) 0 (pos + bitmap n) (start_of n pos) x₀)
    (rest_of (run ts l from)) (start_of n pos + length (tails (kids ts) (cells_of (run ts l from)))) x i n from₁ slot cur

-- before field i, whose type stands at the place field, and whose slot and other bytes at slot and cur: what was known before the loop, what
-- is left to be painted, and that field; x₀ is the output where the loop begins. What only this file takes apart is closed, so that no search
-- at a place of the code looks into it
pub record FieldsPaints (t : List ℕ) (c d n : ℕ) (l : List ℕ) (from pos : ℕ) (x₀ x : List ℕ) (field i from₁ slot cur : ℕ) : Type 0 where
  pub next : Next t field (d - 1) 8 l from₁ pos pos i n slot cur x
  put : PutStruct t c d l from pos (length x₀)
  octets : Octets l
  struct : StructAt (schema_of t) (pos_of t c) d (pos_of t (c + 1)) n
  typed : TypedAll (schema_of t) (pos_of t field) (d - 1) (n - i)
  paints : FieldsLeft (types_at (schema_of t) (pos_of t field) (d - 1) (n - i)) (field_tys t c d n) n l from pos x₀ x i from₁ slot cur
  pub long : length x ≡ length x₀

-- there is a next one, at depth d
module _ (t : List ℕ) (field d i n : ℕ) (all : TypedAll (schema_of t) (pos_of t field) d (n - i)) (h : i < n) where
  abbrev field_ty : Ty
  field_ty = type_of t field d

  abbrev others : Tys
  others = types_at (schema_of t) (next_at (schema_of t) (pos_of t field) d) d (n - (i + 1))

  law-of : (types_at (schema_of t) (pos_of t field) d (n - i) ≡ field_ty then others) × Typed (schema_of t) (pos_of t field) d
      × TypedAll (schema_of t) (next_at (schema_of t) (pos_of t field) d) d (n - (i + 1))
  law-of =
      let e : n - i - 1 ≡ n - (i + 1) = omega arith in
      let f = typed-more (schema_of t) (pos_of t field) d (n - i) all (omega arith) in
      (rw e at f.whole, f.first, rw e at f.others)

  more : {l : List ℕ} {base bm w : ℕ} {goal stop : List ℕ} {last : ℕ} {x : List ℕ} {pos slot cur : ℕ}
      → Paints (kids (types_at (schema_of t) (pos_of t field) d (n - i))) (scripts (types_at (schema_of t) (pos_of t field) d (n - i)))
      l base bm w goal stop last x i n pos slot cur
      → Paints (kid 8 (codec field_ty) ∷ kids others) (item 8 (mark field_ty) (script field_ty) ∷ scripts others)
      l base bm w goal stop last x i n pos slot cur
  more g = rw (ap kids law-of.0 ∙ kids-then field_ty others, ap scripts law-of.0 ∙ scripts-then field_ty others) at g

-- e is the struct's entry, and n the count of its fields
module _ {t : List ℕ} {c d : ℕ} {l : List ℕ} {from pos len : ℕ} (p : PutStruct t c d l from pos len) {e n : ℕ} (en : EntryAt t c d e) (ec : n ≡ count_in e) where
  at-struct : StructAt (schema_of t) (pos_of t c) d (pos_of t (c + 1)) n
  at-struct = entry-struct p.put.stands en (en.place ∙ p.struct) ec

  pub fields-many : n < 2 ^ 32
  fields-many = omega (arith, at-struct.high)

  pub fields-cells : Fits w64 (8 * n)
  fields-cells = omega (arith, at-struct.high)

-- by what stands there
module _ {t : List ℕ} {c d : ℕ} {l : List ℕ} {from pos len : ℕ} (p : PutStruct t c d l from pos len) (o : Octets l) {n : ℕ}
    (s : StructAt (schema_of t) (pos_of t c) d (pos_of t (c + 1)) n) where
  abbrev ts : Tys
  ts = field_tys t c d n

  ready : Ready (run ts l from) (λ cs. size (ro ts) (node cs)) pos len
  ready = given-fields ts l from pos len (rw s.whole at p.put.ready)

  fields_in : FieldsIn ts n l from pos len
  fields_in =
      let r = ready in
      let f = fields_fit ts l from r.thing r.rest (slice-bytes o) r.reads in
      let m : count ts ≡ n = typed-count (schema_of t) (pos_of t (c + 1)) (d - 1) n s.fields in
      let z : size (ro ts) (node r.thing) ≡ bitmap n + 8 * n + length (tails (kids ts) r.thing) = rw m at (fields-size ts r.thing f) in
      record { cells = r.thing; rest = r.rest; reads = r.reads; fit = f; many = kids-count ts ∙ m; size_of = z; room = omega (arith, r.room, z) }

  -- the field before which that much is left to be painted
  field_next : {field i : ℕ} → TypedAll (schema_of t) (pos_of t field) (d - 1) (n - i)
      → {goal stop : List ℕ} {last : ℕ} {x : List ℕ} {from₁ slot cur : ℕ}
      → Paints (kids (types_at (schema_of t) (pos_of t field) (d - 1) (n - i))) (scripts (types_at (schema_of t) (pos_of t field) (d - 1) (n - i))) l pos pos 8
      goal stop last x i n from₁ slot cur → length x ≡ len → Next t field (d - 1) 8 l from₁ pos pos i n slot cur x
  field_next {field} {i} all q el = record {
    answer = paints-answer q p.put.short (omega (arith, p.put.small));
    child = λ h.
        let T = type_of t field (d - 1) in
        record {
          stands = record { table = p.put.stands.table; typed = (law-of t field (d - 1) i n all h).1 };
          wide = slot_small T;
          most = omega arith;
          ready = paints-ready (kid 8 (codec T)) (item 8 (mark T) (script T)) (more t field (d - 1) i n all h q);
          octets = slice-bytes o;
          low = q.low;
          map = paints-bit q h;
          slots = paints-slot q h;
          small = omega (arith, p.put.small);
          short = p.put.short;
        };
  }

  -- a struct has a first field, whose mark is in the listing
  inside : from ≤ length l
  inside =
      let at = pos_of t (c + 1) in
      let m = typed-more (schema_of t) at (d - 1) n s.fields s.low in
      let T = type_at (schema_of t) at (d - 1) in
      let us = types_at (schema_of t) (next_at (schema_of t) at (d - 1)) (d - 1) (n - 1) in
      let q : scripts ts ≡ item 8 (mark T) (script T) ∷ scripts us = ap scripts m.whole ∙ scripts-then T us in
      let f = run-first (item 8 (mark T) (script T)) (scripts us) (drop from l) ready.thing ready.rest (rw q at ready.reads) in
      omega (arith, given-two 8 (mark T) (script T) l from f.cell f.left f.reads)

-- and by its entry again: what the code asks before the loop
module _ {t : List ℕ} {c d : ℕ} {l : List ℕ} {from pos len : ℕ} (p : PutStruct t c d l from pos len) (o : Octets l) {e n : ℕ} (en : EntryAt t c d e)
    (ec : n ≡ count_in e) where
  fields-room : start_of n pos ≤ len
  fields-room = omega (arith, (fields_in p o (at-struct p en ec)).room)

  pub fields-clear : ClearCan n pos len
  fields-clear = record { low = (at-struct p en ec).low; high = (at-struct p en ec).high; room = omega (arith, fields-room) }

  module _ {bits : ℕ} (eb : bits ≡ bitmap n) where
    pub fields-start : Fits w64 (pos + bits + 8 * n)
    fields-start = omega (arith, fields-room, p.put.small)

    pub fields-begin : {x₀ : List ℕ} → length x₀ ≡ len → FieldsPaints t c d n l from pos x₀ x₀ (c + 1) 0 from (pos + bits) (pos + bits + 8 * n)
    unfolding cells_of rest_of
    fields-begin {x₀} el =
        let z : n - 0 ≡ n = omega arith in
        let s = at-struct p en ec in
        let p₀ : PutStruct t c d l from pos (length x₀) = rw el p in
        let a = fields_in p₀ o s in
        let all : TypedAll (schema_of t) (pos_of t (c + 1)) (d - 1) (n - 0) = rw z s.fields in
        let q : FieldsLeft (field_tys t c d (n - 0)) (field_tys t c d n) n l from pos x₀ x₀ 0 from (pos + bits) (pos + bits + 8 * n) =
        rw (z, eb) (record {
          cells = a.cells;
          reads = a.reads ∙ rw a.reads;
          inside = inside p₀ o s;
          same = rw a.reads;
          ends = rw a.reads;
          room = rw a.reads (omega (arith, a.room));
          most = omega arith;
          map = omega arith;
          slots = rw z (omega arith);
          low = omega arith;
        }) in
        record { put = p₀; octets = o; struct = s; typed = all; paints = q; long = refl; next = field_next p₀ o s all q refl }

module _ {t : List ℕ} {c d n : ℕ} {l : List ℕ} {from pos : ℕ} {x₀ x : List ℕ} {field i from₁ slot cur : ℕ}
    (g : FieldsPaints t c d n l from pos x₀ x field i from₁ slot cur) where
  pub field-falls : {m : ℕ} → 3 * d + 1 ≡ m → 3 * (d - 1) + 2 < m
  field-falls e = omega (arith, g.struct.deep)

  pub field-goes : i < n → {e field₁ : ℕ} → EntryAt t field (d - 1) e → field₁ ≡ after_in e
      → {x₁ : List ℕ} {v next stop₁ : ℕ} → SeenHere g.next x₁ v next stop₁ → {y : List ℕ} → y ≡ sets x₁ slot (le 8 v)
      → FieldsPaints t c d n l from pos x₀ y field₁ (i + 1) next (slot + 8) stop₁
  field-goes h {field₁ = field₁} en ef {x₁} {v} {next} {stop₁} s {y} ey =
      let at : pos_of t field₁ ≡ next_at (schema_of t) (pos_of t field) (d - 1) = ap (pos_of t) ef ∙ en.next in
      let el = ap length ey ∙ length-sets x₁ slot (le 8 v) ∙ s.long in
      let all : TypedAll (schema_of t) (pos_of t field₁) (d - 1) (n - (i + 1)) = rw at (law-of t field (d - 1) i n g.typed h).2 in
      let us = types_at (schema_of t) (pos_of t field₁) (d - 1) (n - (i + 1)) in
      let q : FieldsLeft us (field_tys t c d n) n l from pos x₀ y (i + 1) next (slot + 8) stop₁ =
      rw at (paints-next (type_of t field (d - 1)) (more t field (d - 1) i n g.typed h g.paints) h (s.wrote ey) el) in
      record {
        put = g.put;
        octets = g.octets;
        struct = g.struct;
        typed = all;
        paints = q;
        long = el ∙ g.long;
        next = field_next g.put g.octets g.struct all q (el ∙ g.long);
      }

  -- ---- the struct is written

  fields-wrote : n ≤ i → {xx : List ℕ} → x₀ ≡ sets xx pos (zeros (bitmap n)) → Held (type_of t c d) l from pos xx x from₁ cur
  unfolding cells_of rest_of codec struct script struct_script
  fields-wrote h {xx} e₀ =
      let a = fields_in g.put g.octets g.struct in
      let us = field_tys t c d n in
      let cs = a.cells in
      let ln = a.many in
      let start = start_of n pos in
      let z : n - i ≡ 0 = omega arith in
      let d₀ = typed-done (schema_of t) (pos_of t field) (d - 1) (n - i) g.typed z in
      let y = paints-end (rw (ap kids d₀ ∙ kids-end, ap scripts d₀ ∙ scripts-end) at g.paints) in
      let bits = bitmap n in
      let none_left : pad (length (kids us) * 8) - length (kids us) * 8 ≡ 0 = omega arith in
      let el : length x₀ ≡ length xx = ap length e₀ ∙ simp length-sets in
      let b : paint pos pos 8 (kids us) cs 0 (pos + bits) start x₀ ≡ sets xx pos (body_put 0 8 (kids us) cs) =
      body_is pos pos 8 0 (kids us) cs xx x₀ bits (pos + bits + length (kids us) * 8) start 0 (kids-lawful us) a.fit
      (rw ln refl) (omega arith) refl (sym none_left) (omega (arith, ln)) (omega (arith, a.room, el)) e₀ in
      let u = content (ro us) (node cs) in
      let q : u ≡ body_put 0 8 (kids us) cs = rw parts-node in
      let long : length u ≡ bitmap n + 8 * n + length (tails (kids us) cs) = size_is (ro us) (node cs) ∙ a.size_of in
      let even : padded u ≡ u = padded-whole u (omega (arith, long, tails-eight 8 (kids us) cs (kids-lawful us))) in
      let by : x ≡ sets xx pos (padded u) =
      y.bytes ∙ ap (λ o. paint pos pos 8 (kids us) (cells_of o) 0 (pos + bits) start x₀) a.reads ∙ b ∙ ap (sets xx pos) (sym q ∙ sym even) in
      let rd : run us l from ≡ some (cs, drop from₁ l) = a.reads ∙ ap (λ (r : List ℕ). some (cs, r)) (sym (y.left ∙ ap rest_of a.reads)) in
      rw g.struct.whole (record {
        thing = node cs;
        reads = rw rd;
        inside = g.paints.inside;
        bytes = by;
        ends = omega (arith, y.ends ∙ ap (λ o. start + length (tails (kids us) (cells_of o))) a.reads, long);
      })

  pub fields-done : n ≤ i → {xx : List ℕ} → x₀ ≡ sets xx pos (zeros (bitmap n)) → {r : ℕ} → Paired from₁ cur r
      → Held (type_of t c d) l from pos xx x (low_in r) (high_in r)
  fields-done h e₀ p = rw (p.low-is, p.high_is) (fields-wrote h e₀)
