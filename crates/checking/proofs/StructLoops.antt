-- A struct: its size and bitmap, and the loop over its fields: what it knows, and one law for each way through its body. Assumes nothing.
use mathlib.Core.Path.{◌≡◌, refl, sym, ap, ◌∙◌, subst}
use mathlib.Core.Bool.{Bool, true, false, not, cond}
use mathlib.Core.List.{List}
use Prim.Native.Nat.{ℕ, suc, ◌+◌, ◌*◌, ◌-◌, ◌%◌, ◌^◌, ◌≤◌, ◌<◌}
use native.Mathlib.Numerals.{add-one}
use native.Mathlib.Omega.{arith}
use mir.Val.{Fits}
use mir.Syntax.{w64}
use lib.Dec.{ltb}
use lib.Bits.{bit_and}
use lib.ListN.{length}
use Rattle.words.specs.Bytes.{Bytes, num, bitmap, part, past_byte}
use Rattle.words.specs.Bits.{bit}
use Rattle.words.proofs.Powers.{eights, no-eights}
use Rattle.schema.specs.Types.{Ty, fix, text, li, ma, Tys, ro, fixed_at, text_at, width, place, field}
use Rattle.schema.specs.Walk.{size, Typed, type_at, next_at, field_at}
use Rattle.schema.proofs.Table.{width-8}
use Rattle.schema.proofs.Laws.{size-fixed, size-text}
use Rattle.schema.proofs.Typing.{typed-deep, next-is, FieldLaw, field-typed, typed-count, field-here}
use Rattle.schema.proofs.Places.{typed-place, fixed_of, text_of, holding-of}
use Rattle.layout.specs.Tiles.{Range}
use Rattle.layout.specs.Layout.{number, inside, kid_of, kid, codec, kids, limit, front}
use Rattle.layout.proofs.Containers.{kids-count}
use Rattle.layout.proofs.Steps.{kid_at}
use Rattle.layout.proofs.Walked.{kids-at}
use Rattle.table.specs.Words.{place_in, after_in}
use Rattle.table.specs.Tables.{InTable, EntryAt, schema_of, pos_of, type_of, types_of}
use Rattle.standing.specs.Standing.{varies, FieldsFrom}
use Rattle.standing.proofs.Tabled.{kind-varies, kind-fixed, field_next}
use Rattle.checking.specs.Sound.{code, fault_of, in_child, zeros_then, fault_from}
use Rattle.spelling.specs.Spelling.{Spelling}
use Rattle.checking.specs.Room.{Fields, FieldRoom, field_then, field_good}
use Rattle.checking.proofs.Tests.{clash, passed, failed, MapRoom}
use Rattle.checking.proofs.Children.{good-null, good-inside}
use Rattle.checking.proofs.Containers.{struct-odd, struct-short, struct-past, struct-good, Eights, container-eights}
use Rattle.checking.proofs.Leaves.{text-sound, text-fault}
use Rattle.checking.proofs.Fields.{field-passes, field-hides}
use Rattle.checking.proofs.Loops.{fields, fault_in, Slots, At, loop-start, loop-bit, loop-slot, loop-pass, loop-wrong}
use Rattle.checking.proofs.Values.{as-type, place-low, next_place}

-- ---- size and bitmap

pub struct-asks : {t : List ℕ} {first n d : ℕ} {b : List ℕ} → Fields t first n d b → n < 2 ^ 32
struct-asks f = omega (arith, f.high)

pub struct-mul : {t : List ℕ} {first n d : ℕ} {b : List ℕ} → Fields t first n d b → Fits w64 (8 * n)
struct-mul f = omega (arith, f.high)

module _ {t : List ℕ} {first n d : ℕ} {b : List ℕ} (f : Fields t first n d b) {slots : ℕ} (es : slots ≡ bitmap n) where
  abbrev all : Tys
  all = types_of t first d n

  kids-n : length (kids all) ≡ n
  kids-n = kids-count all ∙ typed-count (schema_of t) (pos_of t first) d n f.typed

  pub struct-end : Fits w64 (slots + 8 * n)
  struct-end = omega (arith, f.high)

  pub fields-odd : (bit_and (length b) 7 ≡ 0 → ⊥) → 1 ≡ fault_of (ro all) b
  fields-odd h = sym (struct-odd all n b kids-n (no-eights (length b) h))

  module _ (mask : bit_and (length b) 7 ≡ 0) where
    e8 : length b % 8 ≡ 0
    e8 = eights (length b) mask

    pub fields-short : length b < slots + 8 * n → 1 ≡ fault_of (ro all) b
    fields-short h = sym (struct-short all n b kids-n e8 (omega arith))

    module _ (room : slots + 8 * n ≤ length b) where
      pub fields_map : MapRoom b n slots
      fields_map = record { small = f.small; low = omega arith; high = omega arith; few = omega (arith, f.high) }

      pub fields-from : FieldsFrom t first d n b
      fields-from = record { table = f.table; typed = f.typed; high = f.high; slots = record { small = f.small; whole = e8; room = omega arith } }

      from : slots - bitmap n ≡ 0
      from = omega arith

      module _ {p : Bool} (ep : p ≡ ltb (num (part b (slots - bitmap n) (bitmap n))) (2 ^ n)) where
        past : p ≡ ltb (num (part b 0 (bitmap n))) (2 ^ n)
        past = ep ∙ ap (λ (j : ℕ). ltb (num (part b j (bitmap n))) (2 ^ n)) from

        pub fields_bits : not p ≡ true → {y : ℕ} → y ≡ slots - bitmap n + past_byte n (part b (slots - bitmap n) (bitmap n)) → y + 2 ≡ fault_of (ro all) b
        fields_bits e {y} ey =
            let q : y ≡ 0 + past_byte n (part b 0 (bitmap n)) = rw from at ey in
            let g : y + 2 ≡ suc (suc (0 + past_byte n (part b 0 (bitmap n)))) = omega arith in
            g ∙ sym (struct-past all n b kids-n e8 (omega arith) (failed past e))

        pub fields-whole : not p ≡ false → {y : ℕ} → y ≡ fault_in (fields all) b → y ≡ fault_of (ro all) b
        fields-whole e ey = ey ∙ sym (struct-good all n b kids-n e8 (omega arith) (passed past e))

-- ---- the loop

-- before field i: the entry of its type stands at the place c
pub record FieldAt (t : List ℕ) (first d n : ℕ) (b : List ℕ) (slots start c i slot cur stop done since : ℕ) : Type 0 where
  pub given : FieldsFrom t first d n b
  pub type : pos_of t c ≡ field_at (schema_of t) (pos_of t first) d i
  pub state : At (fields (types_of t first d n)) b n slots start i slot cur stop done since

module _ {t : List ℕ} {first d n : ℕ} {b : List ℕ} (f : FieldsFrom t first d n b) where
  -- the positions of the loop
  pub fields-asks : n < 2 ^ 32
  fields-asks = omega (arith, f.high)

  pub fields-mul : Fits w64 (8 * n)
  fields-mul = omega (arith, f.high)

  module _ {r : ℕ} (e : r ≡ bitmap n) where
    pub fields-first : Fits w64 (r + 8 * n)
    fields-first = omega (arith, f.high)

    pub fields-start : Bytes b → FieldAt t first d n b r (r + 8 * n) first 0 r (r + 8 * n) n 0 0
    fields-start hb = record {
      given = f;
      type = sym (field-here (schema_of t) (pos_of t first) d 0 refl);
      state = loop-start (record {
        right = typed-count (schema_of t) (pos_of t first) d n f.typed;
        map = omega arith;
        data₀ = refl;
        room = omega (arith, f.slots.room);
        small = f.slots.small;
        whole = f.slots.whole;
        bytes = hb;
      });
    }

    -- where a field's place is counted from the first
    pub leaves-start : Bytes b → FieldAt t first d n b r (r + 8 * n) (first + 0) 0 r (r + 8 * n) n 0 0
    leaves-start hb =
        let z : first ≡ first + 0 = omega arith in
        subst (λ (c : ℕ). FieldAt t first d n b r (r + 8 * n) c 0 r (r + 8 * n) n 0 0) z (fields-start hb)

module _ {t : List ℕ} {first d n : ℕ} {b : List ℕ} {slots start c i slot cur stop done since : ℕ}
    (a : FieldAt t first d n b slots start c i slot cur stop done since) where
  -- the cursor moves
  pub field-moves : {cur' stop' done' since' : ℕ} → At (fields (types_of t first d n)) b n slots start i slot cur' stop' done' since'
      → FieldAt t first d n b slots start c i slot cur' stop' done' since'
  field-moves s = record { given = a.given; type = a.type; state = s }

  module _ (l : i < stop) where
    law : FieldLaw (schema_of t) i (pos_of t first) d n
    law = field-typed (schema_of t) i (pos_of t first) d n a.given.typed (omega (arith, a.state.within))

    -- where its entry is looked up
    pub field-stands : InTable t c d
    field-stands = record {
      table = a.given.table;
      typed = subst (λ (x : ℕ). Typed (schema_of t) x d) (sym a.type) law.typed;
    }

    pub field-deep : 1 ≤ d
    field-deep = typed-deep (schema_of t) (pos_of t c) d field-stands.typed

    pub field-low : c < 1024
    field-low = place-low field-stands

    -- where its own first child's would stand
    pub field-first : Fits w64 (c + 1)
    field-first = next_place field-stands

    type-is : type_of t c d ≡ field (types_of t first d n) i
    type-is = ap (λ (x : ℕ). type_at (schema_of t) x d) a.type ∙ law.same

-- a leaf's type takes its mark
leaf-size : (X : Ty) → place X < 9 → size X ≡ 2
unfolding place
leaf-size (fix f) h = size-fixed f
leaf-size (text x) h = size-text x
leaf-size (li X) h = absurd (omega arith)
leaf-size (ma K X) h = absurd (omega arith)
leaf-size (ro ts) h = absurd (omega arith)

pub fixed-leaf : {k : ℕ} → k < 7 → k < 9
fixed-leaf h = omega arith

-- a place counted from the first
pub one_on : (first i : ℕ) → first + (i + 1) ≡ first + i + 1
one_on first i = omega arith

-- the field's entry is w, and its kind k
module _ {t : List ℕ} {first d n : ℕ} {b : List ℕ} {slots start c i slot cur stop done since : ℕ}
    (a : FieldAt t first d n b slots start c i slot cur stop done since) (less : i < stop) {w : ℕ} (entry : EntryAt t c d w)
    {k : ℕ} (kind : k ≡ place_in w) where
  abbrev ts : Tys
  ts = types_of t first d n

  abbrev own : Ty
  own = field ts i

  stands : InTable t c d
  stands = field-stands a (less)

  same : type_of t c d ≡ own
  same = type-is a (less)

  kind-is : k ≡ place own
  kind-is = kind ∙ entry.place ∙ typed-place (schema_of t) (pos_of t c) d stands.typed ∙ ap place same

  pub reached-vary : 7 ≤ k → varies own ≡ true
  reached-vary lo = kind-varies own (omega (arith, kind-is))

  -- a string or a binary, whose bytes are what they should be, or are not
  module _ (lo : 7 ≤ k) (hi : k < 9) {u : List ℕ} {r : Bool} (e : Spelling (text_at k) u r) where
    as-text : fault_of own u ≡ fault_of (text (text_at k)) u
    as-text = ap (λ (x : Ty). fault_of x u) (text_of own k kind-is lo hi)

    pub reached-text : not r ≡ false → fault_of own u ≡ 0
    reached-text q = as-text ∙ text-sound e q

    pub reached-misspelled : not r ≡ true → fault_of own u ≡ 1
    reached-misspelled q = as-text ∙ text-fault e q

  -- a container that has none is a multiple of 8 in size, and is judged by its type
  module _ (lo : 9 ≤ k) where
    pub reached-eights : Eights own
    reached-eights = container-eights own k (holding-of own k kind-is lo)

  pub reached-fault : (p : List ℕ) {y : ℕ} → y ≡ fault_of (type_of t c d) p → y ≡ fault_of own p
  reached-fault p e = as-type _ _ p _ (sym same) e

  -- the next field
  reached-at : {c' cur' : ℕ} → pos_of t c' ≡ next_at (schema_of t) (pos_of t c) d → At (fields ts) b n slots start (i + 1) (slot + 8) cur' stop done since
      → FieldAt t first d n b slots start c' (i + 1) (slot + 8) cur' stop done since
  reached-at e s = record {
    given = a.given;
    type =
        e ∙ ap (λ (x : ℕ). next_at (schema_of t) x d) a.type ∙ field_next (schema_of t) d i (pos_of t first)
        ∙ ap (field_at (schema_of t) (pos_of t first) d) (sym (add-one i));
    state = s;
  }

  pub reached-next : {c' cur' : ℕ} → c' ≡ after_in w → At (fields ts) b n slots start (i + 1) (slot + 8) cur' stop done since
      → FieldAt t first d n b slots start c' (i + 1) (slot + 8) cur' stop done since
  reached-next e s = reached-at (ap (pos_of t) e ∙ entry.next) s

  -- behind a leaf it stands at the next place
  leaf-next : k < 9 → pos_of t (c + 1) ≡ next_at (schema_of t) (pos_of t c) d
  leaf-next h =
      entry.child (λ q. omega arith)
      ∙ sym (next-is (schema_of t) (pos_of t c) d ∙ ap (λ (x : Ty). pos_of t c + size x) same
      ∙ ap (λ (x : ℕ). pos_of t c + x) (leaf-size own (omega (arith, kind-is))))

  pub reached-leaf : k < 9 → {c' cur' : ℕ} → c' ≡ c + 1 → At (fields ts) b n slots start (i + 1) (slot + 8) cur' stop done since
      → FieldAt t first d n b slots start c' (i + 1) (slot + 8) cur' stop done since
  reached-leaf h e s = reached-at (ap (pos_of t) e ∙ leaf-next h) s

  -- a field of a fixed width
  module _ (h : k < 7) where
    abbrev leaf : ℕ
    leaf = width (fixed_at (place_in w))

    pub leaf_room : FieldRoom b i slot w
    leaf_room = record {
      small = a.given.slots.small;
      lined = entry.lined;
      fixed = omega arith;
      bit-room = loop-bit a.state (less);
      slot-room = loop-slot a.state (less);
    }

    kids-n' : length (kids ts) ≡ n
    kids-n' = kids-count ts ∙ a.state.fixed.right

    is-inside : kid_at (kids ts) i ≡ inside 8 leaf (number leaf (limit (fixed_at (place_in w))))
    unfolding codec kid_of number
    is-inside =
        kids-at ts i (omega (arith, kids-n', a.state.within))
        ∙ ap (λ (x : Ty). kid 8 (codec x)) (fixed_of own (place_in w) (sym (kind) ∙ kind-is) (omega arith))

    judged : (rs : List Range) → fault_from 0 8 (kids ts) b i rs ≡ field_then (fixed_at (place_in w)) b i slot (fault_from 0 8 (kids ts) b (i + 1) rs)
    unfolding field_then
    judged rs = go (bit b 0 i) refl
      where
        z : Slots (fields ts) b n slots start
        z = a.state.fixed

        fits : front 0 8 (length (kids ts)) ≤ length b
        fits = rw kids-n' (omega (arith, z.map, z.data₀, z.room))

        p : 0 + bitmap (length (kids ts)) + i * 8 ≡ slot
        p = rw kids-n' (omega (arith, z.map, a.state.slot_is))

        below : i < length (kids ts)
        below = omega (arith, kids-n', a.state.within)

        later : ℕ
        later = fault_from 0 8 (kids ts) b (i + 1) rs

        go : (v : Bool) → bit b 0 i ≡ v → fault_from 0 8 (kids ts) b i rs ≡ cond v later
            (in_child slot slot (code ((number leaf (limit (fixed_at (place_in w)))).get (part b slot leaf))) (zeros_then b (slot + leaf) (slot + 8) later))
        go true e = good-null 0 8 (kids ts) b fits z.bytes i below rs e
        go false e =
            good-inside 0 8 (kids ts) b fits z.bytes i below rs leaf (number leaf (limit (fixed_at (place_in w)))) is-inside
            (width-8 (fixed_at (place_in w))) e
            ∙ rw p

    module _ {v : Bool} (e : v ≡ field_good (fixed_at (place_in w)) b i slot) where
      pub leaf-wrong : not v ≡ true → {y : ℕ} → y ≡ field_then (fixed_at (place_in w)) b i slot 0 → y ≡ fault_in (fields ts) b
      leaf-wrong q ey =
          ey ∙ loop-wrong a.state (less) (λ rs. judged rs ∙ field-hides (fixed_at (place_in w)) b i slot _ (failed e q))

      pub leaf-passes : not v ≡ false → At (fields ts) b n slots start (i + 1) (slot + 8) cur stop done since
      leaf-passes q =
          loop-pass a.state (less) (λ vary _. clash vary (kind-fixed own (omega (arith, kind-is))))
          (λ rs. judged rs ∙ field-passes (fixed_at (place_in w)) b i slot _ (passed e q))

      pub leaf-good : not v ≡ false → {c' : ℕ} → c' ≡ after_in w
          → FieldAt t first d n b slots start c' (i + 1) (slot + 8) cur stop done since
      leaf-good q ec = reached-next ec (leaf-passes q)
