-- A child written in its container: what the loops over children ask of each, and that each branch leaves all of it but its slot.
-- Assumes nothing.
use mathlib.Core.Path.{◌≡◌, refl, sym, ap, ◌∙◌}
use mathlib.Core.Bool.{true}
use mathlib.Core.Option.{none, some}
use mathlib.Core.List.{List, []}
use Prim.Native.Nat.{ℕ, ◌+◌, ◌*◌, ◌-◌, ◌/◌, ◌^◌, ◌≤◌, ◌<◌}
use native.Mathlib.Omega.{arith}
use lib.ListN.{length, drop}
use lib.Seq.{sets, length-sets}
use mir.Syntax.{w64}
use mir.Val.{Fits}
use Rattle.words.specs.Bytes.{Bytes, le, num, part, zeros, pad, padded, fill}
use Rattle.words.specs.Bits.{put_bit}
use Rattle.words.specs.Reads.{Reads}
use Rattle.words.specs.Pairs.{low_in, high_in}
use Rattle.words.proofs.BitLaws.{length-put}
use Rattle.words.proofs.Numbers.{length-padded}
use Rattle.words.proofs.NumLaws.{le-zero}
use Rattle.words.proofs.Parts.{length_part}
use Rattle.schema.specs.Marks.{line}
use Rattle.schema.specs.Types.{Fixed, width, fixed_at, Text, text_at, Ty, fix, text, place, mark}
use Rattle.schema.proofs.Table.{line-width}
use Rattle.schema.proofs.Places.{fixed_of, text_of, typed-place}
use Rattle.layout.specs.Cells.{Cell, null, leaf, on_null, flag, bytes}
use Rattle.layout.specs.Layout.{number, string, inside, outside, kid_of, kid, kid_slot, kid_tail, slot_of, codec, content}
use Rattle.layout.specs.Listing.{nu, item, script}
use Rattle.layout.proofs.Cells.{present, leaf-bytes}
use Rattle.layout.proofs.Widths.{wide-none}
use Rattle.table.specs.Words.{place_in, width_in}
use Rattle.table.specs.Tables.{schema_of, pos_of, InTable, EntryAt, type_of}
use Rattle.measuring.specs.Measure.{size}
use Rattle.measuring.proofs.Records.{item-null, item-body}
use Rattle.measuring.proofs.Bodies.{read_here, nu-is}
use Rattle.putting.specs.Put.{Ready, TextCan, TextWrote, SeatCan, Held, PutValue}
use Rattle.putting.proofs.Given.{same-thing, given-two, given-mark, given-body, given-wide, given-number, given-four, given-long, given-text}
use Rattle.putting.proofs.Slots.{word-slot}
use Rattle.putting.proofs.Paint.{flagged, bit_past}
use Rattle.putting.proofs.Paints.{size_is, ChildWrote}

-- a varying child's bytes and slot
tail-outside : (w : ℕ) (t : Ty) (c : Cell) → (codec t).wide ≡ none → flag c ≡ 0 → kid_tail (kid w (codec t)) c ≡ padded (content t c)
unfolding kid_of outside
tail-outside w t c e f = present (λ _. []) ((kid w (codec t)).tail c) c f ∙ rw e

slot-outside : (w : ℕ) (t : Ty) (off : ℕ) (c : Cell) → (codec t).wide ≡ none → flag c ≡ 0
    → kid_slot (kid w (codec t)) off c ≡ le 8 (off * 2 ^ 32 + length (content t c))
unfolding kid_of outside
slot-outside w t off c e f = present (λ u. u) ((kid w (codec t)).slot off c) c f ∙ rw e

slots-eight : (t : Ty) → (codec t).wide ≡ none → slot_of (codec t).wide ≡ 8
unfolding slot_of
slots-eight t e = rw e

-- a number stands in its slot
fixed-flag : {t : Ty} (f : Fixed) → t ≡ fix f → (w : ℕ) (u : List ℕ) (off : ℕ) (x : List ℕ) (cur slot bm i : ℕ)
    → sets x slot (fill w u) ≡ flagged (sets (sets x cur (kid_tail (kid w (codec t)) (leaf u))) slot (kid_slot (kid w (codec t)) off (leaf u))) bm i (leaf u)
unfolding on_null codec number kid_of inside bytes
fixed-flag f e w u off x cur slot bm i = rw e

fixed-ends : {t : Ty} (f : Fixed) → t ≡ fix f → (w : ℕ) (u : List ℕ) (cur : ℕ) → cur ≡ cur + length (kid_tail (kid w (codec t)) (leaf u))
unfolding on_null codec number kid_of inside bytes
fixed-ends f e w u cur = rw e (omega arith)

text-content : (t : Text) (u : List ℕ) → content (text t) (leaf u) ≡ u
unfolding codec string
text-content t u = leaf-bytes u

-- a child of the type at a place of the table, the i-th of its container, which starts at base: its slot of w bytes, and its other bytes at
-- cur of the output x
pub record Child (t : List ℕ) (c d w : ℕ) (l : List ℕ) (from base bm i slot cur : ℕ) (x : List ℕ) : Type 0 where
  pub stands : InTable t c d
  pub wide : slot_of (codec (type_of t c d)).wide ≤ w
  pub most : w ≤ 8
  pub ready : Ready ((item w (mark (type_of t c d)) (script (type_of t c d))).get (drop from l)) (λ z. length (kid_tail (kid w (codec (type_of t c d))) z)) cur
      (length x)
  pub octets : Bytes l
  pub low : base ≤ cur
  pub map : bm + i / 8 < slot
  pub slots : slot + w ≤ cur
  pub small : length x ≤ 16384
  pub short : length l ≤ 65536

-- where a loop over n children stands: at the i-th, if there is one; and from and cur are small enough for an answer
pub record Next (t : List ℕ) (c d w : ℕ) (l : List ℕ) (from base bm i n slot cur : ℕ) (x : List ℕ) : Type 0 where
  pub answer : (from < 2 ^ 32) × (cur < 2 ^ 32)
  pub child : i < n → Child t c d w l from base bm i slot cur x

-- a child's contents stand from cur on, up to stop without their padding, and its slot can say so
pub record Kept (t : Ty) (l : List ℕ) (from base cur : ℕ) (x y : List ℕ) (next stop : ℕ) : Type 0 where
  pub held : Held t l from cur x y next stop
  pub seat : SeatCan base cur stop

-- their padding ends too
pub seat-end : {base cur stop : ℕ} → SeatCan base cur stop → SeatCan 0 cur stop
seat-end s = record { low = omega arith; long = s.long; small = s.small }

-- all of a child but its slot stands: with the number v there, it is written
pub record Seen (t : Ty) (w : ℕ) (l : List ℕ) (from base bm i slot cur : ℕ) (x x₁ : List ℕ) (v next stop : ℕ) : Type 0 where
  pub wrote : {y : List ℕ} → y ≡ sets x₁ slot (le w v) → ChildWrote t w l from base bm i slot cur x y next stop
  pub long : length x₁ ≡ length x

module _ {t : List ℕ} {c d w : ℕ} {l : List ℕ} {from base bm i n slot cur : ℕ} {x : List ℕ} (g : Next t c d w l from base bm i n slot cur x) where
  abbrev T : Ty
  T = type_of t c d

  -- so it is with this child, where p says where the listing goes on and where the contents end
  abbrev pub KeptHere : List ℕ → ℕ → Type 0
  KeptHere y p = Kept T l (from + 2) base cur x y (low_in p) (high_in p)

  abbrev pub SeenHere : List ℕ → ℕ → ℕ → ℕ → Type 0
  SeenHere = Seen T w l from base bm i slot cur x

  -- where branches meet, their output and their numbers are one's
  seen-met : {y y₁ : List ℕ} {v v₁ next next₁ stop stop₁ : ℕ} → SeenHere y v next stop → y₁ ≡ y → v₁ ≡ v → next₁ ≡ next → stop₁ ≡ stop
      → SeenHere y₁ v₁ next₁ stop₁
  seen-met a ey ev en es = rw (ey, ev, en, es) a

  module _ (h : i < n) where
    p : Child t c d w l from base bm i slot cur x
    p = g.child h

    pub child-stands : InTable t c d
    child-stands = p.stands

    pub child-two : from + 2 ≤ length l
    child-two = omega (arith, given-two w (mark T) (script T) l from p.ready.thing p.ready.rest p.ready.reads)

    room-two : 2 ≤ length l - from
    room-two = omega (arith, child-two)

    child-cur : cur ≤ length x
    child-cur = omega (arith, p.ready.room)

    pub child-slot : Fits w64 (slot + w)
    child-slot = omega (arith, p.slots, child-cur, p.small)

    pub slot-in : {len : ℕ} → len ≡ length x → slot + w ≤ len
    slot-in e = omega (arith, p.slots, child-cur)

    pub bit_in : bm + i / 8 < length x
    bit_in = omega (arith, p.map, p.slots, child-cur)

    -- m is its mark
    module _ {m : ℕ} (r : Reads l from 2 m) where
      -- a null: its bit, and zeros in its slot
      pub seen-null : m ≡ 30062 → {x₁ : List ℕ} → x₁ ≡ put_bit x bm i true
          → {y : List ℕ} {v next stop : ℕ} → y ≡ x₁ → v ≡ 0 → next ≡ from + 2 → stop ≡ cur → SeenHere y v next stop
      unfolding on_null
      seen-null e {x₁} e₁ = seen-met (record {
        wrote = λ {y} e₂. record {
          thing = null (zeros w);
          reads = item-null w (mark T) (script T) l from room-two (sym r.is ∙ e ∙ sym nu-is);
          inside = child-two;
          bytes = e₂ ∙ rw (e₁, le-zero) (sym (bit_past x (zeros w) bm i slot p.map));
          ends = omega arith;
        };
        long = ap length e₁ ∙ length-put x bm i true;
      })

      -- not null: e is the entry of its type, and k the type's place in the table of types
      module _ (ne : m ≡ 30062 → ⊥) {e : ℕ} (en : EntryAt t c d e) {k : ℕ} (ek : k ≡ place_in e) where
        kind : k ≡ place T
        kind = ek ∙ en.place ∙ typed-place (schema_of t) (pos_of t c) d p.stands.typed

        not-nu : num (part l from 2) ≡ num nu → ⊥
        not-nu z = ne (r.is ∙ z ∙ nu-is)

        body : (script T).get (drop (from + 2) l) ≡ some (p.ready.thing, p.ready.rest)
        body = given-body w (mark T) (script T) l from p.ready.thing p.ready.rest p.ready.reads not-nu

        as-item : (item w (mark T) (script T)).get (drop from l) ≡ (script T).get (drop (from + 2) l)
        as-item =
            let q = given-mark w (mark T) (script T) l from p.ready.thing p.ready.rest p.ready.reads not-nu in
            item-body w (mark T) (script T) l from room-two not-nu q

        -- a number of v bytes
        module _ (lo : k < 7) {v : ℕ} (ev : v ≡ width_in e) where
          is-fixed : T ≡ fix (fixed_at k)
          is-fixed = fixed_of T k kind lo

          vf : v ≡ width (fixed_at k)
          vf = ev ∙ en.lined.width ∙ ap (λ (j : ℕ). (line j).width) (sym ek) ∙ line-width k lo

          fixed-body : (script (fix (fixed_at k))).get (drop (from + 2) l) ≡ some (p.ready.thing, p.ready.rest)
          fixed-body = rw is-fixed at body

          wide-in : v ≤ w
          unfolding slot_of codec number
          wide-in =
              let q : slot_of (codec T).wide ≡ width (fixed_at k) = ap (λ (u : Ty). slot_of (codec u).wide) is-fixed in
              omega (arith, vf, p.wide)

          pub number_in : from + 2 + v ≤ length l
          number_in = omega (arith, vf, child-two, given-wide (fixed_at k) l (from + 2) p.ready.thing p.ready.rest fixed-body)

          pub number_small : v ≤ 8
          number_small = omega (arith, wide-in, p.most)

          pub number_fits : Fits w64 (from + 2 + v)
          number_fits = omega (arith, number_in, p.short)

          pub seen-number : {b : ℕ} → Reads l (from + 2) v b
              → {y : List ℕ} {z next stop : ℕ} → y ≡ x → z ≡ b → next ≡ from + 2 + v → stop ≡ cur → SeenHere y z next stop
          seen-number {b} rb =
              let u = part l (from + 2) (width (fixed_at k)) in
              let a : (script T).get (drop (from + 2) l) ≡ some (leaf u, drop (from + 2 + v) l) =
              rw (is-fixed, vf) (given-number (fixed_at k) l (from + 2) p.ready.thing p.ready.rest fixed-body) in
              let q : le w b ≡ fill w u = word-slot p.octets number_in wide-in rb ∙ ap (λ (j : ℕ). fill w (part l (from + 2) j)) vf in
              seen-met (record {
                wrote = λ {y} e₁. record {
                  thing = leaf u;
                  reads = as-item ∙ a;
                  inside = number_in;
                  bytes = e₁ ∙ ap (sets x slot) q ∙ fixed-flag (fixed_at k) is-fixed w u (cur - base) x cur slot bm i;
                  ends = fixed-ends (fixed_at k) is-fixed w u cur;
                };
                long = refl;
              })

        module _ (hi : 7 ≤ k) where
          none-wide : (codec T).wide ≡ none
          none-wide = wide-none T (omega (arith, kind))

          eight : w ≡ 8
          eight = omega (arith, slots-eight T none-wide, p.wide, p.most)

          here : (z : Cell) (q : List ℕ) → (script T).get (drop (from + 2) l) ≡ some (z, q) → flag z ≡ 0
          here z q = read_here T l (from + 2) z q p.octets

          tail-room : cur + pad (size T p.ready.thing) ≤ length x
          tail-room =
              let z = p.ready.thing in
              let q : kid_tail (kid w (codec T)) z ≡ padded (content T z) = tail-outside w T z none-wide (here z p.ready.rest body) in
              omega (arith, p.ready.room, ap length q, length-padded (content T z), size_is T z)

          -- contents from cur on, up to stop without their padding
          module _ {x₁ : List ℕ} {goes stop : ℕ} (a : Held T l (from + 2) cur x x₁ goes stop) where
            held-size : stop - cur ≡ length (content T a.thing)
            held-size = omega (arith, a.ends)

            held-room : cur + pad (stop - cur) ≤ length x
            held-room =
                let z : size T p.ready.thing ≡ stop - cur =
                ap (size T) (same-thing body a.reads) ∙ omega (arith, held-size, size_is T a.thing) in
                rw z at tail-room

            held-seat : SeatCan base cur stop
            held-seat = record { low = p.low; long = omega (arith, a.ends); small = omega (arith, held-room, p.small) }

          pub value-kept : {x₁ : List ℕ} {q : ℕ} → Held T l (from + 2) cur x x₁ (low_in q) (high_in q)
              → {y : List ℕ} {q₁ : ℕ} → y ≡ x₁ → q₁ ≡ q → KeptHere y q₁
          value-kept a ey eq = rw (ey, eq) (record { held = a; seat = held-seat a })

          -- a string or binary
          module _ (lo : k < 9) where
            is-text : T ≡ text (text_at k)
            is-text = text_of T k kind hi lo

            text-body : (script (text (text_at k))).get (drop (from + 2) l) ≡ some (p.ready.thing, p.ready.rest)
            text-body = rw is-text at body

            abbrev count : ℕ
            count = num (part l (from + 2) 4)

            four : 4 ≤ length l - (from + 2)
            four = given-four (text_at k) l (from + 2) p.ready.thing p.ready.rest text-body

            text-long : from + 2 + 4 + count ≤ length l
            text-long = omega (arith, four, given-long (text_at k) l (from + 2) p.ready.thing p.ready.rest text-body count refl)

            text-got : (script (text (text_at k))).get (drop (from + 2) l) ≡ some (leaf (part l (from + 2 + 4) count), drop (from + 2 + 4 + count) l)
            text-got = given-text (text_at k) l (from + 2) p.ready.thing p.ready.rest text-body count refl

            text-size : length (content T (leaf (part l (from + 2 + 4) count))) ≡ count
            text-size =
                let u = part l (from + 2 + 4) count in
                ap length (ap (λ (z : Ty). content z (leaf u)) is-text ∙ text-content (text_at k) u) ∙ length_part l (from + 2 + 4) count text-long

            pub text-can : TextCan l (from + 2) cur (length x)
            text-can =
                let q : p.ready.thing ≡ leaf (part l (from + 2 + 4) count) = same-thing text-body text-got in
                let z : size T p.ready.thing ≡ count = ap (size T) q ∙ sym (size_is T (leaf (part l (from + 2 + 4) count))) ∙ text-size in
                record { count = omega (arith, four); inside = text-long; room = rw z at tail-room; small = p.small; short = p.short }

            pub text-kept : {x₁ : List ℕ} {q : ℕ} → TextWrote l (from + 2) cur x x₁ (low_in q) (high_in q)
                → {y : List ℕ} {q₁ : ℕ} → y ≡ x₁ → q₁ ≡ q → KeptHere y q₁
            text-kept {x₁} {q} a =
                let u = part l (from + 2 + 4) count in
                let z : content T (leaf u) ≡ u = ap (λ (z : Ty). content z (leaf u)) is-text ∙ text-content (text_at k) u in
                let got : (script T).get (drop (from + 2) l) ≡ some (leaf u, drop (from + 2 + 4 + count) l) =
                rw is-text text-got in
                value-kept {q = q} (record {
                  thing = leaf u;
                  reads = got ∙ ap (λ (j : ℕ). some (leaf u, drop j l)) (sym a.goes_on);
                  inside = omega (arith, a.goes_on, text-long);
                  bytes = a.bytes ∙ ap (λ (z : List ℕ). sets x cur (padded z)) (sym z);
                  ends = a.ends ∙ ap (λ (j : ℕ). cur + j) (sym text-size);
                })

          pub seen-kept : {x₁ : List ℕ} {goes stop : ℕ} → Kept T l (from + 2) base cur x x₁ goes stop
              → {s f end : ℕ} → s ≡ (cur - base) * 2 ^ 32 + (stop - cur) → f ≡ goes → end ≡ cur + pad (stop - cur)
              → {y : List ℕ} {v next last : ℕ} → y ≡ x₁ → v ≡ s → next ≡ f → last ≡ end → SeenHere y v next last
          seen-kept {x₁} {goes} {stop} kept {s} {f} {end} es ef ee =
              let a = kept.held in
              let b = a.thing in
              let z₀ = here b (drop goes l) a.reads in
              let tl = tail-outside w T b none-wide z₀ in
              let sl = slot-outside w T (cur - base) b none-wide z₀ in
              let z = sets (sets x cur (kid_tail (kid w (codec T)) b)) slot (kid_slot (kid w (codec T)) (cur - base) b) in
              let e₀ : s ≡ (cur - base) * 2 ^ 32 + length (content T b) = es ∙ ap (λ (j : ℕ). (cur - base) * 2 ^ 32 + j) (held-size a) in
              let as-kid : sets x₁ slot (le w s) ≡ z = rw (a.bytes, tl, sl, e₀, eight) in
              seen-met (record {
                wrote = λ {y} e₁. record {
                  thing = b;
                  reads = rw ef (as-item ∙ a.reads);
                  inside = rw ef a.inside;
                  bytes = e₁ ∙ as-kid ∙ sym (present (λ _. put_bit z bm i true) z b z₀);
                  ends = ee ∙ ap (λ (j : ℕ). cur + j) (ap (λ (j : ℕ). pad j) (held-size a) ∙ sym (ap length tl ∙ length-padded (content T b)));
                };
                long = ap length a.bytes ∙ length-sets x cur (padded (content T b));
              })

        -- a container's contents
        pub value-can : 9 ≤ k → PutValue t c d l (from + 2) cur (length x)
        value-can hi = record {
          stands = p.stands;
          holds = omega (arith, en.place);
          ready = record { thing = p.ready.thing; rest = p.ready.rest; reads = body; room = omega (arith, tail-room (omega arith)) };
          small = p.small;
          short = p.short;
        }
