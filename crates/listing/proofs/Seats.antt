-- A child of a container as a loop meets it, null or not, and a leaf by the place of its type in the table of types. Assumes nothing.
use mathlib.Core.Path.{◌≡◌, sym, ap, ◌∙◌, subst}
use mathlib.Core.Bool.{Bool, true, false, cond}
use mathlib.Core.Option.{Option, none}
use mathlib.Core.List.{List, ◌++◌, append_assoc}
use Prim.Native.Nat.{ℕ, ◌+◌, ◌-◌, ◌/◌, ◌%◌, ◌^◌, ◌≤◌, ◌<◌}
use native.Mathlib.Decide.{dec_lt}
use native.Mathlib.Omega.{arith}
use lib.Dec.{ltb}
use lib.ListN.{length, take, drop}
use borrow.Author.Tests.{lt-ltb, le-ltb}
use Rattle.words.specs.Bytes.{Bytes, le, part}
use Rattle.words.specs.Bits.{bit}
use Rattle.words.specs.Reads.{Reads}
use Rattle.schema.specs.Marks.{mark_at, line}
use Rattle.schema.specs.Types.{Ty, fix, text, fixed_at, text_at, place}
use Rattle.schema.proofs.Table.{line-width, place-fixed, place-text}
use Rattle.schema.proofs.Places.{fixed_of, text_of}
use Rattle.table.specs.Words.{place_in}
use Rattle.table.specs.Tables.{InTable, EntryAt, type_of}
use Rattle.layout.specs.Layout.{slot_of, number, codec}
use Rattle.layout.specs.Listing.{nu}
use Rattle.layout.proofs.Widths.{wide-none}
use Rattle.table.proofs.Places.{entry_place}
use Rattle.listing.specs.Lines.{lines, own_bytes, own_lines, child_lines, Written}
use Rattle.listing.specs.Room.{leaf_at, Within, Own, Holds, Present, Elsewhere, Leaf, NumberRoom, TextRoom, Container}
use Rattle.listing.proofs.Wrote.{same_bytes}
use Rattle.listing.proofs.Held.{fixed-lines, text-lines, mark-at}

-- Child i of b is listed at pos. Nothing is asked of a null.
pub record Seated (t : Ty) (b : List ℕ) (h i slot pos : ℕ) : Type 0 where
  pub bytes : Bytes b
  pub small : length b ≤ 16384
  pub bit-room : h + i / 8 < length b
  pub slot-room : slot + slot_of (codec t).wide ≤ length b
  pub present : bit b h i ≡ false → Own t b slot
  pub room : pos + length (child_lines t b h i slot) ≤ 65536

module _ {t : Ty} {b : List ℕ} {h i slot pos : ℕ} (r : Seated t b h i slot pos) where
  pub seat-room : pos ≤ 65536
  seat-room = omega (arith, r.room)

  module _ {x : Bool} (ex : x ≡ bit b h i) where
    null-lines : x ≡ true → nu ≡ child_lines t b h i slot
    unfolding child_lines
    null-lines e = rw (sym ex ∙ e)

    own-lines : x ≡ false → own_lines t b slot ≡ child_lines t b h i slot
    unfolding child_lines
    own-lines e = rw (sym ex ∙ e)

    module _ {out out' : List ℕ} {p : ℕ} where
      pub seat-null : x ≡ true → Written out pos nu out' p → Written out pos (child_lines t b h i slot) out' p
      seat-null e f = same_bytes (null-lines e) f

      pub seat-own : x ≡ false → Written out pos (own_lines t b slot) out' p → Written out pos (child_lines t b h i slot) out' p
      seat-own e f = same_bytes (own-lines e) f

    pub seat-there : x ≡ false → Present t b slot pos
    seat-there e = record {
      bytes = r.bytes;
      small = r.small;
      slot-room = r.slot-room;
      own = r.present (sym ex ∙ e);
      room = rw (own-lines e) r.room;
    }

-- ---- a value elsewhere

-- x is the slot's word, off and size what it says
pub own_is : {b : List ℕ} {slot x off size : ℕ} → Reads b slot 8 x → off ≡ x / 2 ^ 32 → size ≡ x % 2 ^ 32
    → take (off + size - off) (drop off b) ≡ own_bytes none b slot
unfolding own_bytes
own_is {off = off} {size = size} g eo es = let j : off + size - off ≡ size = omega arith in rw (j, eo, es, g.is)

pub slot-eight : (t : Ty) → 7 ≤ place t → 8 ≡ slot_of (codec t).wide
unfolding slot_of
slot-eight t l = sym (ap slot_of (wide-none t l))

module _ {t : Ty} {b : List ℕ} {slot pos : ℕ} (r : Present t b slot pos) (l : 7 ≤ place t) where
  elsewhere : Elsewhere b slot
  unfolding slot_of
  elsewhere = record {
    small = r.small;
    slot-room = subst (λ (o : Option ℕ). slot + slot_of o ≤ length b) (wide-none t l) r.slot-room;
    within = subst (λ (o : Option ℕ). Within o b slot) (wide-none t l) r.own.within;
  }

  -- u are its bytes
  module _ {u : List ℕ} (e : u ≡ own_bytes none b slot) where
    bytes-are : own_bytes (codec t).wide b slot ≡ u
    bytes-are = ap (λ (o : Option ℕ). own_bytes o b slot) (wide-none t l) ∙ sym e

    elsewhere-holds : Holds t u
    elsewhere-holds = rw bytes-are at r.own.holds

    elsewhere-lines : lines t u ≡ own_lines t b slot
    unfolding own_lines
    elsewhere-lines = rw bytes-are

-- ---- a leaf's type is that at its place of the table of types

pub leaf-at : {t : Ty} {k : ℕ} → k ≡ place t → k < 9 → t ≡ leaf_at k
unfolding leaf_at
leaf-at {t} {k} e l = go (dec_lt k 7)
  where
    go : Dec (k < 7) → t ≡ cond (ltb k 7) (fix (fixed_at k)) (text (text_at k))
    go (yes m) = rw (lt-ltb k 7 m) (fixed_of t k e m)
    go (no m) = rw (le-ltb k 7 (omega arith)) (text_of t k e (omega arith) l)

fixed-leaf : (k : ℕ) → k < 7 → leaf_at k ≡ fix (fixed_at k)
unfolding leaf_at
fixed-leaf k l = rw (lt-ltb k 7 l)

text-leaf : (k : ℕ) → 7 ≤ k → leaf_at k ≡ text (text_at k)
unfolding leaf_at
text-leaf k l = rw (le-ltb k 7 l)

pub place-leaf : (k : ℕ) → k < 9 → k ≡ place (leaf_at k)
unfolding leaf_at place
place-leaf k l = go (dec_lt k 7)
  where
    go : Dec (k < 7) → k ≡ place (cond (ltb k 7) (fix (fixed_at k)) (text (text_at k)))
    go (yes m) = rw (lt-ltb k 7 m) (sym (place-fixed k m))
    go (no m) = rw (le-ltb k 7 (omega arith)) (sym (place-text k (omega arith) l))

fixed-own : (k : ℕ) (b : List ℕ) (slot : ℕ) → k < 7 → Own (fix (fixed_at k)) b slot
    → mark_at k ++ part b slot (line k).width ≡ own_lines (fix (fixed_at k)) b slot
unfolding codec number own_bytes own_lines place
fixed-own k b slot l o =
    rw (line-width k l, mark-at (fix (fixed_at k)) k (sym (place-fixed k l))) (sym (fixed-lines (fixed_at k) _ o.holds))

fixed-room : (k : ℕ) (b : List ℕ) (slot : ℕ) → k < 7 → slot + slot_of (codec (fix (fixed_at k))).wide ≤ length b
    → slot + (line k).width ≤ length b
unfolding codec number slot_of
fixed-room k b slot l m = rw (line-width k l) m

text-own : (k : ℕ) (u : List ℕ) → 7 ≤ k → k < 9 → Holds (text (text_at k)) u → (mark_at k ++ le 4 (length u)) ++ u ≡ lines (text (text_at k)) u
unfolding place
text-own k u l m h = rw (append_assoc, mark-at (text (text_at k)) k (sym (place-text k l m))) (sym (text-lines (text_at k) u h))

module _ {w : ℕ} {b : List ℕ} {slot pos : ℕ} (r : Leaf w b slot pos) {x : ℕ} (ex : x ≡ place_in w) where
  abbrev k : ℕ
  k = place_in w

  module _ (l : x < 7) where
    is-fixed : k < 7
    is-fixed = omega arith

    pub leaf-number-room : NumberRoom b slot w pos
    leaf-number-room = record {
      lined = r.lined;
      bytes = r.child.bytes;
      fixed = is-fixed;
      within = fixed-room k b slot is-fixed (rw (fixed-leaf k is-fixed) at r.child.slot-room);
      room = omega (arith, r.child.room);
    }

    pub leaf-number : mark_at k ++ part b slot (line k).width ≡ own_lines (leaf_at k) b slot
    leaf-number = subst (λ (y : Ty). Own y b slot → mark_at k ++ part b slot (line k).width ≡ own_lines y b slot) (sym (fixed-leaf k is-fixed))
        (fixed-own k b slot is-fixed) r.child.own

  module _ (l : 7 ≤ x) where
    varies : 7 ≤ place (leaf_at k)
    varies = omega (arith, place-leaf k r.low)

    pub leaf-elsewhere : Elsewhere b slot
    leaf-elsewhere = elsewhere r.child varies

    module _ {u : List ℕ} (e : u ≡ own_bytes none b slot) where
      pub leaf-text-room : TextRoom u w pos
      leaf-text-room = record { lined = r.lined; small = (elsewhere-holds r.child varies e).small; room = omega (arith, r.child.room) }

      pub leaf-text : (mark_at k ++ le 4 (length u)) ++ u ≡ own_lines (leaf_at k) b slot
      leaf-text =
          let q : leaf_at k ≡ text (text_at k) = text-leaf k (omega arith) in
          let h : Holds (text (text_at k)) u = rw q at (elsewhere-holds r.child varies e) in
          text-own k u (omega arith) r.low h ∙ ap (λ (y : Ty). lines y u) (sym q) ∙ elsewhere-lines r.child varies e

-- ---- by the entry of a table

module _ {t : List ℕ} {at d w : ℕ} (st : InTable t at d) (e : EntryAt t at d w) where
  module _ {b : List ℕ} {slot pos : ℕ} (r : Present (type_of t at d) b slot pos) {x : ℕ} (ex : x ≡ place_in w) where
    module _ (l : x < 9) where
      leaf-is : type_of t at d ≡ leaf_at (place_in w)
      leaf-is = leaf-at (entry_place st e) (omega arith)

      pub entry-leaf : Leaf w b slot pos
      entry-leaf = record { lined = e.lined; low = omega arith; child = subst (λ (y : Ty). Present y b slot pos) leaf-is r }

      pub entry-leaf-lines : own_lines (leaf_at (place_in w)) b slot ≡ own_lines (type_of t at d) b slot
      entry-leaf-lines = ap (λ (y : Ty). own_lines y b slot) (sym leaf-is)

    module _ (l : 9 ≤ x) where
      high : 7 ≤ place (type_of t at d)
      high = omega (arith, entry_place st e)

      pub entry-elsewhere : Elsewhere b slot
      entry-elsewhere = elsewhere r high

      module _ {u : List ℕ} (eu : u ≡ own_bytes none b slot) where
        pub entry-lines : lines (type_of t at d) u ≡ own_lines (type_of t at d) b slot
        entry-lines = elsewhere-lines r high eu

        pub entry-container : Container t at d u pos
        entry-container = record {
          stands = st;
          high = omega (arith, e.place);
          holds = elsewhere-holds r high eu;
          room = rw entry-lines r.room;
        }
