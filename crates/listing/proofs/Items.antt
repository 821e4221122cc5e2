-- A list's elements by the kind of their type: leaves, and containers. Assumes nothing.
use mathlib.Core.Path.{◌≡◌, refl, sym, ap, ◌∙◌, subst}
use mathlib.Core.Bool.{Bool, false}
use mathlib.Core.Option.{none}
use mathlib.Core.List.{List}
use Prim.Native.Nat.{ℕ, ◌+◌, ◌^◌, ◌≤◌, ◌<◌}
use native.Mathlib.Omega.{arith}
use Rattle.words.specs.Bits.{bit}
use Rattle.words.specs.Bytes.{bitmap}
use Rattle.words.specs.Reads.{Reads}
use Rattle.schema.specs.Marks.{element_width}
use Rattle.schema.specs.Types.{Ty}
use Rattle.table.specs.Words.{place_in}
use Rattle.table.specs.Tables.{EntryAt, type_of}
use Rattle.layout.proofs.Widths.{element-wide}
use Rattle.table.proofs.Places.{entry_place}
use Rattle.listing.specs.Lines.{lines, item_lines, own_bytes, own_lines, Written}
use Rattle.listing.specs.Room.{leaf_at, Items, Present, Elsewhere, Leaf, Leaves, Elements, Container}
use Rattle.listing.proofs.Wrote.{same_bytes}
use Rattle.listing.proofs.Seats.{seat-there, slot-eight, leaf-at, place-leaf, entry-elsewhere, entry-lines, entry-container}
use Rattle.listing.proofs.Children.{Counted, AtItem, list-few, items-start, item-seat, items-own}

-- ---- leaves

module _ {w : ℕ} {b : List ℕ} {pos n x : ℕ} (r : Leaves w b pos) (g : Reads b 0 8 n) (ex : x ≡ element_width (place_in w)) where
  leaves-counted : Counted (leaf_at (place_in w)) b pos n x
  leaves-counted = record { asked = r.items; count = g.is; wide = ex ∙ element-wide _ (place_in w) (place-leaf (place_in w) r.low) }

  pub leaves-few : n < 2 ^ 32
  leaves-few = list-few leaves-counted

  module _ {m : ℕ} (em : m ≡ bitmap n) where
    pub leaves-start : (out : List ℕ) → AtItem (leaf_at (place_in w)) b n x pos 0 (8 + m) out out pos
    leaves-start = items-start leaves-counted em

-- an element that is not null
pub leaves-leaf : {w : ℕ} {b : List ℕ} {n v pos i slot : ℕ} {out₀ out : List ℕ} {p : ℕ} → Leaves w b pos
    → AtItem (leaf_at (place_in w)) b n v pos i slot out₀ out p → i < n → {x : Bool} → x ≡ bit b 8 i → x ≡ false → Leaf w b slot p
leaves-leaf r a l ex e = record { lined = r.lined; low = r.low; child = seat-there (item-seat a l) ex e }

-- ---- by the entry of the elements' type

-- containers: w is their type's entry
pub record Containers (t : List ℕ) (at d : ℕ) (b : List ℕ) (pos w : ℕ) : Type 0 where
  pub asked : Elements t at d b pos
  pub entry : EntryAt t at d w
  pub high : 9 ≤ place_in w

module _ {t : List ℕ} {at d : ℕ} {b : List ℕ} {pos w : ℕ} (r : Elements t at d b pos) (e : EntryAt t at d w) {x : ℕ} (ex : x ≡ place_in w) where
  module _ (l : x < 9) where
    leaf-is : type_of t at d ≡ leaf_at (place_in w)
    leaf-is = leaf-at (entry_place r.stands e) (omega arith)

    pub elements-leaves : Leaves w b pos
    elements-leaves = record { lined = e.lined; low = omega arith; items = subst (λ (y : Ty). Items y b pos) leaf-is r.items }

    pub elements-written : {out out' : List ℕ} {p : ℕ} → Written out pos (item_lines (leaf_at (place_in w)) b) out' p
        → Written out pos (item_lines (type_of t at d) b) out' p
    elements-written = same_bytes (ap (λ (y : Ty). item_lines y b) (sym leaf-is))

  module _ (l : 9 ≤ x) where
    pub containers : Containers t at d b pos w
    containers = record { asked = r; entry = e; high = omega arith }

    module _ {n : ℕ} (g : Reads b 0 8 n) where
      counted : Counted (type_of t at d) b pos n 8
      counted = record { asked = r.items; count = g.is; wide = slot-eight (type_of t at d) (omega (arith, entry_place r.stands e)) }

      pub containers-few : n < 2 ^ 32
      containers-few = list-few counted

      module _ {m : ℕ} (em : m ≡ bitmap n) where
        pub containers-start : (out : List ℕ) → AtItem (type_of t at d) b n 8 pos 0 (8 + m) out out pos
        containers-start = items-start counted em

-- a turn of the loop over them: x is the element's bit
module _ {t : List ℕ} {at d : ℕ} {b : List ℕ} {pos w : ℕ} (r : Containers t at d b pos w) {n i slot : ℕ} {out₀ out : List ℕ} {p : ℕ}
    (a : AtItem (type_of t at d) b n 8 pos i slot out₀ out p) (l : i < n) {x : Bool} (ex : x ≡ bit b 8 i) where
  abbrev T : Ty
  T = type_of t at d

  module _ (f : x ≡ false) where
    there : Present T b slot p
    there = seat-there (item-seat a l) ex f

    pub element-elsewhere : Elsewhere b slot
    element-elsewhere = entry-elsewhere r.asked.stands r.entry there refl r.high

    module _ {u : List ℕ} (eu : u ≡ own_bytes none b slot) where
      pub element-container : Container t at d u p
      element-container = entry-container r.asked.stands r.entry there refl r.high eu

      same : lines T u ≡ own_lines T b slot
      same = entry-lines r.asked.stands r.entry there refl r.high eu

      pub element-value : {o out' : List ℕ} {q p' : ℕ} → out' ≡ o → p' ≡ q → Written out p (lines T u) o q
          → AtItem T b n 8 pos (i + 1) (slot + 8) out₀ out' p'
      element-value eo ep g = items-own a l ex eo ep f (same_bytes same g)
