-- The elements of a list, as a loop over them meets them. Assumes nothing.
use mathlib.Core.Path.{◌≡◌, refl, ap, ◌∙◌, subst}
use mathlib.Core.Bool.{Bool, true, false}
use mathlib.Core.Option.{none}
use mathlib.Core.List.{List, [], ◌++◌}
use Prim.Native.Nat.{ℕ, suc, ◌+◌, ◌*◌, ◌^◌, ◌≤◌, ◌<◌}
use native.Mathlib.Nat.{mul-le-mul_right}
use native.Mathlib.Omega.{arith}
use lib.ListN.{length, get_or, replicate, length-replicate, get_or-replicate}
use mir.Syntax.{w64}
use mir.Val.{Fits}
use Rattle.words.specs.Bytes.{num, pad, bitmap, part}
use Rattle.words.specs.Bits.{bit}
use Rattle.schema.specs.Types.{Ty, li, mark}
use Rattle.layout.specs.Cells.{Cell, leaf, on_null, parts, part_of}
use Rattle.layout.specs.Layout.{slot_of, codec, Lays}
use Rattle.layout.specs.Listing.{nu, Script, item, element, script}
use Rattle.layout.specs.Walk.{root_seat, step_in, child, child_ty}
use Rattle.layout.proofs.Stepped.{Comes}
use Rattle.layout.proofs.Walked.{list-says, comes}
use Rattle.listing.specs.Lines.{cell_of, item_lines, own_lines, child_lines, Written}
use Rattle.listing.specs.Room.{Own, Items}
use Rattle.listing.proofs.Found.{There, there-child, lines-child}
use Rattle.listing.proofs.Turns.{Going, going_start, going_end, going-room, going_next}
use Rattle.listing.proofs.Wrote.{met}
use Rattle.listing.proofs.Seats.{Seated, seat-room, seat-null, seat-own}

-- what an item lists does not depend on the slot's width
item-put : (w : ℕ) (t : Ty) (x : Cell) → (item w (mark t) (script t)).put x ≡ on_null (λ _. nu) (mark t ++ (script t).put x) x
unfolding item
item-put w t x = refl

-- no script: what stands past the end of a list of scripts
abbrev pub no_script : Script
no_script = record { put = λ c. []; get = λ b. none }

abbrev pub item_scripts : Ty → List ℕ → List Script
item_scripts t b = replicate (length (parts (cell_of (li t) b))) (element t (script t))

-- a list has its count
pub items-head : {t : Ty} {b : List ℕ} {pos : ℕ} → Items t b pos → 0 + 8 ≤ length b
items-head {t} {b} r = omega (arith, (list-says t _ b r.holds.lays (omega (arith, r.holds.small))).room)

-- n and w are the count and the elements' width
pub record Counted (t : Ty) (b : List ℕ) (pos n w : ℕ) : Type 0 where
  pub asked : Items t b pos
  pub count : n ≡ num (part b 0 8)
  pub wide : w ≡ slot_of (codec t).wide

-- before element i, whose bytes or slot start at slot
pub record AtItem (t : Ty) (b : List ℕ) (n w pos i slot : ℕ) (out₀ out : List ℕ) (p : ℕ) : Type 0 where
  pub counted : Counted t b pos n w
  pub slot_is : slot ≡ 8 + bitmap n + i * w
  pub going : Going (item_scripts t b) (parts (cell_of (li t) b)) out₀ pos i out p

module _ {t : Ty} {b : List ℕ} {pos n w : ℕ} (r : Counted t b pos n w) where
  abbrev c : Cell
  c = cell_of (li t) b

  lays : Lays (li t) c b
  lays = r.asked.holds.lays

  small : length b < 2 ^ 32
  small = omega (arith, r.asked.holds.small)

  count-is : n ≡ length (parts c)
  count-is = r.count ∙ (list-says t c b lays small).count

  room : 8 + bitmap n + pad (n * w) ≤ length b
  room = rw (count-is, r.wide) (list-says t c b lays small).room

  -- a count is small
  pub list-few : n < 2 ^ 32
  list-few = omega (arith, room, r.asked.holds.small)

  pub items-start : {m : ℕ} → m ≡ bitmap n → (out : List ℕ) → AtItem t b n w pos 0 (8 + m) out out pos
  items-start e out = record { counted = r; slot_is = omega arith; going = going_start _ _ out pos }

module _ {t : Ty} {b : List ℕ} {n w pos i slot : ℕ} {out₀ out : List ℕ} {p : ℕ} (a : AtItem t b n w pos i slot out₀ out p) where
  abbrev r₀ : Counted t b pos n w
  r₀ = a.counted

  pub items-end : n ≤ i → Written out₀ pos (item_lines t b) out p
  unfolding item_lines
  items-end l = going_end a.going (rw length-replicate (omega (arith, count-is r₀)))

  module _ (l : i < n) where
    fit : i * w + w ≤ n * w
    fit = omega (arith, mul-le-mul_right {m = suc i} {n = n} w l)

    item-fits : slot + w ≤ length b
    item-fits = omega (arith, a.slot_is, fit, room r₀)

    pub item-more : Fits w64 (slot + w)
    item-more = omega (arith, item-fits, r₀.asked.holds.small)

    slot_at : 8 + (bitmap n + i * w) ≡ slot
    slot_at = omega (arith, a.slot_is)

    abbrev cell : Cell
    cell = cell_of (li t) b

    come : Comes (li t) t cell i 0 b (child 8 w n t i 0 b)
    unfolding child_ty step_in
    come = rw (r₀.count, r₀.wide) (comes (li t) cell i root_seat 0 b r₀.asked.holds.lays (small r₀))

    there : bit b 8 i ≡ false → Own t b slot
    there e =
        (subst (λ (j : ℕ). There t (part_of i cell) b j) slot_at
        (there-child (li t) t cell 8 w n i b l r₀.asked.holds.bytes r₀.asked.holds.small come e)).own

    item-is : (get_or (item_scripts t b) i no_script).put (get_or (parts cell) i (leaf [])) ≡ child_lines t b 8 i slot
    item-is =
        rw (get_or-replicate (length (parts cell)) i (element t (script t)) no_script (omega (arith, count-is r₀)))
        (item-put _ t (part_of i cell)
        ∙ lines-child (li t) t cell 8 w n i b l r₀.asked.holds.bytes r₀.asked.holds.small come
        ∙ ap (child_lines t b 8 i) slot_at)

    in-scripts : i < length (item_scripts t b)
    in-scripts = rw length-replicate (omega (arith, count-is r₀))

    in_parts : i < length (parts cell)
    in_parts = omega (arith, count-is r₀)

    item_room : p + length (child_lines t b 8 i slot) ≤ 65536
    unfolding item_lines
    item_room = going-room a.going no_script (leaf []) in-scripts in_parts _ item-is r₀.asked.room

    pub item-seat : Seated t b 8 i slot p
    item-seat = record {
      bytes = r₀.asked.holds.bytes;
      small = r₀.asked.holds.small;
      bit-room = omega (arith, room r₀);
      slot-room = omega (arith, item-fits, r₀.wide);
      present = there;
      room = item_room;
    }

    pub item-null-room : p ≤ 65536
    item-null-room = seat-room item-seat

    items-next : {out' : List ℕ} {p' : ℕ} → Written out p (child_lines t b 8 i slot) out' p'
        → AtItem t b n w pos (i + 1) (slot + w) out₀ out' p'
    items-next f = record {
      counted = r₀;
      slot_is = omega (arith, a.slot_is);
      going = going_next a.going no_script (leaf []) in-scripts in_parts _ item-is f;
    }

    -- x is its bit, and what was written for it is out' and p' where the branches meet
    module _ {x : Bool} (ex : x ≡ bit b 8 i) {o out' : List ℕ} {q p' : ℕ} (eo : out' ≡ o) (ep : p' ≡ q) where
      pub items-null : x ≡ true → Written out p nu o q → AtItem t b n w pos (i + 1) (slot + w) out₀ out' p'
      items-null e f = items-next (met (seat-null item-seat ex e f) eo ep)

      pub items-own : x ≡ false → Written out p (own_lines t b slot) o q → AtItem t b n w pos (i + 1) (slot + w) out₀ out' p'
      items-own e f = items-next (met (seat-own item-seat ex e f) eo ep)
