-- The cycle of `checking` meets its contracts: remaining depth falls along the calls, and each loop leads to the end that it started with.
-- What each place of the code asks is one law, in the order of the code, with the need's name behind it. Assumes nothing.
use mathlib.Core.Path.{◌≡◌}
use Prim.Native.Nat.{ℕ, ◌+◌, ◌-◌}
use Rattle.words.specs.Bytes.{part}
use Rattle.checking.specs.Sound.{fault_of}
use Rattle.schema.specs.Types.{field}
use Rattle.checking.proofs.Tests.{seen, part_small, MapRoom}
use Rattle.checking.proofs.Elements.{list-map}
use Rattle.checking.proofs.Cursor.{Told, Here}
use Rattle.checking.proofs.Values.{Child, plain-whole, struct-whole, list-whole, map_whole, holds-kind}
use Rattle.checking.proofs.StructLoops.{fields_map, field-stands, reached-vary, reached-fault}
use Rattle.table.specs.Tables.{type_of, types_of}
use mathlib.Core.Path.{sym}
use borrow.Author.Rules.{rules}
use Rattle.words.proofs.Powers.{eights, no-eights}
use Rattle.words.proofs.Numbers.{slice-bytes}
use Rattle.checking.proofs.Tests.{at-fault, failed, map-asks, past-asks, past_fits, falls-list, falls-map, falls-struct}
use Rattle.checking.proofs.Containers.{list-odd, list-short, map-odd, map-short}
use Rattle.checking.proofs.Loops.{loop-start, loop-since, loop-sum, loop-told, loop-unfit, loop-done, loop-over, loop-bit, loop-fault, loop-slot}
use Rattle.checking.proofs.Loops.{loop-slot-on, loop-on, loop-falls, loop-null}
use Rattle.checking.proofs.Cursor.{told-moves, told-less, stop-fits, stop-small, past_end, here-pad, here-asks, here-bad, here-whole, here-unpadded}
use Rattle.checking.proofs.Cursor.{here-next, here-padded, here-misspelled, here-search, here_found}
use Rattle.checking.proofs.Elements.{list-many, list-asks, list-slots, list-mul, list-stop, list-pad, list-out, list-bits, bools-room, list-bools}
use Rattle.checking.proofs.Elements.{numbers-end, list-numbers, texts-room, strings-room, list-strings, list-binaries, items-room, list-items}
use Rattle.checking.proofs.Values.{place-low, next_place, child-plain, child-struct, child-list, child-keys, child-map, item-deep, item-eights}
use Rattle.checking.proofs.Values.{items-slots, item-asks, item-mul, item-map, item-start}
use Rattle.checking.proofs.Arrays.{map-bad, map-over, map-end, map-fits, map-told, keys-hold, values-hold, values-head, keys-few, keys-bad, keys-head}
use Rattle.checking.proofs.Arrays.{values-headless, counts-differ, values-few, map-low, values-bad, map-done}
use Rattle.checking.proofs.StructLoops.{struct-asks, struct-mul, struct-end, fields-odd, fields-short, fields-from, fields_bits, fields-whole}
use Rattle.checking.proofs.StructLoops.{fields-asks, fields-mul, fields-first, fields-start, field-moves, field-stands, field-deep, field-low}
use Rattle.checking.proofs.StructLoops.{field-first, reached-text, reached-misspelled, reached-eights, reached-next, leaf_room, leaf-wrong, leaf-good}
use Rattle.checking.proofs.+checks.Goals as goal
use Rattle.checking.proofs.+checks.Goals.{check_fields-then-m-ne0+then-is_plain, check_fields-else-m-ne0+then-k-eq-STRUCT, check_fields-else-m-ne0+else-k-eq-STRUCT+then-k-eq-LIST, check_fields-else-m-ne0+else-k-eq-STRUCT+else-k-eq-LIST, check_items-then-m-ne0+then-is_plain, check_items-else-m-ne0+then-k-eq-STRUCT, check_items-else-m-ne0+else-k-eq-STRUCT+then-k-eq-LIST, check_items-else-m-ne0+else-k-eq-STRUCT+else-k-eq-LIST}
use Rattle.checking.proofs.+checks.Goals.{check_fields-After-offset_at-from, check_fields-After-pad_size-next, check_fields-Else-k-lt-LIST, check_fields-Joined-m-ne0, check_items-After-offset_at-from, check_items-After-pad_size-next, check_items-Joined-m-ne0, check_list-Else-b-start, check_struct-Else-b-slots}

-- what its slot says
pub fields_told : (t : ℕ) → (c : check_fields-After-offset_at-from t)
    → Told c.loop-i.invariant.state c.offset_at-from.result
fields_told t c = search (seen, reached-vary)

-- and that the cursor is there, with the value in the container
pub fields-here : (t : ℕ) → (c : check_fields-After-pad_size-next t)
    → Here c.loop-i.invariant.state
    c.offset_at-from.result c.size_at.result c.pad_size-next.result
fields-here t c = search (seen, reached-vary)

-- its bytes, which should stand for a container
pub fields-child : (t : ℕ) → (c : check_fields-Else-k-lt-LIST t)
    → let l = c.loop-i in
    let s = c.args in
    Child s.t.now l.c s.depth c.entry_at-w.result c.place-k.result t
    (part s.b.now l.cur (l.cur + c.size_at.result - l.cur))
fields-child t c = search (field-stands, part_small)

-- and the number of their fault
pub fields-judged : (t : ℕ) → (c : check_fields-Joined-m-ne0 t)
    → let l = c.loop-i in
    let s = c.args in
    c.if-m-ne0.r ≡ fault_of (field (types_of s.t.now s.first s.depth s.n) l.i) (part s.b.now l.cur
    (l.cur + c.size_at.result - l.cur))
fields-judged t c =
    let l = c.loop-i in
    let s = c.args in
    let v : Child s.t.now l.c s.depth c.entry_at-w.result c.place-k.result t (part s.b.now l.cur (l.cur + c.size_at.result - l.cur)) =
    search (field-stands, part_small) in
    reached-fault c.loop-i.invariant c.loop-i-test.true v.entry v.kind _ (elim c.if-m-ne0.branch [
      | check_fields-then-m-ne0+then-is_plain w ↦ search (plain-whole v c.leaf_fields-m.ensures)
      | check_fields-else-m-ne0+then-k-eq-STRUCT w ↦ search (struct-whole v)
      | check_fields-else-m-ne0+else-k-eq-STRUCT+then-k-eq-LIST w ↦ search (list-whole v)
      | check_fields-else-m-ne0+else-k-eq-STRUCT+else-k-eq-LIST w ↦ search (map_whole v)
    ])

-- what the item's slot says
pub items-told : (t : ℕ) → (c : check_items-After-offset_at-from t) → Told c.loop-i.invariant c.offset_at-from.result
items-told t c = search seen

-- and that the cursor is there, with the value in the container
pub items-here : (t : ℕ) → (c : check_items-After-pad_size-next t)
    → Here c.loop-i.invariant c.offset_at-from.result
    c.size_at.result c.pad_size-next.result
items-here t c = search seen

-- its bytes, which should stand for a container
pub items-child : (t : ℕ) → (c : check_items-After-pad_size-next t)
    → let l = c.loop-i in
    let s = c.args in
    Child s.t.now s.c s.depth s.w c.place-k.result t
    (part s.b.now l.cur (l.cur + c.size_at.result - l.cur))
items-child t c = search (part_small, holds-kind)

-- and the number of their fault
pub items-judged : (t : ℕ) → (c : check_items-Joined-m-ne0 t)
    → let l = c.loop-i in
    let s = c.args in
    c.if-m-ne0.r ≡ fault_of (type_of s.t.now s.c s.depth) (part s.b.now l.cur
    (l.cur + c.size_at.result - l.cur))
items-judged t c =
    let l = c.loop-i in
    let s = c.args in
    let v : Child s.t.now s.c s.depth s.w c.place-k.result t (part s.b.now l.cur (l.cur + c.size_at.result - l.cur)) =
    search (part_small, holds-kind) in
    let f = c.leaf_fields-m.ensures in
    elim c.if-m-ne0.branch [
      | check_items-then-m-ne0+then-is_plain w ↦ search (plain-whole v f)
      | check_items-else-m-ne0+then-k-eq-STRUCT w ↦ search (struct-whole v)
      | check_items-else-m-ne0+else-k-eq-STRUCT+then-k-eq-LIST w ↦ search (list-whole v)
      | check_items-else-m-ne0+else-k-eq-STRUCT+else-k-eq-LIST w ↦ search (map_whole v)
    ]

-- a list's bitmap is there
pub list-mapped : (t : ℕ) → (c : check_list-Else-b-start t)
    → MapRoom c.args.b.now
    c.get-n.result (8 + c.bitmap_size-slots.result)
list-mapped t c = search list-map

-- and a struct's
pub struct-mapped : (t : ℕ) → (c : check_struct-Else-b-slots t)
    → let a = c.args in MapRoom a.b.now a.n c.bitmap_size-slots.result
struct-mapped t c = search fields_map

pub check_fields-bitmap_size-slots-requires : goal.check_fields-bitmap_size-slots-requires
check_fields-bitmap_size-slots-requires t c = search fields-asks

pub check_fields-overflow_mul-cur : goal.check_fields-overflow_mul-cur
check_fields-overflow_mul-cur t c = search fields-mul

pub check_fields-overflow_add-cur : goal.check_fields-overflow_add-cur
check_fields-overflow_add-cur t c = search fields-first

pub check_fields-loop-i-init : goal.check_fields-loop-i-init
check_fields-loop-i-init t c = search (fields-start, slice-bytes)

pub check_fields-entry_at-w-requires : goal.check_fields-entry_at-w-requires
check_fields-entry_at-w-requires t c = search field-stands

pub check_fields-check_field-requires : goal.check_fields-check_field-requires
check_fields-check_field-requires t c = search leaf_room

pub check_fields-field_fault-requires : goal.check_fields-field_fault-requires
check_fields-field_fault-requires t c = record { field_room = search leaf_room; slot_value = failed c.check_field.ensures c.if-not-check_field.true-raw }

pub check_fields-returns-then-not-check_field : goal.check_fields-returns-then-not-check_field
check_fields-returns-then-not-check_field t c = search (leaf-wrong c.loop-i.invariant)

pub check_fields-overflow_add-slot : goal.check_fields-overflow_add-slot
check_fields-overflow_add-slot t c = search loop-slot-on

pub check_fields-overflow_add-i : goal.check_fields-overflow_add-i
check_fields-overflow_add-i t c = search loop-on

pub check_fields-loop-i-smaller-then-k-lt-STRING : goal.check_fields-loop-i-smaller-then-k-lt-STRING
check_fields-loop-i-smaller-then-k-lt-STRING t c = search loop-falls

pub check_fields-loop-i-preserved-then-k-lt-STRING : goal.check_fields-loop-i-preserved-then-k-lt-STRING
check_fields-loop-i-preserved-then-k-lt-STRING t c = search (leaf-good c.loop-i.invariant)

pub check_fields-is_null-requires : goal.check_fields-is_null-requires
check_fields-is_null-requires t c = search (loop-bit c.loop-i.invariant.state)

pub check_fields-overflow_add-slot-then-is_null : goal.check_fields-overflow_add-slot-then-is_null
check_fields-overflow_add-slot-then-is_null t c = search loop-slot-on

pub check_fields-overflow_add-i-then-is_null : goal.check_fields-overflow_add-i-then-is_null
check_fields-overflow_add-i-then-is_null t c = search loop-on

pub check_fields-loop-i-smaller-then-is_null : goal.check_fields-loop-i-smaller-then-is_null
check_fields-loop-i-smaller-then-is_null t c = search loop-falls

pub check_fields-loop-i-preserved-then-is_null : goal.check_fields-loop-i-preserved-then-is_null
check_fields-loop-i-preserved-then-is_null t c = let l = c.loop-i.invariant in search (reached-next l, loop-null l.state)

pub check_fields-offset_at-from-requires : goal.check_fields-offset_at-from-requires
check_fields-offset_at-from-requires t c = search loop-slot

pub check_fields-overflow_sub-done : goal.check_fields-overflow_sub-done
check_fields-overflow_sub-done t c = search loop-since

pub check_fields-overflow_add-done : goal.check_fields-overflow_add-done
check_fields-overflow_add-done t c = search loop-sum

pub check_fields-loop-i-smaller-then-from-cur : goal.check_fields-loop-i-smaller-then-from-cur
check_fields-loop-i-smaller-then-from-cur t c = search (told-less (fields_told t (goal.at.check_fields-loop-i-smaller-then-from-cur t c).After-offset_at-from))

pub check_fields-loop-i-preserved-then-from-cur : goal.check_fields-loop-i-preserved-then-from-cur
check_fields-loop-i-preserved-then-from-cur t c = search (field-moves, told-moves (fields_told t (goal.at.check_fields-loop-i-preserved-then-from-cur t c).After-offset_at-from))

pub check_fields-size_at-requires : goal.check_fields-size_at-requires
check_fields-size_at-requires t c = search loop-slot

pub check_fields-overflow_add-end : goal.check_fields-overflow_add-end
check_fields-overflow_add-end t c = search stop-fits

pub check_fields-overflow_add-result : goal.check_fields-overflow_add-result
check_fields-overflow_add-result t c = search loop-fault

pub check_fields-returns-then-b-end : goal.check_fields-returns-then-b-end
check_fields-returns-then-b-end t c = search (past_end (fields_told t (goal.at.check_fields-returns-then-b-end t c).After-offset_at-from))

pub check_fields-pad_size-next-requires : goal.check_fields-pad_size-next-requires
check_fields-pad_size-next-requires t c = search stop-small

pub check_fields-is_spelled_in-requires : goal.check_fields-is_spelled_in-requires
check_fields-is_spelled_in-requires t c = search (here-padded (fields-here t (goal.at.check_fields-is_spelled_in-requires t c).After-pad_size-next))

pub check_fields-overflow_add-result-then-not-is_spelled_in : goal.check_fields-overflow_add-result-then-not-is_spelled_in
check_fields-overflow_add-result-then-not-is_spelled_in t c = search loop-fault

pub check_fields-returns-then-not-is_spelled_in : goal.check_fields-returns-then-not-is_spelled_in
check_fields-returns-then-not-is_spelled_in t c = search (here-misspelled (fields-here t (goal.at.check_fields-returns-then-not-is_spelled_in t c).After-pad_size-next), reached-misspelled)

pub check_fields-pad_clear-requires : goal.check_fields-pad_clear-requires
check_fields-pad_clear-requires t c = here-pad (fields-here t (goal.at.check_fields-pad_clear-requires t c).After-pad_size-next)

pub check_fields-first_set-requires : goal.check_fields-first_set-requires
check_fields-first_set-requires t c = here-search (fields-here t (goal.at.check_fields-first_set-requires t c).After-pad_size-next)

pub check_fields-overflow_add-result-then-not-pad_clear : goal.check_fields-overflow_add-result-then-not-pad_clear
check_fields-overflow_add-result-then-not-pad_clear t c = search (here_found (fields-here t (goal.at.check_fields-overflow_add-result-then-not-pad_clear t c).After-pad_size-next))

pub check_fields-returns-then-not-pad_clear : goal.check_fields-returns-then-not-pad_clear
check_fields-returns-then-not-pad_clear t c =
    search (
      here-unpadded (fields-here t (goal.at.check_fields-returns-then-not-pad_clear t c).After-pad_size-next),
      reached-text,
    )

pub check_fields-overflow_add-slot-then-k-lt-LIST : goal.check_fields-overflow_add-slot-then-k-lt-LIST
check_fields-overflow_add-slot-then-k-lt-LIST t c = search loop-slot-on

pub check_fields-overflow_add-i-then-k-lt-LIST : goal.check_fields-overflow_add-i-then-k-lt-LIST
check_fields-overflow_add-i-then-k-lt-LIST t c = search loop-on

pub check_fields-loop-i-smaller-then-k-lt-LIST : goal.check_fields-loop-i-smaller-then-k-lt-LIST
check_fields-loop-i-smaller-then-k-lt-LIST t c = search loop-falls

pub check_fields-loop-i-preserved-then-k-lt-LIST : goal.check_fields-loop-i-preserved-then-k-lt-LIST
check_fields-loop-i-preserved-then-k-lt-LIST t c =
    let l = c.loop-i.invariant in
    search (reached-next l, here-next (fields-here t (goal.at.check_fields-loop-i-preserved-then-k-lt-LIST t c).After-pad_size-next), reached-text l)

pub check_fields-overflow_sub-d : goal.check_fields-overflow_sub-d
check_fields-overflow_sub-d t c = search field-deep

pub check_fields-leaf_fields-m-requires : goal.check_fields-leaf_fields-m-requires
check_fields-leaf_fields-m-requires t c = search field-low

pub check_fields-overflow_add-c : goal.check_fields-overflow_add-c
check_fields-overflow_add-c t c = search field-first

pub check_fields-is_plain-requires : goal.check_fields-is_plain-requires
check_fields-is_plain-requires t c = child-plain (fields-child t (goal.at.check_fields-is_plain-requires t c).Else-k-lt-LIST) c.leaf_fields-m.ensures c.if-m-ne0.true

pub check_fields-overflow_add-c-then-k-eq-STRUCT : goal.check_fields-overflow_add-c-then-k-eq-STRUCT
check_fields-overflow_add-c-then-k-eq-STRUCT t c = search field-first

pub check_fields-check_struct-requires : goal.check_fields-check_struct-requires
check_fields-check_struct-requires t c = child-struct (fields-child t (goal.at.check_fields-check_struct-requires t c).Else-k-lt-LIST) c.if-k-eq-STRUCT.true c.count.ensures

pub check_fields-overflow_add-c-then-k-eq-LIST : goal.check_fields-overflow_add-c-then-k-eq-LIST
check_fields-overflow_add-c-then-k-eq-LIST t c = search field-first

pub check_fields-check_list-requires : goal.check_fields-check_list-requires
check_fields-check_list-requires t c = child-list (fields-child t (goal.at.check_fields-check_list-requires t c).Else-k-lt-LIST) c.if-k-eq-LIST.true

pub check_fields-overflow_add-c-else-k-eq-LIST : goal.check_fields-overflow_add-c-else-k-eq-LIST
check_fields-overflow_add-c-else-k-eq-LIST t c = search field-first

pub check_fields-overflow_add-c-else-k-eq-LIST-2 : goal.check_fields-overflow_add-c-else-k-eq-LIST-2
check_fields-overflow_add-c-else-k-eq-LIST-2 t c = search field-first

pub check_fields-entry_at-requires : goal.check_fields-entry_at-requires
check_fields-entry_at-requires t c = child-keys (fields-child t (goal.at.check_fields-entry_at-requires t c).Else-k-lt-LIST) c.if-k-eq-STRUCT.false c.if-k-eq-LIST.false

pub check_fields-check_map-requires : goal.check_fields-check_map-requires
check_fields-check_map-requires t c =
    child-map (fields-child t (goal.at.check_fields-check_map-requires t c).Else-k-lt-LIST)
    c.if-k-eq-STRUCT.false c.if-k-eq-LIST.false c.entry_at.ensures c.after.ensures

pub check_fields-in_child-requires : goal.check_fields-in_child-requires
check_fields-in_child-requires t c = here-asks (fields-here t (goal.at.check_fields-in_child-requires t c).After-pad_size-next) (fields-judged t (goal.at.check_fields-in_child-requires t c).Joined-m-ne0) c.if-r-ne0.true

pub check_fields-returns-then-r-ne0 : goal.check_fields-returns-then-r-ne0
check_fields-returns-then-r-ne0 t c = search (here-bad (fields-here t (goal.at.check_fields-returns-then-r-ne0 t c).After-pad_size-next) (fields-judged t (goal.at.check_fields-returns-then-r-ne0 t c).Joined-m-ne0))

pub check_fields-overflow_add-slot-in-loop-i : goal.check_fields-overflow_add-slot-in-loop-i
check_fields-overflow_add-slot-in-loop-i t c = search loop-slot-on

pub check_fields-overflow_add-i-in-loop-i : goal.check_fields-overflow_add-i-in-loop-i
check_fields-overflow_add-i-in-loop-i t c = search loop-on

pub check_fields-loop-i-smaller : goal.check_fields-loop-i-smaller
check_fields-loop-i-smaller t c = search loop-falls

pub check_fields-loop-i-preserved : goal.check_fields-loop-i-preserved
check_fields-loop-i-preserved t c =
    let l = c.loop-i.invariant in
    search (reached-next l, here-whole (fields-here t (goal.at.check_fields-loop-i-preserved t c).After-pad_size-next), fields-judged t (goal.at.check_fields-loop-i-preserved t c).Joined-m-ne0, reached-eights l)

pub check_fields-overflow_add-result-then-stop-n : goal.check_fields-overflow_add-result-then-stop-n
check_fields-overflow_add-result-then-stop-n t c = search loop-told

pub check_fields-returns-then-stop-n : goal.check_fields-returns-then-stop-n
check_fields-returns-then-stop-n t c = search (loop-unfit c.loop-i.invariant.state)

pub check_fields-overflow_sub-cur : goal.check_fields-overflow_sub-cur
check_fields-overflow_sub-cur t c = search loop-since

pub check_fields-overflow_add-done-2 : goal.check_fields-overflow_add-done-2
check_fields-overflow_add-done-2 t c = search loop-sum

pub check_fields-returns-then-done-cur : goal.check_fields-returns-then-done-cur
check_fields-returns-then-done-cur t c = search (loop-over c.loop-i.invariant.state)

pub check_fields-returns : goal.check_fields-returns
check_fields-returns t c = search (loop-done c.loop-i.invariant.state)

pub check_items-overflow_sub-d : goal.check_items-overflow_sub-d
check_items-overflow_sub-d t c = search item-deep

pub check_items-leaf_fields-m-requires : goal.check_items-leaf_fields-m-requires
check_items-leaf_fields-m-requires t c = search place-low

pub check_items-bitmap_size-slots-requires : goal.check_items-bitmap_size-slots-requires
check_items-bitmap_size-slots-requires t c = search item-asks

pub check_items-overflow_add-slots : goal.check_items-overflow_add-slots
check_items-overflow_add-slots t c = search item-map

pub check_items-overflow_mul-cur : goal.check_items-overflow_mul-cur
check_items-overflow_mul-cur t c = search item-mul

pub check_items-overflow_add-cur : goal.check_items-overflow_add-cur
check_items-overflow_add-cur t c = search item-start

pub check_items-loop-i-init : goal.check_items-loop-i-init
check_items-loop-i-init t c = search (loop-start, items-slots, slice-bytes)

pub check_items-is_null-requires : goal.check_items-is_null-requires
check_items-is_null-requires t c = search (loop-bit c.loop-i.invariant)

pub check_items-overflow_add-slot : goal.check_items-overflow_add-slot
check_items-overflow_add-slot t c = search loop-slot-on

pub check_items-overflow_add-i : goal.check_items-overflow_add-i
check_items-overflow_add-i t c = search loop-on

pub check_items-loop-i-smaller-then-is_null : goal.check_items-loop-i-smaller-then-is_null
check_items-loop-i-smaller-then-is_null t c = search loop-falls

pub check_items-loop-i-preserved-then-is_null : goal.check_items-loop-i-preserved-then-is_null
check_items-loop-i-preserved-then-is_null t c = search (loop-null c.loop-i.invariant)

pub check_items-offset_at-from-requires : goal.check_items-offset_at-from-requires
check_items-offset_at-from-requires t c = search (loop-slot c.loop-i.invariant)

pub check_items-overflow_sub-done : goal.check_items-overflow_sub-done
check_items-overflow_sub-done t c = search loop-since

pub check_items-overflow_add-done : goal.check_items-overflow_add-done
check_items-overflow_add-done t c = search loop-sum

pub check_items-loop-i-smaller-then-from-cur : goal.check_items-loop-i-smaller-then-from-cur
check_items-loop-i-smaller-then-from-cur t c = search (told-less (items-told t (goal.at.check_items-loop-i-smaller-then-from-cur t c).After-offset_at-from))

pub check_items-loop-i-preserved-then-from-cur : goal.check_items-loop-i-preserved-then-from-cur
check_items-loop-i-preserved-then-from-cur t c = search (told-moves (items-told t (goal.at.check_items-loop-i-preserved-then-from-cur t c).After-offset_at-from))

pub check_items-size_at-requires : goal.check_items-size_at-requires
check_items-size_at-requires t c = search (loop-slot c.loop-i.invariant)

pub check_items-overflow_add-end : goal.check_items-overflow_add-end
check_items-overflow_add-end t c = search stop-fits

pub check_items-overflow_add-result : goal.check_items-overflow_add-result
check_items-overflow_add-result t c = search loop-fault

pub check_items-returns-then-b-end : goal.check_items-returns-then-b-end
check_items-returns-then-b-end t c = search (past_end (items-told t (goal.at.check_items-returns-then-b-end t c).After-offset_at-from))

pub check_items-pad_size-next-requires : goal.check_items-pad_size-next-requires
check_items-pad_size-next-requires t c = search stop-small

pub check_items-overflow_add-c : goal.check_items-overflow_add-c
check_items-overflow_add-c t c = search next_place

pub check_items-is_plain-requires : goal.check_items-is_plain-requires
check_items-is_plain-requires t c =
    search (child-plain (items-child t (goal.at.check_items-is_plain-requires t c).After-pad_size-next)
    c.leaf_fields-m.ensures)

pub check_items-overflow_add-c-then-k-eq-STRUCT : goal.check_items-overflow_add-c-then-k-eq-STRUCT
check_items-overflow_add-c-then-k-eq-STRUCT t c = search next_place

pub check_items-check_struct-requires : goal.check_items-check_struct-requires
check_items-check_struct-requires t c = child-struct (items-child t (goal.at.check_items-check_struct-requires t c).After-pad_size-next) c.if-k-eq-STRUCT.true c.count.ensures

pub check_items-overflow_add-c-then-k-eq-LIST : goal.check_items-overflow_add-c-then-k-eq-LIST
check_items-overflow_add-c-then-k-eq-LIST t c = search next_place

pub check_items-check_list-requires : goal.check_items-check_list-requires
check_items-check_list-requires t c = child-list (items-child t (goal.at.check_items-check_list-requires t c).After-pad_size-next) c.if-k-eq-LIST.true

pub check_items-overflow_add-c-else-k-eq-LIST : goal.check_items-overflow_add-c-else-k-eq-LIST
check_items-overflow_add-c-else-k-eq-LIST t c = search next_place

pub check_items-overflow_add-c-else-k-eq-LIST-2 : goal.check_items-overflow_add-c-else-k-eq-LIST-2
check_items-overflow_add-c-else-k-eq-LIST-2 t c = search next_place

pub check_items-entry_at-requires : goal.check_items-entry_at-requires
check_items-entry_at-requires t c = search (child-keys (items-child t (goal.at.check_items-entry_at-requires t c).After-pad_size-next))

pub check_items-check_map-requires : goal.check_items-check_map-requires
check_items-check_map-requires t c =
    child-map (items-child t (goal.at.check_items-check_map-requires t c).After-pad_size-next) c.if-k-eq-STRUCT.false
    c.if-k-eq-LIST.false c.entry_at.ensures c.after.ensures

pub check_items-in_child-requires : goal.check_items-in_child-requires
check_items-in_child-requires t c = here-asks (items-here t (goal.at.check_items-in_child-requires t c).After-pad_size-next) (items-judged t (goal.at.check_items-in_child-requires t c).Joined-m-ne0) c.if-r-ne0.true

pub check_items-returns-then-r-ne0 : goal.check_items-returns-then-r-ne0
check_items-returns-then-r-ne0 t c = search (here-bad (items-here t (goal.at.check_items-returns-then-r-ne0 t c).After-pad_size-next), items-judged t (goal.at.check_items-returns-then-r-ne0 t c).Joined-m-ne0)

pub check_items-overflow_add-slot-in-loop-i : goal.check_items-overflow_add-slot-in-loop-i
check_items-overflow_add-slot-in-loop-i t c = search loop-slot-on

pub check_items-overflow_add-i-in-loop-i : goal.check_items-overflow_add-i-in-loop-i
check_items-overflow_add-i-in-loop-i t c = search loop-on

pub check_items-loop-i-smaller : goal.check_items-loop-i-smaller
check_items-loop-i-smaller t c = search loop-falls

pub check_items-loop-i-preserved : goal.check_items-loop-i-preserved
check_items-loop-i-preserved t c = search (here-whole (items-here t (goal.at.check_items-loop-i-preserved t c).After-pad_size-next), items-judged t (goal.at.check_items-loop-i-preserved t c).Joined-m-ne0, item-eights)

pub check_items-overflow_add-result-then-stop-n : goal.check_items-overflow_add-result-then-stop-n
check_items-overflow_add-result-then-stop-n t c = search loop-told

pub check_items-returns-then-stop-n : goal.check_items-returns-then-stop-n
check_items-returns-then-stop-n t c = search (loop-unfit c.loop-i.invariant)

pub check_items-overflow_sub-cur : goal.check_items-overflow_sub-cur
check_items-overflow_sub-cur t c = search loop-since

pub check_items-overflow_add-done-2 : goal.check_items-overflow_add-done-2
check_items-overflow_add-done-2 t c = search loop-sum

pub check_items-returns-then-done-cur : goal.check_items-returns-then-done-cur
check_items-returns-then-done-cur t c = search (loop-over c.loop-i.invariant)

pub check_items-returns : goal.check_items-returns
check_items-returns t c = search (loop-done c.loop-i.invariant)

pub check_list-returns-then-b-ne0 : goal.check_list-returns-then-b-ne0
check_list-returns-then-b-ne0 t c = sym (search (list-odd, no-eights))

pub check_list-returns-then-b-lt8 : goal.check_list-returns-then-b-lt8
check_list-returns-then-b-lt8 t c = sym (search (list-short, eights))

pub check_list-returns-then-b-n : goal.check_list-returns-then-b-n
check_list-returns-then-b-n t c = search list-many

pub check_list-bitmap_size-slots-requires : goal.check_list-bitmap_size-slots-requires
check_list-bitmap_size-slots-requires t c = search list-asks

pub check_list-overflow_add-slots : goal.check_list-overflow_add-slots
check_list-overflow_add-slots t c = search list-slots

pub check_list-overflow_mul-end : goal.check_list-overflow_mul-end
check_list-overflow_mul-end t c = search list-mul

pub check_list-overflow_add-end : goal.check_list-overflow_add-end
check_list-overflow_add-end t c = search list-stop

pub check_list-pad_size-start-requires : goal.check_list-pad_size-start-requires
check_list-pad_size-start-requires t c = search list-pad

pub check_list-returns-then-b-start : goal.check_list-returns-then-b-start
check_list-returns-then-b-start t c = search list-out

pub check_list-past_clear-requires : goal.check_list-past_clear-requires
check_list-past_clear-requires t c = map-asks (list-mapped t (goal.at.check_list-past_clear-requires t c).Else-b-start)

pub check_list-past_byte-requires : goal.check_list-past_byte-requires
check_list-past_byte-requires t c = past-asks (list-mapped t (goal.at.check_list-past_byte-requires t c).Else-b-start) (search slice-bytes) c.past_clear.ensures c.if-not-past_clear.true-raw

pub check_list-overflow_add-result : goal.check_list-overflow_add-result
check_list-overflow_add-result t c = past_fits (list-mapped t (goal.at.check_list-overflow_add-result t c).Else-b-start) c.past_byte.ensures

pub check_list-returns-then-not-past_clear : goal.check_list-returns-then-not-past_clear
check_list-returns-then-not-past_clear t c = search list-bits

pub check_list-check_bools-requires : goal.check_list-check_bools-requires
check_list-check_bools-requires t c = search bools-room

pub check_list-returns-then-k-eq-BOOL : goal.check_list-returns-then-k-eq-BOOL
check_list-returns-then-k-eq-BOOL t c = search list-bools

pub check_list-check_end-requires : goal.check_list-check_end-requires
check_list-check_end-requires t c = search numbers-end

pub check_list-returns-then-k-lt-STRING : goal.check_list-returns-then-k-lt-STRING
check_list-returns-then-k-lt-STRING t c = search (list-numbers, slice-bytes)

pub check_list-check_texts-requires : goal.check_list-check_texts-requires
check_list-check_texts-requires t c = search strings-room

pub check_list-returns-then-k-eq-STRING : goal.check_list-returns-then-k-eq-STRING
check_list-returns-then-k-eq-STRING t c = search list-strings

pub check_list-check_texts-requires-then-k-lt-LIST : goal.check_list-check_texts-requires-then-k-lt-LIST
check_list-check_texts-requires-then-k-lt-LIST t c = search texts-room

pub check_list-returns-then-k-lt-LIST : goal.check_list-returns-then-k-lt-LIST
check_list-returns-then-k-lt-LIST t c = search list-binaries

pub check_list-check_items-requires : goal.check_list-check_items-requires
check_list-check_items-requires t c = (search falls-list, search (items-room c.pad_size-start.ensures))

pub check_list-returns : goal.check_list-returns
check_list-returns t c = search list-items

pub check_map-returns-then-b-ne0 : goal.check_map-returns-then-b-ne0
check_map-returns-then-b-ne0 t c = sym (search (map-odd, no-eights))

pub check_map-returns-then-b-lt8 : goal.check_map-returns-then-b-lt8
check_map-returns-then-b-lt8 t c = sym (search (map-short, eights))

pub check_map-returns-then-size-ne0 : goal.check_map-returns-then-size-ne0
check_map-returns-then-size-ne0 t c = search map-bad

pub check_map-returns-then-b-size : goal.check_map-returns-then-b-size
check_map-returns-then-b-size t c = search map-over

pub check_map-overflow_add-end : goal.check_map-overflow_add-end
check_map-overflow_add-end t c = search map-fits

pub check_map-slice_bounds-check_list-end : goal.check_map-slice_bounds-check_list-end
check_map-slice_bounds-check_list-end t c = search map-end

pub check_map-check_list-r-requires : goal.check_map-check_list-r-requires
check_map-check_list-r-requires t c = search (falls-map, keys-hold)

pub check_map-in_child-requires : goal.check_map-in_child-requires
check_map-in_child-requires t c = search (at-fault, keys-few, rules)

pub check_map-returns-then-r-ne0 : goal.check_map-returns-then-r-ne0
check_map-returns-then-r-ne0 t c = search keys-bad

pub check_map-overflow_sub-b-2 : goal.check_map-overflow_sub-b-2
check_map-overflow_sub-b-2 t c = search map-end

pub check_map-overflow_add-result : goal.check_map-overflow_add-result
check_map-overflow_add-result t c = search map-told

pub check_map-returns-then-b-end-lt8 : goal.check_map-returns-then-b-end-lt8
check_map-returns-then-b-end-lt8 t c = search values-headless

pub check_map-get-requires-clause-room : goal.check_map-get-requires-clause-room
check_map-get-requires-clause-room t c = search (keys-head c.requires)

pub check_map-get-requires-2-clause-room : goal.check_map-get-requires-2-clause-room
check_map-get-requires-2-clause-room t c = search values-head

pub check_map-overflow_add-result-then-get : goal.check_map-overflow_add-result-then-get
check_map-overflow_add-result-then-get t c = search map-told

pub check_map-returns-then-get : goal.check_map-returns-then-get
check_map-returns-then-get t c = search counts-differ

pub check_map-slice_bounds-check_list-count-2 : goal.check_map-slice_bounds-check_list-count-2
check_map-slice_bounds-check_list-count-2 t c = search map-end

pub check_map-slice_bounds-check_list-start-2 : goal.check_map-slice_bounds-check_list-start-2
check_map-slice_bounds-check_list-start-2 t c = search map-end

pub check_map-check_list-q-requires : goal.check_map-check_list-q-requires
check_map-check_list-q-requires t c = search (falls-map, values-hold)

pub check_map-in_child-requires-then-q-ne0 : goal.check_map-in_child-requires-then-q-ne0
check_map-in_child-requires-then-q-ne0 t c = search (at-fault, values-few, map-low)

pub check_map-returns-then-q-ne0 : goal.check_map-returns-then-q-ne0
check_map-returns-then-q-ne0 t c = search values-bad

pub check_map-returns : goal.check_map-returns
check_map-returns t c = search map-done

pub check_struct-bitmap_size-slots-requires : goal.check_struct-bitmap_size-slots-requires
check_struct-bitmap_size-slots-requires t c = search struct-asks

pub check_struct-returns-then-b-ne0 : goal.check_struct-returns-then-b-ne0
check_struct-returns-then-b-ne0 t c = search fields-odd

pub check_struct-overflow_mul-n : goal.check_struct-overflow_mul-n
check_struct-overflow_mul-n t c = search struct-mul

pub check_struct-overflow_add-slots : goal.check_struct-overflow_add-slots
check_struct-overflow_add-slots t c = search struct-end

pub check_struct-returns-then-b-slots : goal.check_struct-returns-then-b-slots
check_struct-returns-then-b-slots t c = search fields-short

pub check_struct-past_clear-requires : goal.check_struct-past_clear-requires
check_struct-past_clear-requires t c = map-asks (struct-mapped t (goal.at.check_struct-past_clear-requires t c).Else-b-slots)

pub check_struct-past_byte-requires : goal.check_struct-past_byte-requires
check_struct-past_byte-requires t c = past-asks (struct-mapped t (goal.at.check_struct-past_byte-requires t c).Else-b-slots) (search slice-bytes) c.past_clear.ensures c.if-not-past_clear.true-raw

pub check_struct-overflow_add-result : goal.check_struct-overflow_add-result
check_struct-overflow_add-result t c = past_fits (struct-mapped t (goal.at.check_struct-overflow_add-result t c).Else-b-slots) c.past_byte.ensures

pub check_struct-returns-then-not-past_clear : goal.check_struct-returns-then-not-past_clear
check_struct-returns-then-not-past_clear t c = search fields_bits

pub check_struct-check_fields-requires : goal.check_struct-check_fields-requires
check_struct-check_fields-requires t c = search (falls-struct, fields-from)

pub check_struct-returns : goal.check_struct-returns
check_struct-returns t c = search fields-whole
