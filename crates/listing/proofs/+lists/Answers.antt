-- The cycle of `listing` meets its contracts: what each call asks, and each return, is one law, in the order of the code, with the need's name
-- behind it. The measure is the depth, and in it the rank of the member; the loops' invariants are `AtField` and `AtItem`. Assumes nothing.
use Rattle.listing.proofs.Children.{items-head, item-seat, item-null-room, item-more, items-null, items-end}
use Rattle.listing.proofs.Items.{elements-leaves, elements-written, containers, containers-few, containers-start}
use Rattle.listing.proofs.Items.{element-elsewhere, element-container, element-value}
use Rattle.listing.proofs.Structs.{fields-few, fields-start, fields-end, field-stands, field-seat}
use Rattle.listing.proofs.Structs.{field-null-room, field-is-leaf, field-elsewhere}
use Rattle.listing.proofs.Structs.{field-container, field-null, field-leaf, field-value}
use Rattle.listing.proofs.Containers.{child-rank, map-rank, value-deep, value-child, value-falls, value_room, list-head, list-elements}
use Rattle.listing.proofs.Containers.{list_written, map-pair, struct_fields, struct_written, keys-stand, map-falls, map-size-in}
use Rattle.listing.proofs.Containers.{map-count-in, map-fits, map-end, map_keys, map-values, map-written}
use Rattle.listing.proofs.+lists.Goals as goal
use Rattle.listing.proofs.+lists.Goals.{list_fields-then-is_null, list_fields-else-is_null+then-place-lt-LIST}
use Rattle.listing.proofs.+lists.Goals.{list_fields-else-is_null+else-place-lt-LIST, list_items-then-is_null, list_items-else-is_null}

pub list_fields-bitmap_size-slot-requires : goal.list_fields-bitmap_size-slot-requires
list_fields-bitmap_size-slot-requires m c = search fields-few

pub list_fields-loop-i-init : goal.list_fields-loop-i-init
list_fields-loop-i-init m c = search fields-start

pub list_fields-entry_at-w-requires : goal.list_fields-entry_at-w-requires
list_fields-entry_at-w-requires m c = search field-stands

pub list_fields-is_null-requires : goal.list_fields-is_null-requires
list_fields-is_null-requires m c = (field-seat c.loop-i.invariant c.loop-i-test.true).bit-room

pub list_fields-put_null-p-requires : goal.list_fields-put_null-p-requires
list_fields-put_null-p-requires m c = search field-null-room

pub list_fields-put_leaf-p-requires : goal.list_fields-put_leaf-p-requires
list_fields-put_leaf-p-requires m c = search field-is-leaf

pub list_fields-own-requires : goal.list_fields-own-requires
list_fields-own-requires m c = search field-elsewhere

pub list_fields-list_value-p-requires : goal.list_fields-list_value-p-requires
list_fields-list_value-p-requires m c = search (child-rank, field-container)

-- the branches of a turn meet: the field was null, a leaf, or a container
pub list_fields-loop-i-preserved : goal.list_fields-loop-i-preserved
list_fields-loop-i-preserved m c =
    let a = c.loop-i.invariant in
    let l = c.loop-i-test.true in
    let e = c.entry_at-w.ensures in
    let x = c.is_null.ensures in
    let n = c.after-at.ensures in
    elim c.if-is_null.branch [
      | list_fields-then-is_null w ↦ field-null a l e x n w.out-is w.p-is w.if-is_null.true w.put_null-p.ensures
      | list_fields-else-is_null+then-place-lt-LIST w ↦
          field-leaf a l e x w.if-is_null.false w.place.ensures w.if-place-lt-LIST.true n w.out-is w.p-is w.put_leaf-p.ensures
      | list_fields-else-is_null+else-place-lt-LIST w ↦
          field-value a l e x w.if-is_null.false w.place.ensures w.if-place-lt-LIST.false w.own.ensures n w.out-is w.p-is w.list_value-p.ensures
    ]

pub list_fields-returns : goal.list_fields-returns
list_fields-returns m c = search fields-end

pub list_items-list_leaves-requires : goal.list_items-list_leaves-requires
list_items-list_leaves-requires m c = search elements-leaves

pub list_items-returns-then-place-lt-LIST : goal.list_items-returns-then-place-lt-LIST
list_items-returns-then-place-lt-LIST m c = search elements-written

pub list_items-get-n-requires-clause-room : goal.list_items-get-n-requires-clause-room
list_items-get-n-requires-clause-room m c = search items-head

pub list_items-bitmap_size-slot-requires : goal.list_items-bitmap_size-slot-requires
list_items-bitmap_size-slot-requires m c = search containers-few

pub list_items-loop-i-init : goal.list_items-loop-i-init
list_items-loop-i-init m c = search (containers, containers-start)

pub list_items-is_null-requires : goal.list_items-is_null-requires
list_items-is_null-requires m c = (item-seat c.loop-i.invariant.1 c.loop-i-test.true).bit-room

pub list_items-put_null-p-requires : goal.list_items-put_null-p-requires
list_items-put_null-p-requires m c = search item-null-room

pub list_items-own-requires : goal.list_items-own-requires
list_items-own-requires m c = search (element-elsewhere c.loop-i.invariant.0)

pub list_items-list_value-p-requires : goal.list_items-list_value-p-requires
list_items-list_value-p-requires m c = search (child-rank, element-container)

pub list_items-overflow_add-slot-in-loop-i : goal.list_items-overflow_add-slot-in-loop-i
list_items-overflow_add-slot-in-loop-i m c = search item-more

-- and here the element was null, or a container
pub list_items-loop-i-preserved : goal.list_items-loop-i-preserved
list_items-loop-i-preserved m c =
    let a = c.loop-i.invariant in
    let l = c.loop-i-test.true in
    let x = c.is_null.ensures in (
      a.0,
      elim c.if-is_null.branch [
        | list_items-then-is_null w ↦ items-null a.1 l x w.out-is w.p-is w.if-is_null.true w.put_null-p.ensures
        | list_items-else-is_null w ↦
            element-value a.0 a.1 l x w.if-is_null.false w.own.ensures w.out-is w.p-is w.list_value-p.ensures
      ],
    )

pub list_items-returns : goal.list_items-returns
list_items-returns m c = search items-end

pub list_map-overflow_sub-d : goal.list_map-overflow_sub-d
list_map-overflow_sub-d m c = search value-deep

pub list_map-overflow_add-keys : goal.list_map-overflow_add-keys
list_map-overflow_add-keys m c = search value-child

pub list_map-entry_at-requires : goal.list_map-entry_at-requires
list_map-entry_at-requires m c = search keys-stand

pub list_map-get-size-requires-clause-room : goal.list_map-get-size-requires-clause-room
list_map-get-size-requires-clause-room m c = search map-size-in

pub list_map-overflow_add-end : goal.list_map-overflow_add-end
list_map-overflow_add-end m c = search map-end

pub list_map-get-requires-clause-room : goal.list_map-get-requires-clause-room
list_map-get-requires-clause-room m c = search map-count-in

pub list_map-put_count-p-requires : goal.list_map-put_count-p-requires
list_map-put_count-p-requires m c = search value_room

pub list_map-slice_bounds-list_items-end : goal.list_map-slice_bounds-list_items-end
list_map-slice_bounds-list_items-end m c = search map-fits

pub list_map-list_items-q-requires : goal.list_map-list_items-q-requires
list_map-list_items-q-requires m c = search (map-falls, map_keys)

pub list_map-slice_bounds-list_items-count-2 : goal.list_map-slice_bounds-list_items-count-2
list_map-slice_bounds-list_items-count-2 m c = search map-fits

pub list_map-slice_bounds-list_items-start-2 : goal.list_map-slice_bounds-list_items-start-2
list_map-slice_bounds-list_items-start-2 m c = search map-fits

pub list_map-list_items-requires : goal.list_map-list_items-requires
list_map-list_items-requires m c = (
  map-falls c.requires.container c.decreases,
  map-values c.requires c.entry_at-w.ensures c.entry_at.ensures c.after-values.ensures c.get-size.ensures c.get.ensures
      c.put_count-p.ensures c.list_items-q.ensures,
)

pub list_map-returns : goal.list_map-returns
list_map-returns m c =
    map-written c.requires c.entry_at-w.ensures c.entry_at.ensures c.after-values.ensures
    c.get-size.ensures c.get.ensures c.put_count-p.ensures c.list_items-q.ensures c.list_items.ensures

pub list_value-overflow_sub-d : goal.list_value-overflow_sub-d
list_value-overflow_sub-d m c = search value-deep

pub list_value-get-requires-clause-room : goal.list_value-get-requires-clause-room
list_value-get-requires-clause-room m c = search list-head

pub list_value-put_count-p-requires : goal.list_value-put_count-p-requires
list_value-put_count-p-requires m c = search value_room

pub list_value-overflow_add-at : goal.list_value-overflow_add-at
list_value-overflow_add-at m c = search value-child

pub list_value-list_items-requires : goal.list_value-list_items-requires
list_value-list_items-requires m c = search (value-falls, list-elements)

pub list_value-returns-in-9 : goal.list_value-returns-in-9
list_value-returns-in-9 m c = search list_written

pub list_value-list_map-requires : goal.list_value-list_map-requires
list_value-list_map-requires m c = search (map-rank, map-pair)

pub list_value-put_mark-p-requires : goal.list_value-put_mark-p-requires
list_value-put_mark-p-requires m c = search value_room

pub list_value-overflow_add-at-in_default : goal.list_value-overflow_add-at-in_default
list_value-overflow_add-at-in_default m c = search value-child

pub list_value-list_fields-requires : goal.list_value-list_fields-requires
list_value-list_fields-requires m c = search (value-falls, struct_fields)

pub list_value-returns-in_default : goal.list_value-returns-in_default
list_value-returns-in_default m c = search struct_written
