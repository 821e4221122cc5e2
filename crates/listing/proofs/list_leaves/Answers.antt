-- `listing::list_leaves` meets its contract: `AtItem` is its invariant. Assumes nothing.
use Rattle.listing.proofs.Children.{items-head, item-seat, item-null-room, item-more}
use Rattle.listing.proofs.Children.{items-null, items-own, items-end}
use Rattle.listing.proofs.Items.{leaves-few, leaves-start, leaves-leaf}
use Rattle.listing.proofs.list_leaves.Goals as goal
use Rattle.listing.proofs.list_leaves.Goals.{then-is_null, else-is_null}

pub get-n-requires-clause-room : goal.get-n-requires-clause-room
get-n-requires-clause-room c = search items-head

pub bitmap_size-slot-requires : goal.bitmap_size-slot-requires
bitmap_size-slot-requires c = search leaves-few

pub loop-i-init : goal.loop-i-init
loop-i-init c = search leaves-start

pub is_null-requires : goal.is_null-requires
is_null-requires c = (item-seat c.loop-i.invariant.1 c.loop-i-test.true).bit-room

pub put_null-p-requires : goal.put_null-p-requires
put_null-p-requires c = search item-null-room

pub put_leaf-p-requires : goal.put_leaf-p-requires
put_leaf-p-requires c = search leaves-leaf

pub overflow_add-slot-in-loop-i : goal.overflow_add-slot-in-loop-i
overflow_add-slot-in-loop-i c = search item-more

pub loop-i-preserved : goal.loop-i-preserved
loop-i-preserved c =
    let i = c.loop-i.invariant in
    let l = c.loop-i-test.true in
    let e = c.is_null.ensures in
    elim c.if-is_null.branch [
      | then-is_null w ↦ (i.0, items-null i.1 l e w.out-is w.p-is w.if-is_null.true w.put_null-p.ensures)
      | else-is_null w ↦ (i.0, items-own i.1 l e w.out-is w.p-is w.if-is_null.false w.put_leaf-p.ensures)
    ]

pub returns : goal.returns
returns c = search items-end
