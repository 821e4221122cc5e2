-- `standing::unfit_item` meets its contract: before element i all stand, and the maps show them. Assumes nothing.
use mathlib.Core.Path.{refl}
use mathlib.Core.Bool.{true}
use Rattle.standing.proofs.Passing.{slots-few, slots-behind, slots-fit, slots-long, start_fits, passed_start, passed-all, passed-map, passed-by, passed-slot, passed-asks, passed-unfit, passed-next}
use Rattle.standing.proofs.unfit_item.Goals as goal

pub bitmap_size-slots-requires : goal.bitmap_size-slots-requires
bitmap_size-slots-requires c = slots-few c.requires

pub overflow_add-slots : goal.overflow_add-slots
overflow_add-slots c = slots-fit c.requires c.bitmap_size-slots.ensures

pub overflow_mul-start : goal.overflow_mul-start
overflow_mul-start c = slots-long c.requires

pub overflow_add-start : goal.overflow_add-start
overflow_add-start c = start_fits c.requires (slots-behind c.requires c.bitmap_size-slots.ensures)

pub loop-i-init : goal.loop-i-init
loop-i-init c = passed_start c.requires (slots-behind c.requires c.bitmap_size-slots.ensures) (λ _. true)

pub slice_bounds-place_child-end : goal.slice_bounds-place_child-end
slice_bounds-place_child-end c = passed-map c.loop-i.invariant

pub overflow_mul-i : goal.overflow_mul-i
overflow_mul-i c = passed-by c.loop-i.invariant c.loop-i-test.true

pub overflow_add-slots-in-loop-i : goal.overflow_add-slots-in-loop-i
overflow_add-slots-in-loop-i c = passed-slot c.loop-i.invariant c.loop-i-test.true

pub place_child-requires : goal.place_child-requires
place_child-requires c = passed-asks c.loop-i.invariant c.loop-i-test.true

pub returns-then-not-place_child : goal.returns-then-not-place_child
returns-then-not-place_child c = passed-unfit c.loop-i.invariant c.loop-i-test.true refl
    c.place_child.ensures c.if-not-place_child.true-raw

pub loop-i-preserved : goal.loop-i-preserved
loop-i-preserved c = passed-next c.loop-i.invariant c.loop-i-test.true refl
    c.place_child.ensures c.if-not-place_child.false-raw

pub returns : goal.returns
returns c = passed-all c.loop-i.invariant c.loop-i-test.false
