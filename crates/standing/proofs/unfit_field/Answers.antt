-- `standing::unfit_field` meets its contract: before field i all stand, and the maps show them. Assumes nothing.
use mathlib.Core.Path.{refl}
use Rattle.standing.proofs.Passing.{slots-few, slots-long, slots-first, start_fits}
use Rattle.standing.proofs.Tabled.{FieldIs, fields-start, fields-all, field-stands, field-map, field-by, field-slot, field-asks, fields-fixed, fields-unfit, fields-next}
use Rattle.standing.proofs.unfit_field.Goals as goal
use Rattle.standing.proofs.unfit_field.Goals.{After-place}

-- the field that the loop has come to
here : (c : After-place) → FieldIs c.loop-i.invariant c.after-at.result c.place.result
here c = record {
  less = c.loop-i-test.true;
  word = c.entry_at-w.result;
  entry = c.entry_at-w.ensures;
  after = c.after-at.ensures;
  kind = c.place.ensures;
}

pub bitmap_size-slots-requires : goal.bitmap_size-slots-requires
bitmap_size-slots-requires c = slots-few c.requires.slots

pub overflow_mul-start : goal.overflow_mul-start
overflow_mul-start c = slots-long c.requires.slots

pub overflow_add-start : goal.overflow_add-start
overflow_add-start c = start_fits c.requires.slots (slots-first c.requires.slots c.bitmap_size-slots.ensures refl)

pub loop-i-init : goal.loop-i-init
loop-i-init c = fields-start c.requires c.bitmap_size-slots.ensures

pub entry_at-w-requires : goal.entry_at-w-requires
entry_at-w-requires c = field-stands c.loop-i.invariant c.loop-i-test.true

pub loop-i-preserved-then-place-lt-STRING : goal.loop-i-preserved-then-place-lt-STRING
loop-i-preserved-then-place-lt-STRING c = fields-fixed (here (goal.at.loop-i-preserved-then-place-lt-STRING c).After-place) c.if-place-lt-STRING.true

pub slice_bounds-place_child-end : goal.slice_bounds-place_child-end
slice_bounds-place_child-end c = field-map (here (goal.at.slice_bounds-place_child-end c).After-place)

pub overflow_mul-i : goal.overflow_mul-i
overflow_mul-i c = field-by (here (goal.at.overflow_mul-i c).After-place)

pub overflow_add-slots : goal.overflow_add-slots
overflow_add-slots c = field-slot (here (goal.at.overflow_add-slots c).After-place)

pub place_child-requires : goal.place_child-requires
place_child-requires c = field-asks (here (goal.at.place_child-requires c).After-place)

pub returns-then-not-place_child : goal.returns-then-not-place_child
returns-then-not-place_child c = fields-unfit (here (goal.at.returns-then-not-place_child c).After-place) c.if-place-lt-STRING.false c.place_child.ensures
    c.if-not-place_child.true-raw

pub loop-i-preserved : goal.loop-i-preserved
loop-i-preserved c = fields-next (here (goal.at.loop-i-preserved c).After-place) c.if-place-lt-STRING.false c.place_child.ensures
    c.if-not-place_child.false-raw

pub returns : goal.returns
returns c = fields-all c.loop-i.invariant c.loop-i-test.false
