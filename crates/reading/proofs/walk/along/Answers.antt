-- `reading::walk::along` meets its contract. Assumes nothing.
use Rattle.std.proofs.Common.{refl, ap, ◌∙◌, Ok, Err}
use Rattle.reading.proofs.OnPath.{walk_start, walk-asked, walk-fails, walk-done, at-step, step_fits}
use Rattle.reading.proofs.OnPath.{walk-nowhere, walk-stops, walk-null, walk-under, walk-to}
use Rattle.reading.proofs.walk.along.Goals as goal

pub loop-place-init : goal.loop-place-init
loop-place-init c = walk_start c.requires

pub holds-requires : goal.holds-requires
holds-requires c = c.loop-place.invariant.rests

pub refused-requires : goal.refused-requires
refused-requires c = walk-asked c.loop-place.invariant

pub returns-then-not-holds : goal.returns-then-not-holds
returns-then-not-holds c = let loop = c.loop-place in
    let holds = c.holds in
    walk-fails loop.invariant holds.ensures c.if-not-holds.true-raw c.broken_at-place.ensures c.refused.ensures

pub returns-then-n-k : goal.returns-then-n-k
returns-then-n-k c = let loop = c.loop-place in
    let holds = c.holds in
    walk-done loop.invariant holds.ensures c.if-not-holds.false-raw c.if-n-k.true

pub step-requires : goal.step-requires
step-requires c = (at-step c.loop-place.invariant c.holds.ensures c.if-not-holds.false-raw c.if-n-k.false).stands

pub returns-in-Err-NoPlace : goal.returns-in-Err-NoPlace
returns-in-Err-NoPlace c =
    walk-nowhere (at-step c.loop-place.invariant c.holds.ensures c.if-not-holds.false-raw c.if-n-k.false) refl c.step.ensures
    (c.in-Err-NoPlace.is ∙ ap Err c.in-Err-NoPlace.field-0-is)

pub refused-requires-in-Err : goal.refused-requires-in-Err
refused-requires-in-Err c = walk-asked c.loop-place.invariant

pub returns-in-Err : goal.returns-in-Err
returns-in-Err c = walk-stops (at-step c.loop-place.invariant c.holds.ensures c.if-not-holds.false-raw c.if-n-k.false) refl c.step.ensures c.in-Err.is
    c.refused-in-Err.ensures

pub overflow_add-k : goal.overflow_add-k
overflow_add-k c = step_fits (at-step c.loop-place.invariant c.holds.ensures c.if-not-holds.false-raw c.if-n-k.false)

pub returns-then-k-n : goal.returns-then-k-n
returns-then-k-n c = let step = c.step in
    walk-null (at-step c.loop-place.invariant c.holds.ensures c.if-not-holds.false-raw c.if-n-k.false) refl step.ensures (c.in-Ok-Null.is ∙ ap Ok c.in-Ok-Null.field-0-is) c.if-k-n.true

pub refused-requires-in-Ok-Null : goal.refused-requires-in-Ok-Null
refused-requires-in-Ok-Null c = walk-asked c.loop-place.invariant

pub returns-in-Ok-Null : goal.returns-in-Ok-Null
returns-in-Ok-Null c = let step = c.step in
    walk-under (at-step c.loop-place.invariant c.holds.ensures c.if-not-holds.false-raw c.if-n-k.false) refl step.ensures (c.in-Ok-Null.is ∙ ap Ok c.in-Ok-Null.field-0-is) c.if-k-n.false c.refused-in-Ok-Null.ensures

pub overflow_add-k-in-loop-place : goal.overflow_add-k-in-loop-place
overflow_add-k-in-loop-place c = step_fits (at-step c.loop-place.invariant c.holds.ensures c.if-not-holds.false-raw c.if-n-k.false)

pub loop-place-preserved : goal.loop-place-preserved
loop-place-preserved c = let step = c.step in
    walk-to (at-step c.loop-place.invariant c.holds.ensures c.if-not-holds.false-raw c.if-n-k.false) refl step.ensures (c.in-Ok-At.is ∙ ap Ok c.in-Ok-At.field-0-is)
