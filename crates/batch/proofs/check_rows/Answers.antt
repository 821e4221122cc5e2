-- `batch::check_rows` meets its contract: the rows before row n are in order. Assumes nothing.
use Rattle.std.proofs.Common.{◌∙◌, arith}
use Rattle.batch.proofs.Passing.{passed_start, passed-fits, passed-next, passed-broken}
use Rattle.batch.proofs.InTurn.{check-broken, order-start, order-next, order-refused, order-end}
use Rattle.batch.proofs.check_rows.Goals as goal

pub loop-at-init : goal.loop-at-init
loop-at-init c = (passed_start _, order-start _ _ c.requires.accepted)

pub frame_end-requires : goal.frame_end-requires
frame_end-requires c = c.loop-at.invariant.0.high

pub returns-in_default : goal.returns-in_default
returns-in_default c = check-broken _ _ c.requires.accepted
    (passed-broken c.loop-at.invariant.0 c.loop-at-test.true c.in_default.ensures)

pub refuse_row-requires : goal.refuse_row-requires
refuse_row-requires c = passed-next c.loop-at.invariant.0 c.in-Some.ensures

pub returns-in-Err : goal.returns-in-Err
returns-in-Err c = let l = c.loop-at in
    c.refuse_row.ensures ∙ order-refused c.requires.accepted l.invariant.1 l.invariant.0 c.in-Some.ensures _ c.in-Err.ensures

pub overflow_add-n : goal.overflow_add-n
overflow_add-n c = omega (arith, passed-fits c.loop-at.invariant.0 c.in-Some.ensures)

pub loop-at-smaller : goal.loop-at-smaller
loop-at-smaller c = let s = c.in-Some.ensures in omega (arith, s.low, s.high)

pub loop-at-preserved : goal.loop-at-preserved
loop-at-preserved c = let l = c.loop-at in
    let s = c.in-Some.ensures in
    (passed-next l.invariant.0 s, order-next c.requires.accepted l.invariant.1 l.invariant.0 s c.in_default-check.ensures)

pub returns : goal.returns
returns c = order-end c.loop-at.invariant.0 (omega (arith, c.loop-at.invariant.0.high)) c.loop-at.invariant.1
