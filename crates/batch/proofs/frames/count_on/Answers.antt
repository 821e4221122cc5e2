-- `batch::frames::count_on` meets its contract: the frames passed so far are the first of the batch. Assumes nothing.
use Rattle.std.proofs.Common.{arith, ◌-◌}
use Rattle.std.proofs.lemmas.Result.{err_from_is_err_and}
use Rattle.table.proofs.Steps.{not-taken}
use Rattle.batch.proofs.Passing.{stands_of, passed-fits, passed-next, count-broken, count-end, nowhere}
use Rattle.batch.proofs.frames.count_on.Goals as goal

pub loop-at-init : goal.loop-at-init
loop-at-init c = c.requires

pub frame_end-requires : goal.frame_end-requires
frame_end-requires c = c.loop-at.invariant.high

pub returns-in_err-at : goal.returns-in_err-at
returns-in_err-at c = let p = err_from_is_err_and c.from_residual.result c.from_residual.ensures.1 in
    let o = c.in_err-at.ensures in
    let n = nowhere c.args.b.now c.loop-at.at o.ok_part c.frame_end.ensures in
    rw (p.1, p.2, (not-taken _ o.value).1) (count-broken c.loop-at.invariant c.loop-at-test.true n)

pub overflow_add-n : goal.overflow_add-n
overflow_add-n c = omega (arith, passed-fits c.loop-at.invariant (stands_of c.args.b.now c.loop-at.at c.in_ok-at.ensures.ok_part c.frame_end.ensures))

pub loop-at-smaller : goal.loop-at-smaller
loop-at-smaller c = let s = stands_of c.args.b.now c.loop-at.at c.in_ok-at.ensures.ok_part c.frame_end.ensures in omega (arith, s.low, s.high)

pub loop-at-preserved : goal.loop-at-preserved
loop-at-preserved c = passed-next c.loop-at.invariant (stands_of c.args.b.now c.loop-at.at c.in_ok-at.ensures.ok_part c.frame_end.ensures)

pub returns : goal.returns
returns c = count-end c.loop-at.invariant (omega (arith, c.loop-at.invariant.high))
