-- `batch::frames::find` meets its contract: as many frames are passed as turns were made. Assumes nothing.
use Rattle.std.proofs.Common.{arith}
use Rattle.std.proofs.lemmas.Result.{err_from_is_err_and}
use Rattle.batch.specs.Places.{is_at}
use Rattle.batch.proofs.Passing.{passed_start, passed-fits, passed-next, passed_to, find_none, find-row, find-broken, count-whole}
use Rattle.batch.proofs.frames.find.Goals as goal

pub loop-init : goal.loop-init
loop-init c = passed_start _

pub frame_end-requires : goal.frame_end-requires
frame_end-requires c = c.loop.invariant.high

pub returns-in_default : goal.returns-in_default
returns-in_default c = find_none c.loop.invariant (omega arith) c.in_default.ensures c.no_frame.ensures

pub loop-preserved : goal.loop-preserved
loop-preserved c = passed-next c.loop.invariant c.in-Some.ensures

pub frame_end-requires-2 : goal.frame_end-requires-2
frame_end-requires-2 c = c.loop.invariant.high

pub returns-in_default-frame_end : goal.returns-in_default-frame_end
returns-in_default-frame_end c = find_none c.loop.invariant (omega arith) c.in_default-frame_end.ensures c.no_frame-in_default-frame_end.ensures

pub overflow_add-k : goal.overflow_add-k
overflow_add-k c = omega (arith, passed-fits c.loop.invariant c.in-Some-frame_end.ensures)

pub count_on-requires : goal.count_on-requires
count_on-requires c = passed_to c.loop.invariant (omega arith) c.loop-test.false c.in-Some-frame_end.ensures

pub returns-in_err-count_on : goal.returns-in_err-count_on
returns-in_err-count_on c = let p = err_from_is_err_and c.from_residual.result c.from_residual.ensures.1 in
    rw (p.1, p.2) (find-broken c.args.k _ c.in_err-count_on.ensures)

pub returns : goal.returns
returns c = let w = count-whole _ c.in_ok-count_on.ensures in
    is_at (find-row c.loop.invariant (omega arith) c.loop-test.false c.in-Some-frame_end.ensures w.is)
