-- `strokes::judge_log` meets its contract: the rows that were passed are as a log may have them. Assumes nothing.
use Rattle.std.proofs.Common.{◌-◌, arith}
use Rattle.std.proofs.lemmas.Result.{err_from_is_err_and}
use Rattle.words.proofs.Numbers.{slice-bytes}
use Rattle.table.proofs.Steps.{not-taken}
use Rattle.batch.proofs.Passing.{stands_of, nowhere, passed-fits}
use Rattle.strokes.proofs.Logs.{walked_start, walked_keeps, walked-fits, walked_next, walked-refused, walked_end, walked-broken}
use Rattle.strokes.proofs.judge_log.Goals as goal

pub loop-at-init : goal.loop-at-init
loop-at-init c = walked_start (slice-bytes c.type_inv.log)

pub frame_end-requires : goal.frame_end-requires
frame_end-requires c = c.loop-at.invariant.passed.high

pub returns-in_err-end : goal.returns-in_err-end
returns-in_err-end c = let p = err_from_is_err_and c.from_residual.result c.from_residual.ensures.1 in
    let o = c.in_err-end.ensures in
    let n = nowhere c.args.log.now c.loop-at.at o.ok_part c.frame_end.ensures in
    rw (p.1, p.2, (not-taken _ o.value).1) (walked-broken c.loop-at.invariant c.loop-at-test.true n)

pub overflow_add-n : goal.overflow_add-n
overflow_add-n c = let s = stands_of c.args.log.now c.loop-at.at c.in_ok-end.ensures.ok_part c.frame_end.ensures in
    omega (arith, passed-fits c.loop-at.invariant.passed s)

pub refuse_row-requires : goal.refuse_row-requires
refuse_row-requires c = let s = stands_of c.args.log.now c.loop-at.at c.in_ok-end.ensures.ok_part c.frame_end.ensures in
    walked-refused c.loop-at.invariant s c.in-Err.ensures

pub chords_in-count-requires : goal.chords_in-count-requires
chords_in-count-requires c = let s = stands_of c.args.log.now c.loop-at.at c.in_ok-end.ensures.ok_part c.frame_end.ensures in
    walked_keeps c.loop-at.invariant s c.in_default.ensures

pub overflow_add-count : goal.overflow_add-count
overflow_add-count c = let s = stands_of c.args.log.now c.loop-at.at c.in_ok-end.ensures.ok_part c.frame_end.ensures in
    omega (arith, walked-fits c.loop-at.invariant s, c.chords_in-count.ensures.1)

pub overflow_add-n-in-loop-at : goal.overflow_add-n-in-loop-at
overflow_add-n-in-loop-at c = let s = stands_of c.args.log.now c.loop-at.at c.in_ok-end.ensures.ok_part c.frame_end.ensures in
    omega (arith, passed-fits c.loop-at.invariant.passed s)

pub loop-at-smaller : goal.loop-at-smaller
loop-at-smaller c = let s = stands_of c.args.log.now c.loop-at.at c.in_ok-end.ensures.ok_part c.frame_end.ensures in
    omega (arith, s.low, s.high)

pub loop-at-preserved : goal.loop-at-preserved
loop-at-preserved c = let s = stands_of c.args.log.now c.loop-at.at c.in_ok-end.ensures.ok_part c.frame_end.ensures in
    walked_next c.loop-at.invariant s (walked_keeps c.loop-at.invariant s c.in_default.ensures) c.chords_in-count.ensures.0

pub returns : goal.returns
returns c = walked_end c.loop-at.invariant (omega arith)
