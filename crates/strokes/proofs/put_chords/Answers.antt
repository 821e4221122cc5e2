-- `strokes::put_chords` meets its contract: the chords of the rows that were passed stand at the start. Assumes nothing.
use Rattle.std.proofs.Common.{◌-◌, arith}
use Rattle.strokes.proofs.Walks.{put-start, put_keeps, put-room, put_next, put-end, put-long}
use Rattle.strokes.proofs.put_chords.Goals as goal

pub loop-end-init : goal.loop-end-init
loop-end-init c = put-start c.requires.0 c.requires.1

pub frame_end-requires : goal.frame_end-requires
frame_end-requires c = c.loop-end.invariant.passed.high

pub put_row-i-requires : goal.put_row-i-requires
put_row-i-requires c = let s = c.in-Some.ensures in (put_keeps c.loop-end.invariant s, put-room c.loop-end.invariant s)

pub loop-end-smaller : goal.loop-end-smaller
loop-end-smaller c = let s = c.in-Some.ensures in omega (arith, s.low, s.high)

pub loop-end-preserved : goal.loop-end-preserved
loop-end-preserved c = put_next c.loop-end.invariant c.in-Some.ensures c.put_row-i.ensures

pub shape_of-out : goal.shape_of-out
shape_of-out c = put-long c.loop-end.invariant

pub returns : goal.returns
returns c = put-end c.loop-end.invariant c.in_default.ensures
