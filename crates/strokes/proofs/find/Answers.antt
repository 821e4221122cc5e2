-- `strokes::find` meets its contract: the rows that were passed have too few chords. Assumes nothing.
use Rattle.std.proofs.Common.{◌-◌, arith}
use Rattle.strokes.proofs.Walks.{seek-start, seek-ends, seek-keeps, seek-stroke, seek_found, seek-next}
use Rattle.strokes.proofs.find.Goals as goal

pub loop-end-init : goal.loop-end-init
loop-end-init c = seek-start c.requires.0 c.requires.1

pub frame_end-requires : goal.frame_end-requires
frame_end-requires c = c.loop-end.invariant.passed.high

pub chords_in-held-requires : goal.chords_in-held-requires
chords_in-held-requires c = seek-keeps c.loop-end.invariant c.in-Some.ensures

pub chord_at-requires : goal.chord_at-requires
chord_at-requires c = let s = c.in-Some.ensures in (
  seek-keeps c.loop-end.invariant s,
  omega (arith, c.chords_in-held.ensures.1),
  seek-stroke c.loop-end.invariant s c.chords_in-held.ensures.0 c.if-left-held.true,
)

pub returns-then-left-held : goal.returns-then-left-held
returns-then-left-held c = seek_found c.loop-end.invariant c.in-Some.ensures c.chords_in-held.ensures.0 c.if-left-held.true c.chord_at.ensures

pub loop-end-smaller : goal.loop-end-smaller
loop-end-smaller c = let s = c.in-Some.ensures in omega (arith, s.low, s.high)

pub loop-end-preserved : goal.loop-end-preserved
loop-end-preserved c = seek-next c.loop-end.invariant c.in-Some.ensures c.chords_in-held.ensures.0 (omega arith)

pub unreachable-requires : goal.unreachable-requires
unreachable-requires c = seek-ends c.loop-end.invariant c.in_default.ensures
