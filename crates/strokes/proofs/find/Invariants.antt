-- `strokes::find` meets its contract: the rows that were passed have too few chords. Assumes nothing.
use Rattle.std.proofs.Common.{◌-◌, length}
use Rattle.strokes.proofs.Walks.{Seeking}
use Rattle.strokes.proofs.find.Given as goal

abbrev pub invariant-loop-end : goal.invariant-loop-end
invariant-loop-end l = Seeking l.log l.n l.at l.left

abbrev pub decreases-loop-end : goal.decreases-loop-end
decreases-loop-end l = length l.log - l.at
