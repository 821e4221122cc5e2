-- `strokes::put_chords` meets its contract: the chords of the rows that were passed stand at the start. Assumes nothing.
use Rattle.std.proofs.Common.{◌-◌, length}
use Rattle.strokes.proofs.Walks.{Putting}
use Rattle.strokes.proofs.put_chords.Given as goal

abbrev pub invariant-loop-end : goal.invariant-loop-end
invariant-loop-end l = Putting l.log l.initial.out l.out l.at l.i

abbrev pub decreases-loop-end : goal.decreases-loop-end
decreases-loop-end l = length l.log - l.at
