-- `reading::walk::along` meets its contract. Assumes nothing.
use Rattle.std.proofs.Common.{◌-◌}
use Rattle.reading.proofs.OnPath.{OnWalk}
use Rattle.reading.proofs.walk.along.Given as goal

abbrev pub invariant-loop-place : goal.invariant-loop-place
invariant-loop-place l = OnWalk l.t l.row l.path l.initial.at l.at l.k

abbrev pub decreases-loop-place : goal.decreases-loop-place
decreases-loop-place l = l.n - l.k
