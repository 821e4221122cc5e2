-- `strokes::judge_log` meets its contract: the rows that were passed are as a log may have them. Assumes nothing.
use Rattle.std.proofs.Common.{◌-◌, length}
use Rattle.strokes.proofs.Logs.{Walked}
use Rattle.strokes.proofs.judge_log.Given as goal

abbrev pub invariant-loop-at : goal.invariant-loop-at
invariant-loop-at l = Walked l.log l.at l.n l.last l.count

abbrev pub decreases-loop-at : goal.decreases-loop-at
decreases-loop-at l = length l.log - l.at
