-- `compare::gives` meets its contract: what is left to compare leads to what is said of the whole. Assumes nothing.
use Rattle.std.proofs.Common.{◌-◌, length}
use Rattle.compare.proofs.Following.{Follows, Faces}
use Rattle.compare.proofs.gives.Given as goal

abbrev pub invariant-loop-n : goal.invariant-loop-n
invariant-loop-n l = Follows l.s l.t l.frames l.d l.i l.extra l.n l.base l.left

abbrev pub decreases-loop-n : goal.decreases-loop-n
decreases-loop-n l = l.d

abbrev pub invariant-loop-lines : goal.invariant-loop-lines
invariant-loop-lines l = Faces l.s l.t l.frames l.d l.i l.extra l.n l.base l.left

abbrev pub decreases-loop-lines : goal.decreases-loop-lines
decreases-loop-lines l = length l.t - l.i
