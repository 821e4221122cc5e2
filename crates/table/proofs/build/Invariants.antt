-- `table::build` meets its contract: the invariant says what the fields left at each depth lead to. Assumes nothing.
use Rattle.std.proofs.Common.{◌≡◌, ◌-◌, length}
use Rattle.table.proofs.Building.{Going, Looking}
use Rattle.table.proofs.build.Given as goal

abbrev pub invariant-loop-n : goal.invariant-loop-n
invariant-loop-n l = Going l.s l.t l.frames l.d l.at l.i l.n l.base × (length l.t ≡ length l.initial.t)

abbrev pub decreases-loop-n : goal.decreases-loop-n
decreases-loop-n l = l.d

abbrev pub invariant-loop-at : goal.invariant-loop-at
invariant-loop-at l = Looking l.s l.t l.frames l.d l.at l.i l.n l.base × (length l.t ≡ length l.initial.t)

abbrev pub decreases-loop-at : goal.decreases-loop-at
decreases-loop-at l = length l.s - l.at
