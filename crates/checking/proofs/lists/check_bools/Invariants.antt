-- `checking::lists::check_bools` meets its contract: before element i, what is left leads to the same end. Assumes nothing.
use Rattle.checking.proofs.Leaves.{BoolsAt}
use Rattle.checking.proofs.lists.check_bools.Given as goal

abbrev pub invariant-loop-i : goal.invariant-loop-i
invariant-loop-i l = BoolsAt l.b l.n l.slots l.start l.i
