-- `standing::unfit_item` meets its contract: before element i all stand, and the maps show them. Assumes nothing.
use mathlib.Core.Bool.{true}
use Rattle.standing.proofs.Passing.{Passed}
use Rattle.standing.proofs.unfit_item.Given as goal

abbrev pub invariant-loop-i : goal.invariant-loop-i
invariant-loop-i l = Passed 8 (λ _. true) l.b l.n l.slots l.start l.i l.map
