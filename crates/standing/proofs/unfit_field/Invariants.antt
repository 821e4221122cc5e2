-- `standing::unfit_field` meets its contract: before field i all stand, and the maps show them. Assumes nothing.
use Rattle.standing.proofs.Tabled.{FieldsPassed}
use Rattle.standing.proofs.unfit_field.Given as goal

abbrev pub invariant-loop-i : goal.invariant-loop-i
invariant-loop-i l = FieldsPassed l.t l.first l.depth l.n l.b l.slots l.start l.at l.i l.map
