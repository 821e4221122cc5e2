-- `checking::fields_stand` meets its contract. Assumes nothing.
use mathlib.Core.Path.{refl}
use Rattle.checking.proofs.Loops.{headless}
use Rattle.checking.proofs.fields_stand.Goals as goal

pub returns-then-done-eq0 : goal.returns-then-done-eq0
returns-then-done-eq0 c = record { fresh = λ _. headless c.unfit_field.ensures; kept = λ ne. absurd (ne c.if-done-eq0.true) }

pub returns : goal.returns
returns c = record { fresh = λ e. absurd (c.if-done-eq0.false e); kept = λ _. refl }
