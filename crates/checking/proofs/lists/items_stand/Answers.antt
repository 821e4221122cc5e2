-- `checking::lists::items_stand` meets its contract. Assumes nothing.
use mathlib.Core.Path.{refl}
use Rattle.checking.proofs.lists.items_stand.Goals as goal

pub returns-then-done-eq0 : goal.returns-then-done-eq0
returns-then-done-eq0 c = record { fresh = λ _. c.unfit_item.ensures; kept = λ ne. absurd (ne c.if-done-eq0.true) }

pub returns : goal.returns
returns c = record { fresh = λ e. absurd (c.if-done-eq0.false e); kept = λ _. refl }
