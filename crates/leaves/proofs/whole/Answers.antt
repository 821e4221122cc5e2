-- `leaves::whole` meets its contract. Assumes nothing.
use mathlib.Core.Path.{refl}
use Rattle.std.proofs.lemmas.Result.{IfOk-weaker}
use Rattle.leaves.proofs.Walking.{root-fits, walked-root}
use Rattle.leaves.proofs.whole.Goals as goal

pub returns-clause-walked : goal.returns-clause-walked
returns-clause-walked g c = IfOk-weaker c.place.result _ _ (λ r W. walked-root _ _ _ refl refl W) c.place.ensures.walked

pub returns-clause-held : goal.returns-clause-held
returns-clause-held g c l = c.place.ensures.held (root-fits _ _ c.args.used _ refl refl l)
