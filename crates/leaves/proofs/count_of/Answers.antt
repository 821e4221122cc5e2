-- `leaves::count_of` meets its contract. Assumes nothing.
use Rattle.leaves.proofs.Placing.{count_none, count-some}
use Rattle.leaves.proofs.count_of.Goals as goal

pub returns-in-Container : goal.returns-in-Container
returns-in-Container c = count-some c.args.x _ _ _ c.in-Container.is

pub returns-in_default : goal.returns-in_default
returns-in_default c = count_none c.args.x c.in_default.not-Container
