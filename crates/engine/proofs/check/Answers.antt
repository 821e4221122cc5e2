-- `engine::check` meets its contract. Assumes nothing.
use Rattle.engine.proofs.Orders.{check-long, check-good, check-bad}
use Rattle.engine.proofs.check.Goals as goal

pub returns-then-row-gt16384 : goal.returns-then-row-gt16384
returns-then-row-gt16384 c = search check-long

pub returns-in-None : goal.returns-in-None
returns-in-None c = search check-good

pub returns-in-Some : goal.returns-in-Some
returns-in-Some c = search check-bad
