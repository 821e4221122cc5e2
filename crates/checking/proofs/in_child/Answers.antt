-- `checking::in_child` meets its contract. Assumes nothing.
use Rattle.checking.proofs.Tests.{child-slot, child-byte}
use Rattle.checking.proofs.in_child.Goals as goal

pub returns-then-r-eq1 : goal.returns-then-r-eq1
returns-then-r-eq1 c = search child-slot

pub returns : goal.returns
returns c = search child-byte
