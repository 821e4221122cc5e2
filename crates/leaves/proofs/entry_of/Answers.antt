-- `leaves::entry_of` meets its contract. Assumes nothing.
use Rattle.leaves.proofs.Placing.{says-own, says-list}
use Rattle.leaves.proofs.entry_of.Goals as goal

pub returns-then-x-eq-LIST : goal.returns-then-x-eq-LIST
returns-then-x-eq-LIST c = says-list c.if-x-eq-LIST.true

pub returns : goal.returns
returns c = says-own c.requires c.if-x-eq-LIST.false
