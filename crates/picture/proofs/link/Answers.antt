-- `picture::link` meets its contract. Assumes nothing.
use borrow.Author.Tests.{eq-eqb, ne_eqb}
use Rattle.picture.specs.Picture.{link}
use Rattle.picture.proofs.link.Goals as goal

pub returns-then-w-eq5 : goal.returns-then-w-eq5
unfolding link
returns-then-w-eq5 c = rw (eq-eqb _ 5 c.if-w-eq5.true) c.put.ensures

pub returns : goal.returns
unfolding link
returns c = rw (ne_eqb _ 5 c.if-w-eq5.false) c.put-2.ensures
