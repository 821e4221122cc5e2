-- `picture::padding` meets its contract. Assumes nothing.
use borrow.Author.Tests.{lt-ltb, le-ltb}
use Rattle.lettering.proofs.Putting.{puts_none}
use Rattle.picture.specs.Picture.{padding}
use Rattle.picture.proofs.padding.Goals as goal

pub returns-then-w-lt8 : goal.returns-then-w-lt8
unfolding padding
returns-then-w-lt8 c = rw (lt-ltb _ 8 c.if-w-lt8.true) (puts_none _ _)

pub returns : goal.returns
unfolding padding
returns c = rw (le-ltb _ 8 c.if-w-lt8.false) c.put.ensures
