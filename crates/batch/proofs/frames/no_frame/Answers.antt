-- `batch::frames::no_frame` meets its contract. Assumes nothing.
use borrow.Author.Tests.{eq-eqb, ne_eqb}
use Rattle.batch.proofs.frames.no_frame.Goals as goal

pub returns-then-at-b : goal.returns-then-at-b
returns-then-at-b c = rw (eq-eqb _ _ c.if-at-b.true)

pub returns-else-at-b : goal.returns-else-at-b
returns-else-at-b c = rw (ne_eqb _ _ c.if-at-b.false)
