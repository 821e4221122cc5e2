-- `chart::lines::slot_word` meets its contract. Assumes nothing.
use borrow.Author.Tests.{eq-eqb, ne_eqb}
use Rattle.chart.proofs.lines.slot_word.Goals as goal

pub returns-then-w-eq8 : goal.returns-then-w-eq8
returns-then-w-eq8 c = rw (eq-eqb _ _ c.if-w-eq8.true)

pub returns-else-w-eq8 : goal.returns-else-w-eq8
returns-else-w-eq8 c = rw (ne_eqb _ _ c.if-w-eq8.false)
