-- `chart::lines::padding` meets its contract. Assumes nothing.
use borrow.Author.Tests.{lt-ltb, le-ltb}
use Rattle.chart.proofs.lines.padding.Goals as goal

pub returns-then-size-j : goal.returns-then-size-j
returns-then-size-j c = rw (lt-ltb _ _ c.if-size-j.true)

pub returns-else-size-j : goal.returns-else-size-j
returns-else-size-j c = rw (le-ltb _ _ c.if-size-j.false)
