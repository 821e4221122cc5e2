-- `chart::lines::is_taken` meets its contract. Assumes nothing.
use borrow.Author.Tests.{le-ltb}
use Rattle.chart.proofs.Claiming.{past-free}
use Rattle.chart.proofs.lines.is_taken.Goals as goal

pub returns-else-line-lt2048 : goal.returns-else-line-lt2048
returns-else-line-lt2048 c = rw (le-ltb _ _ c.if-line-lt2048.false) (past-free c.args.chart.now _ c.requires.0 c.if-line-lt2048.false)
