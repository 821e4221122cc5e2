-- `chart::lines::slots_on_line` meets its contract: what it answers is computed for each width. Assumes nothing.
use native.Mathlib.Omega.{arith}
use borrow.Author.Tests.{ne_eqb}
use Rattle.chart.proofs.Claiming.{slots-fill}
use Rattle.chart.proofs.lines.slots_on_line.Goals as goal

pub returns-in_default : goal.returns-in_default
returns-in_default c = let w = c.args.w in
    rw (ne_eqb w 8 (λ e. omega arith), ne_eqb w 4 (λ e. omega arith), ne_eqb w 2 (λ e. omega arith)) at (slots-fill w c.requires)
