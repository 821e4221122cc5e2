-- `chart::lines::claim` meets its contract. Assumes nothing.
use Prim.Native.Nat.{◌*◌}
use native.Mathlib.Omega.{arith}
use lib.ListN.{length-set}
use Rattle.chart.proofs.Claiming.{claim-taken, claim-made, steps-stored, neat-long}
use Rattle.chart.proofs.lines.claim.Goals as goal

pub overflow_mul-at : goal.overflow_mul-at
overflow_mul-at c = omega (arith, c.requires.within)

pub bounds-chart-at : goal.bounds-chart-at
bounds-chart-at c = omega (arith, c.requires.within, c.requires.long)

pub returns-then-chart-at-ne0 : goal.returns-then-chart-at-ne0
returns-then-chart-at-ne0 c = claim-taken _ _ _ c.args.path c.if-chart-at-ne0.true

pub bounds-chart-at-2 : goal.bounds-chart-at-2
bounds-chart-at-2 c = omega (arith, c.requires.within, c.requires.long)

pub overflow_cast-chart : goal.overflow_cast-chart
overflow_cast-chart c = record { fits = omega (arith, c.requires.neat.few) }

pub overflow_add-chart : goal.overflow_add-chart
overflow_add-chart c = omega (arith, c.requires.within)

pub returns : goal.returns
returns c = let a = c.args in
    let g = c.requires in
    claim-made _ _ _ a.path g.neat c.if-chart-at-ne0.false _
    (steps-stored _ _ _ (18 * a.line) c.copy_from_slice.ensures.after (neat-long a.path g.neat) (simp length-set (omega (arith, g.within, g.long))))
