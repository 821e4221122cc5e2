-- `chart::lines::byte_lines` meets its contract: in the loop the lines passed are claimed. Assumes nothing.
use mathlib.Core.Path.{sym, ◌∙◌}
use native.Mathlib.Omega.{arith}
use Rattle.chart.specs.Claims.{byte_lines}
use Rattle.chart.proofs.Claiming.{turn-none, turn, turn-all, padding-few, byte-turn}
use Rattle.chart.proofs.lines.byte_lines.Goals as goal

pub overflow_add-lines : goal.overflow_add-lines
overflow_add-lines c = omega (arith, c.requires.within)

pub loop-j-init : goal.loop-j-init
loop-j-init c = (c.requires.long, turn-none _ _)

pub overflow_add-line : goal.overflow_add-line
overflow_add-line c = omega (arith, c.requires.within)

pub padding-requires : goal.padding-requires
padding-requires c = omega (arith, c.requires.within)

pub overflow_add-what : goal.overflow_add-what
overflow_add-what c = let g = c.requires in
    let a = c.args in
    let l = c.loop-j in
    omega (arith, g.known, c.padding.ensures, padding-few a.size l.j)

pub claim-requires : goal.claim-requires
claim-requires c = let l = c.loop-j in
    let g = c.requires in
    record { long = l.invariant.0; within = omega (arith, g.within); neat = g.neat }

pub loop-j-preserved : goal.loop-j-preserved
loop-j-preserved c = let claim = c.claim in
    let l = c.loop-j in
    let padding = c.padding in
    (claim.auto.chart ∙ l.invariant.0, turn _ _ _ l.invariant.1 (byte-turn _ _ _ _ _ padding.ensures _ _ claim.ensures))

pub shape_of-chart : goal.shape_of-chart
shape_of-chart c = c.loop-j.invariant.0 ∙ sym c.requires.long

pub returns : goal.returns
unfolding byte_lines
returns c = turn-all _ _ c.loop-j.j _ c.loop-j.invariant.1 (omega arith) (omega arith)
