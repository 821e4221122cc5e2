-- `chart::lines::byte_lines` meets its contract: in the loop the lines passed are claimed. Assumes nothing.
use mathlib.Core.Path.{◌≡◌}
use lib.ListN.{length}
use Rattle.answers.specs.Paths.{path_of}
use Rattle.chart.specs.Claims.{claim_all, up_to, byte_line}
use Rattle.chart.proofs.lines.byte_lines.Given as goal

abbrev pub invariant-loop-j : goal.invariant-loop-j
invariant-loop-j l = (length l.chart ≡ 36864)
    × (l.chart ≡ claim_all (up_to (byte_line l.line l.size l.what (path_of l.path)) l.j) l.initial.chart)
