-- `chart::lines::slot_lines` meets its contract: in the loop the lines passed are claimed. Assumes nothing.
use mathlib.Core.Path.{◌≡◌}
use Prim.Native.Nat.{ℕ}
use lib.ListN.{length, take, set}
use Rattle.chart.specs.Claims.{claim_all, up_to, slot_line}
use Rattle.chart.proofs.lines.slot_lines.Given as goal

abbrev pub invariant-loop-j : goal.invariant-loop-j
invariant-loop-j l = (length l.chart ≡ 36864) × (l.child.len ≡ l.initial.child.len) × ((i : ℕ) → set l.child.steps l.n i ≡ set l.initial.child.steps l.n i)
    × (l.chart ≡ claim_all (up_to (slot_line l.line l.w l.size (take l.n l.initial.child.steps)) l.j) l.initial.chart)
