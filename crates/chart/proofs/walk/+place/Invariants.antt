-- `chart::walk::place` meets its contract: the measure is how many steps a path may still take; in the loop the children passed have made
-- their claims. Assumes nothing.
use mathlib.Core.Path.{◌≡◌}
use lib.ListN.{length, take, set}
use Rattle.chart.specs.Claims.{through}
use Rattle.chart.proofs.Walking.{beneath}
use Prim.Native.Nat.{ℕ, ◌-◌}
use Rattle.chart.proofs.walk.+place.Given as goal

abbrev pub decreases-place : goal.decreases-place
decreases-place l = 16 - l.path.len

abbrev pub invariant-loop-i : goal.invariant-loop-i
invariant-loop-i l = (length l.chart ≡ 36864) × (l.child.len ≡ l.initial.child.len) × ((j : ℕ) → set l.child.steps l.n j ≡ set l.initial.child.steps l.n j)
    × (l.chart ≡ through (beneath l.t l.row l.n (take l.n l.initial.child.steps)) l.i l.initial.chart)
