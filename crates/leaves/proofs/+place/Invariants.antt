-- `leaves::place` meets its contract: the measure is how many steps a path may still take; in the loop the texts of the children
-- passed stand one behind the other. Assumes nothing.
use Rattle.table.specs.Tables.{schema_of}
use Rattle.leaves.proofs.Walking.{Children}
use Prim.Native.Nat.{◌-◌}
use Rattle.leaves.proofs.+place.Given as goal

abbrev pub decreases-place : goal.decreases-place
decreases-place g l = 16 - l.path.len

abbrev pub invariant-loop-i : goal.invariant-loop-i
invariant-loop-i g l = Children (schema_of l.t) l.row l.n l.count l.initial.child l.initial.out l.initial.next l.child l.out l.next l.i
