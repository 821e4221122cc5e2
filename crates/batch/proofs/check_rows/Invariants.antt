-- `batch::check_rows` meets its contract: the rows before row n are in order. Assumes nothing.
use Prim.Native.Nat.{◌-◌}
use lib.ListN.{length}
use Rattle.table.specs.Tables.{schema_of}
use Rattle.batch.specs.Places.{Passed}
use Rattle.batch.proofs.InTurn.{InOrder}
use Rattle.batch.proofs.check_rows.Given as goal

abbrev pub invariant-loop-at : goal.invariant-loop-at
invariant-loop-at l = Passed l.batch l.at l.n × InOrder (schema_of l.t) l.batch l.n

abbrev pub decreases-loop-at : goal.decreases-loop-at
decreases-loop-at l = length l.batch - l.at
