-- `card::batches::rows_text` meets its contract: the frames passed so far are the first of the batch, and the text of their rows stands.
-- Assumes nothing.
use Prim.Native.Nat.{◌-◌}
use lib.ListN.{length}
use Rattle.table.specs.Tables.{schema_of}
use Rattle.batch.specs.Places.{Passed}
use Rattle.card.proofs.Turns.{Written}
use Rattle.card.proofs.batches.rows_text.Given as goal

abbrev pub invariant-loop-end : goal.invariant-loop-end
invariant-loop-end g l = Passed l.b l.at l.n × Written (schema_of l.t) l.b l.initial.out l.n l.used l.out

abbrev pub decreases-loop-end : goal.decreases-loop-end
decreases-loop-end g l = length l.b - l.at
