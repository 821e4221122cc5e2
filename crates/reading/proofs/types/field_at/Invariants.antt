-- `reading::types::field_at` meets its contract. Assumes nothing.
use Rattle.reading.proofs.Opening.{FieldWay}
use Rattle.reading.proofs.types.field_at.Given as goal

abbrev pub invariant-loop-j : goal.invariant-loop-j
invariant-loop-j l = FieldWay l.t l.first l.i l.c l.j
