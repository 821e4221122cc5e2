-- `checking::is_plain` meets its contract: its loop is that of check_fields as long as nothing is out of order. Assumes nothing.
use Rattle.checking.proofs.Plain.{PlainAt}
use Rattle.checking.proofs.is_plain.Given as goal

abbrev pub invariant-loop-i : goal.invariant-loop-i
invariant-loop-i l = PlainAt l.t l.first l.depth l.n l.b l.nulls l.i l.cur
