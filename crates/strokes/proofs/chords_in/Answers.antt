-- `strokes::chords_in` meets its contract. Assumes nothing.
use Rattle.strokes.proofs.Logs.{has_one, has-two}
use Rattle.std.proofs.Common.{length, sym, ap, arith}
use Rattle.strokes.proofs.chords_in.Goals as goal

pub returns-then-is_single : goal.returns-then-is_single
returns-then-is_single c = (sym (ap length (has_one _ c.is_single.ensures c.if-is_single.true)), omega arith)

pub returns-else-is_single : goal.returns-else-is_single
returns-else-is_single c = (sym (ap length (has-two _ c.is_single.ensures c.if-is_single.false)), omega arith)
