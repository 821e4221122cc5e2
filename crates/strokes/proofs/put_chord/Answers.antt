-- `strokes::put_chord` meets its contract. Assumes nothing.
use Rattle.std.proofs.Common.{arith, length-set}
use Rattle.strokes.proofs.Listed.{chord-put}
use Rattle.strokes.proofs.put_chord.Goals as goal

pub bounds-out-i-2 : goal.bounds-out-i-2
bounds-out-i-2 c = simp length-set (omega arith)

pub returns : goal.returns
returns c = chord-put _ _ _
