-- `strokes::put_frame` meets its contract. Assumes nothing.
use Rattle.strokes.proofs.Adding.{frame-put}
use Rattle.strokes.proofs.put_frame.Goals as goal

pub returns : goal.returns
returns c = rw c.or.ensures (frame-put _ c.put_row.ensures)
