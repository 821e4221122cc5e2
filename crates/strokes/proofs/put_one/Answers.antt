-- `strokes::put_one` meets its contract. Assumes nothing.
use Rattle.strokes.proofs.put_one.Goals as goal

pub returns : goal.returns
returns c = rw c.fill_one.ensures at c.put_frame.ensures
