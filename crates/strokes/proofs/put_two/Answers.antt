-- `strokes::put_two` meets its contract. Assumes nothing.
use Rattle.strokes.proofs.put_two.Goals as goal

pub returns : goal.returns
returns c = rw c.fill_two.ensures at c.put_frame.ensures
