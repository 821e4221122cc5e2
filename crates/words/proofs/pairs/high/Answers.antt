-- `words::pairs::high` meets its contract. Assumes nothing.
use Rattle.words.specs.Pairs.{high_in}
use Rattle.words.proofs.pairs.high.Goals as goal

pub returns : goal.returns
unfolding high_in
returns c = c.slot_offset.ensures
