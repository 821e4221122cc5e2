-- `words::pairs::low` meets its contract. Assumes nothing.
use Rattle.words.specs.Pairs.{low_in}
use Rattle.words.proofs.pairs.low.Goals as goal

pub returns : goal.returns
unfolding low_in
returns c = c.slot_size.ensures
