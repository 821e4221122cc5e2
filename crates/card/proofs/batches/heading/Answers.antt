-- `card::batches::heading` meets its contract. Assumes nothing.
use Rattle.card.specs.Rows.{heading}
use Rattle.card.proofs.batches.heading.Goals as goal

pub returns : goal.returns
unfolding heading
returns c = c.numbered.ensures
