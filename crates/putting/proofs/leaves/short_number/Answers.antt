-- `putting::leaves::short_number` meets its contract. Assumes nothing.
use Rattle.putting.proofs.Slots.{short-reads}
use Rattle.putting.proofs.leaves.short_number.Goals as goal

pub returns : goal.returns
returns c = search short-reads
