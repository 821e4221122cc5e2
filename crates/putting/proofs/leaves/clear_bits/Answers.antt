-- `putting::leaves::clear_bits` meets its contract. Assumes nothing.
use Rattle.putting.proofs.Slots.{clear-one, clear-two}
use Rattle.putting.proofs.leaves.clear_bits.Goals as goal

pub returns-then-n-gt64 : goal.returns-then-n-gt64
returns-then-n-gt64 c = search clear-two

pub returns-else-n-gt64 : goal.returns-else-n-gt64
returns-else-n-gt64 c = search clear-one
