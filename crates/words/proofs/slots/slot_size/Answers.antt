-- `words::slots::slot_size` meets its contract, by the law of a mask. Assumes nothing.
use Rattle.words.proofs.Powers.{mask_is}
use Rattle.words.proofs.slots.slot_size.Goals as goal

pub returns : goal.returns
returns c = mask_is c.args.x 32
