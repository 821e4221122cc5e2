-- `words::slots::slot` meets its contract, by the law of a shift and an or. Assumes nothing.
use lib.Dec.{lit≤}
use Rattle.words.proofs.Turns.{shl-or}
use Rattle.words.proofs.slots.slot.Goals as goal

pub returns : goal.returns
returns c = shl-or 32 32 64 c.requires.0 c.requires.1 (lit≤ tt)
