-- `lent::copy_table` meets its contract. Assumes nothing.
use Rattle.lent.proofs.Copying.{copy-short, copy-fits}
use Rattle.lent.proofs.copy_table.Goals as goal

pub returns-then-out-n : goal.returns-then-out-n
returns-then-out-n c = copy-short c.requires _ c.if-out-n.true

pub returns : goal.returns
returns c = copy-fits c.requires _ c.if-out-n.false c.copy_from_slice.ensures.after
