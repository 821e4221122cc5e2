-- `putting::put_row` meets its contract. Assumes nothing.
use Rattle.putting.proofs.Root.{row-can, row-image}
use Rattle.putting.proofs.put_row.Goals as goal

pub put_fields-requires : goal.put_fields-requires
put_fields-requires c = search row-can

pub returns : goal.returns
returns c = search row-image
