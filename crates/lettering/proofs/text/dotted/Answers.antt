-- `lettering::text::dotted` meets its contract. Assumes nothing.
use Rattle.lettering.proofs.Putting.{puts_then}
use Rattle.lettering.proofs.text.dotted.Goals as goal

pub returns : goal.returns
returns c = puts_then c.byte-next.ensures c.decimal.ensures
