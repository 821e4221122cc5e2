-- `lettering::text::decimal` meets its contract. Assumes nothing.
use Rattle.lettering.proofs.Putting.{decimal-whole}
use Rattle.lettering.proofs.text.decimal.Goals as goal

pub returns : goal.returns
returns c = decimal-whole _ c.decimal_in.ensures
