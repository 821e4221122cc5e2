-- `reading::types::array` meets its contract. Assumes nothing.
use Rattle.reading.proofs.Opening.{keys-stand, array-kin}
use Rattle.reading.proofs.types.array.Goals as goal

pub either-requires : goal.either-requires
either-requires c = keys-stand c.requires

pub returns : goal.returns
returns c = array-kin c.requires _ c.either.ensures
