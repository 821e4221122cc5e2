-- `reading::types::element` meets its contract. Assumes nothing.
use Rattle.reading.proofs.Opening.{element-stands, element-kin}
use Rattle.reading.proofs.types.element.Goals as goal

pub open-requires : goal.open-requires
open-requires c = element-stands c.requires

pub returns : goal.returns
returns c = element-kin c.requires c.«open».ensures
