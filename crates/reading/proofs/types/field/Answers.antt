-- `reading::types::field` meets its contract. Assumes nothing.
use Rattle.reading.proofs.Opening.{field_in, field-stands, field-kin}
use Rattle.reading.proofs.types.field.Goals as goal

pub field_at-requires : goal.field_at-requires
field_at-requires c = field_in c.requires

pub open-requires : goal.open-requires
open-requires c = field-stands c.requires _ c.field_at.ensures

pub returns : goal.returns
returns c = field-kin c.requires _ c.field_at.ensures c.«open».ensures
