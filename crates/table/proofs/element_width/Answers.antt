-- A slot's 8 where the type's bytes vary. Assumes nothing.
use Rattle.table.proofs.Decode.{element-fixed, element-varies}
use Rattle.table.proofs.element_width.Goals as goal

pub returns-then-place-lt-STRING : goal.returns-then-place-lt-STRING
returns-then-place-lt-STRING c = element-fixed c.requires c.place.ensures c.if-place-lt-STRING.true c.width.ensures

pub returns-else-place-lt-STRING : goal.returns-else-place-lt-STRING
returns-else-place-lt-STRING c = element-varies c.requires c.place.ensures c.if-place-lt-STRING.false
