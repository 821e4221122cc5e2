-- `reading::walk::refused` meets its contract. Assumes nothing.
use Rattle.reading.proofs.OnPath.{or-found, or-none}
use Rattle.reading.proofs.walk.refused.Goals as goal

pub returns-then-is_place : goal.returns-then-is_place
returns-then-is_place c = or-found _ c.is_place.ensures c.if-is_place.true

pub returns : goal.returns
returns c = or-none _ c.is_place.ensures c.if-is_place.false
