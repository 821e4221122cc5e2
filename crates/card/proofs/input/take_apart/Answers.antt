-- `card::input::take_apart` meets its contract. Assumes nothing.
use Rattle.card.proofs.Apart.{no_length, too_short, long-enough}
use Rattle.card.proofs.input.take_apart.Goals as goal

pub returns-then-input-lt2 : goal.returns-then-input-lt2
returns-then-input-lt2 c = no_length _ c.if-input-lt2.true

pub returns-then-input-n : goal.returns-then-input-n
returns-then-input-n c = too_short _ _ c.get-n.ensures c.if-input-lt2.false c.if-input-n.true

pub returns : goal.returns
returns c = long-enough _ _ c.get-n.ensures c.if-input-lt2.false c.if-input-n.false
