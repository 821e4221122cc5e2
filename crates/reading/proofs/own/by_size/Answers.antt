-- `reading::own::by_size` meets its contract. Assumes nothing.
use Rattle.reading.proofs.Rules.{size_few, size-enough}
use Rattle.reading.proofs.own.by_size.Goals as goal

pub returns-then-size-lt8 : goal.returns-then-size-lt8
returns-then-size-lt8 c = size_few _ _ _ c.if-size-lt8.true

pub returns-else-size-lt8 : goal.returns-else-size-lt8
returns-else-size-lt8 c = size-enough _ _ _ c.if-size-lt8.false
