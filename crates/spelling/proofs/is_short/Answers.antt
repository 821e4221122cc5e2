-- `spelling::is_short` meets its contract. Assumes nothing.
use Rattle.spelling.proofs.ByKind.{by-padding}
use Rattle.spelling.proofs.is_short.Goals as goal

pub returns-then-next-at-le8 : goal.returns-then-next-at-le8
returns-then-next-at-le8 c e = by-padding c.requires c.if-next-at-le8.true (c.ascii8.ensures e)
