-- `spelling::looks_spelled` meets its contract. Assumes nothing.
use Rattle.spelling.proofs.ByKind.{of-binary, of-string}
use Rattle.spelling.proofs.looks_spelled.Goals as goal

pub returns-then-k-ne-STRING : goal.returns-then-k-ne-STRING
returns-then-k-ne-STRING c e = of-binary c.requires.0 c.if-k-ne-STRING.true _

pub returns-else-k-ne-STRING : goal.returns-else-k-ne-STRING
returns-else-k-ne-STRING c e = of-string c.if-k-ne-STRING.false (c.is_short.ensures e)
