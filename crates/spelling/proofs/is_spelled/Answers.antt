-- `spelling::is_spelled` meets its contract. Assumes nothing.
use Rattle.spelling.proofs.ByKind.{no-string, of-string}
use Rattle.spelling.proofs.is_spelled.Goals as goal

pub returns-then-k-ne-STRING : goal.returns-then-k-ne-STRING
returns-then-k-ne-STRING c = no-string c.requires.0 c.if-k-ne-STRING.true _

pub returns-else-k-ne-STRING : goal.returns-else-k-ne-STRING
returns-else-k-ne-STRING c = of-string c.if-k-ne-STRING.false c.is_text_at.ensures
