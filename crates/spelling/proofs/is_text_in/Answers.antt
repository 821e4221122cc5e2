-- `spelling::is_text_in` meets its contract. Assumes nothing.
use Rattle.spelling.proofs.ByKind.{of-text}
use Rattle.spelling.proofs.is_text_in.Goals as goal

pub returns-else-is_short : goal.returns-else-is_short
returns-else-is_short c = of-text c.is_text.ensures
