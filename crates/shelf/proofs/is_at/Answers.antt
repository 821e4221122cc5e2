-- `shelf::is_at` meets its contract. Assumes nothing.
use Rattle.shelf.proofs.Compared.{compared}
use Rattle.shelf.proofs.is_at.Goals as goal

pub returns : goal.returns
returns c = compared c.size_at.ensures c.args.s.now c.eq.ensures
