-- `table::rooms::with_out` meets its contract. Assumes nothing.
use Rattle.std.proofs.Common.{rules, refl}
use Rattle.schema.proofs.Judging.{judged-long}
use Rattle.table.proofs.rooms.with_out.Goals as goal

pub returns-in_default-clause-refused : goal.returns-in_default-clause-refused
returns-in_default-clause-refused g c _ = (search (rules, judged-long), refl)
