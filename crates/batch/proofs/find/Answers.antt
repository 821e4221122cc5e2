-- `batch::find` meets its contract. Assumes nothing.
use Rattle.std.proofs.Common.{refl}
use Rattle.batch.specs.Places.{no_row, a_row}
use Rattle.batch.proofs.Passing.{found_at}
use Rattle.batch.proofs.find.Goals as goal

pub returns-in-Ok : goal.returns-in-Ok
returns-in-Ok c = a_row (found_at refl c.in-Ok.ensures)

pub returns-in-Err : goal.returns-in-Err
returns-in-Err c = rw c.after_schema.ensures (no_row c.in-Err.ensures)
