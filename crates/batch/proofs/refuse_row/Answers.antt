-- `batch::refuse_row` meets its contract: the frames behind the row decide. Assumes nothing.
use Rattle.std.proofs.Common.{arith}
use Rattle.batch.proofs.Passing.{passed-few, count-whole, count_none}
use Rattle.batch.proofs.refuse_row.Goals as goal

pub overflow_add-n : goal.overflow_add-n
overflow_add-n c = omega (arith, passed-few c.requires, c.requires.high)

pub returns-in-Ok : goal.returns-in-Ok
returns-in-Ok c = let w = count-whole _ c.in-Ok.ensures in rw w.is

pub returns-in-Err : goal.returns-in-Err
returns-in-Err c = let w = count_none _ c.in-Err.ensures in rw w.is
