-- `batch::after_schema` meets its contract. Assumes nothing.
use Rattle.batch.proofs.Orders.{judged-yes, judged-no}
use Rattle.batch.proofs.after_schema.Goals as goal

pub returns-in-Ok : goal.returns-in-Ok
returns-in-Ok c = rw (judged-yes c.args.schema.now c.in-Ok.ensures)

pub returns-in-Err : goal.returns-in-Err
returns-in-Err c = rw (judged-no c.args.schema.now _ c.in-Err.ensures)
