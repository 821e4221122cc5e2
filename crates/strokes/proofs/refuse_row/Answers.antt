-- `strokes::refuse_row` meets its contract. Assumes nothing.
use Rattle.batch.proofs.Passing.{count-whole, count_none}
use Rattle.strokes.proofs.Logs.{log-broken, row-refused}
use Rattle.strokes.proofs.refuse_row.Goals as goal

pub returns-in-Ok : goal.returns-in-Ok
returns-in-Ok c = row-refused c.requires (count-whole _ c.in-Ok.ensures).is

pub returns-in-Err : goal.returns-in-Err
returns-in-Err c = log-broken (count_none _ c.in-Err.ensures).is
