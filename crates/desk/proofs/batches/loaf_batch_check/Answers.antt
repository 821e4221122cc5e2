-- `desk::batches::loaf_batch_check` meets its contract. Assumes nothing.
use Rattle.codes.proofs.Answered.{rows-known, rows_as}
use Rattle.desk.proofs.batches.loaf_batch_check.Goals as goal

pub checked-requires : goal.checked-requires
checked-requires c = rows-known _ _ c.check.ensures

pub returns : goal.returns
returns c = rows_as c.check.ensures c.checked.ensures
