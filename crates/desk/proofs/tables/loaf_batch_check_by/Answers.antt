-- `desk::tables::loaf_batch_check_by` meets its contract. Assumes nothing.
use Rattle.codes.proofs.Answered.{rows-known, rows_as}
use Rattle.desk.proofs.tables.loaf_batch_check_by.Goals as goal

pub checked-requires : goal.checked-requires
checked-requires c = rows-known _ _ c.check_by.ensures

pub returns : goal.returns
returns c = rows_as c.check_by.ensures c.checked.ensures
