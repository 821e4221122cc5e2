-- `desk::tables::loaf_batch_read_by` meets its contract. Assumes nothing.
use Rattle.codes.proofs.Answered.{read-in-known, read-in-as}
use Rattle.desk.proofs.tables.loaf_batch_read_by.Goals as goal

pub put_answer-requires : goal.put_answer-requires
put_answer-requires c = read-in-known _ _ _ _ c.read_by.ensures

pub returns : goal.returns
returns c = read-in-as c.path_of.ensures _ _ _ c.read_by.ensures c.put_answer.ensures
