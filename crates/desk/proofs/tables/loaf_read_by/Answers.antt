-- `desk::tables::loaf_read_by` meets its contract. Assumes nothing.
use Rattle.codes.proofs.Answered.{read_known, read_as}
use Rattle.desk.proofs.tables.loaf_read_by.Goals as goal

pub put_answer-requires : goal.put_answer-requires
put_answer-requires c = read_known _ _ _ c.read_by.ensures

pub returns : goal.returns
returns c = read_as c.path_of.ensures _ _ c.read_by.ensures c.put_answer.ensures
