-- `desk::loaf_read` meets its contract. Assumes nothing.
use Rattle.codes.proofs.Answered.{read_known, read_as}
use Rattle.desk.proofs.loaf_read.Goals as goal

pub put_answer-requires : goal.put_answer-requires
put_answer-requires c = read_known _ _ _ c.read.ensures

pub returns : goal.returns
returns c = read_as c.path_of.ensures _ _ c.read.ensures c.put_answer.ensures
