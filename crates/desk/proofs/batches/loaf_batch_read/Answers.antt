-- `desk::batches::loaf_batch_read` meets its contract. Assumes nothing.
use Rattle.codes.proofs.Answered.{read-in-known, read-in-as}
use Rattle.desk.proofs.batches.loaf_batch_read.Goals as goal

pub put_answer-requires : goal.put_answer-requires
put_answer-requires c = read-in-known _ _ _ _ c.read.ensures

pub returns : goal.returns
returns c = read-in-as c.path_of.ensures _ _ _ c.read.ensures c.put_answer.ensures
