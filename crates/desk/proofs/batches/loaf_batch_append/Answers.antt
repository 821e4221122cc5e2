-- `desk::batches::loaf_batch_append` meets its contract. Assumes nothing.
use Rattle.codes.proofs.Answered.{append-known, append-as}
use Rattle.desk.proofs.batches.loaf_batch_append.Goals as goal

pub appended-requires : goal.appended-requires
appended-requires c = append-known _ _ _ _ c.append.ensures.answers

pub returns : goal.returns
returns c = append-as c.append.ensures c.appended.ensures
