-- `desk::tables::loaf_batch_append_by` meets its contract. Assumes nothing.
use Rattle.codes.proofs.Answered.{append-known, append-as}
use Rattle.desk.proofs.tables.loaf_batch_append_by.Goals as goal

pub appended-requires : goal.appended-requires
appended-requires c = append-known _ _ _ _ c.append_by.ensures.answers

pub returns : goal.returns
returns c = append-as c.append_by.ensures c.appended.ensures
