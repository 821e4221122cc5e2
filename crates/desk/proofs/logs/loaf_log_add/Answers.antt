-- `desk::logs::loaf_log_add` meets its contract. Assumes nothing.
use Rattle.codes.proofs.Answered.{add-known, add-as}
use Rattle.desk.proofs.logs.loaf_log_add.Goals as goal

pub appended-requires : goal.appended-requires
appended-requires c = add-known _ _ _ _ c.add.ensures.answers

pub returns : goal.returns
returns c = add-as c.add.ensures c.appended.ensures
