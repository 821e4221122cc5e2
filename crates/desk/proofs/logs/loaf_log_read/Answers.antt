-- `desk::logs::loaf_log_read` meets its contract. Assumes nothing.
use Rattle.codes.proofs.Answered.{all_known, all-as}
use Rattle.desk.proofs.logs.loaf_log_read.Goals as goal

pub appended-requires : goal.appended-requires
appended-requires c = all_known _ _ c.read.ensures.answers

pub returns : goal.returns
returns c = all-as c.read.ensures c.appended.ensures
