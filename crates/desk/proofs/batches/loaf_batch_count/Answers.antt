-- `desk::batches::loaf_batch_count` meets its contract. Assumes nothing.
use Rattle.codes.proofs.Answered.{count-known, count-as}
use Rattle.desk.proofs.batches.loaf_batch_count.Goals as goal

pub counted-requires : goal.counted-requires
counted-requires c = count-known _ c.count.ensures

pub returns : goal.returns
returns c = count-as c.count.ensures c.counted.ensures
