-- `batch::count` meets its contract. Assumes nothing.
use Rattle.batch.proofs.Passing.{passed_start}
use Rattle.batch.proofs.count.Goals as goal

pub count_on-requires : goal.count_on-requires
count_on-requires c = passed_start c.args.batch.now
