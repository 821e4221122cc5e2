-- `desk::batches::loaf_batch_fetch` meets its contract. Assumes nothing.
use Rattle.codes.proofs.Answered.{fetch-known, fetch-as}
use Rattle.desk.proofs.batches.loaf_batch_fetch.Goals as goal

pub fetched-requires : goal.fetched-requires
fetched-requires c = fetch-known _ _ _ c.fetch.ensures

pub returns : goal.returns
returns c = fetch-as c.fetch.ensures c.fetched.ensures
