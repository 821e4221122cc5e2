-- `desk::tables::loaf_batch_fetch_by` meets its contract. Assumes nothing.
use Rattle.codes.proofs.Answered.{fetch-known, fetch-as}
use Rattle.desk.proofs.tables.loaf_batch_fetch_by.Goals as goal

pub fetched-requires : goal.fetched-requires
fetched-requires c = fetch-known _ _ _ c.fetch_by.ensures

pub returns : goal.returns
returns c = fetch-as c.fetch_by.ensures c.fetched.ensures
