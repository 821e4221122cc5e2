-- `lent::batches::read_by` meets its contract. Assumes nothing.
use Rattle.std.proofs.Common.{refl}
use Rattle.std.proofs.lemmas.Result.{err_from_is_err_and}
use Rattle.compare.proofs.Lent.{own-table}
use Rattle.batch.proofs.Passing.{found_at}
use Rattle.batch.proofs.Orders.{read_none, read_by}
use Rattle.lent.proofs.By.{own_of, other_of, read-own}
use Rattle.lent.proofs.InBatch.{no_row, missing}
use Rattle.lent.proofs.batches.read_by.Goals as goal

pub returns-in_err-judge_by : goal.returns-in_err-judge_by
returns-in_err-judge_by c = let p = err_from_is_err_and c.from_residual.result c.from_residual.ensures.1 in
    let o = other_of _ _ c.in_err-judge_by.ensures in
    rw (p.1, p.2, o.is) (read_none _ (no_row o.schema _ _))

pub returns-in_err-at : goal.returns-in_err-at
returns-in_err-at c = let x = c.from_residual-in_err-at in
    let p = err_from_is_err_and x.result x.ensures.1 in
    rw (p.1, p.2) (read_none _ (missing (own_of _ _ c.in_ok-judge_by.ensures) _ c.in_err-at.ensures))

pub read-requires : goal.read-requires
read-requires c = own-table (own_of _ _ c.in_ok-judge_by.ensures)

pub returns : goal.returns
returns c = read_by _ (found_at refl c.in_ok-at.ensures) _ _ (read-own (own_of _ _ c.in_ok-judge_by.ensures) c.read.ensures).means
