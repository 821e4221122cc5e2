-- `lent::batches::fetch_by` meets its contract. Assumes nothing.
use Rattle.std.proofs.Common.{refl}
use Rattle.std.proofs.lemmas.Result.{err_from_is_err_and}
use Rattle.compare.proofs.Lent.{own-table}
use Rattle.batch.proofs.Passing.{found_at}
use Rattle.batch.proofs.Orders.{fetch-none, fetch-done, fetch-refused}
use Rattle.lent.proofs.By.{own_of, other_of, check-own}
use Rattle.lent.proofs.InBatch.{no_row, missing}
use Rattle.lent.proofs.batches.fetch_by.Goals as goal

pub returns-in_err-judge_by : goal.returns-in_err-judge_by
returns-in_err-judge_by c = let p = err_from_is_err_and c.from_residual.result c.from_residual.ensures.1 in
    let o = other_of _ _ c.in_err-judge_by.ensures in
    rw (p.1, p.2, o.is) (fetch-none (no_row o.schema _ _))

pub returns-in_err-start : goal.returns-in_err-start
returns-in_err-start c = let x = c.from_residual-in_err-start in
    let p = err_from_is_err_and x.result x.ensures.1 in
    rw (p.1, p.2) (fetch-none (missing (own_of _ _ c.in_ok-judge_by.ensures) _ c.in_err-start.ensures))

pub check-requires : goal.check-requires
check-requires c = own-table (own_of _ _ c.in_ok-judge_by.ensures)

pub returns-in_err-check : goal.returns-in_err-check
returns-in_err-check c = let x = c.from_residual-in_err-check in
    let p = err_from_is_err_and x.result x.ensures.1 in
    rw (p.1, p.2) (fetch-refused _ (found_at refl c.in_ok-start.ensures) _ (check-own (own_of _ _ c.in_ok-judge_by.ensures) _ c.in_err-check.ensures))

pub returns : goal.returns
returns c = fetch-done _ (found_at refl c.in_ok-start.ensures) (check-own (own_of _ _ c.in_ok-judge_by.ensures) _ c.in_ok-check.ensures)
