-- `batch::fetch` meets its contract. Assumes nothing.
use Rattle.std.proofs.Common.{refl}
use Rattle.std.proofs.lemmas.Result.{err_from_is_err_and}
use Rattle.batch.proofs.Orders.{no-row-found, row_found, fetch-none, fetch-done, fetch-refused}
use Rattle.batch.proofs.fetch.Goals as goal

pub returns-in_err-start : goal.returns-in_err-start
returns-in_err-start c = let p = err_from_is_err_and c.from_residual.result c.from_residual.ensures.1 in
    rw (p.1, p.2) (fetch-none (no-row-found refl c.in_err-start.ensures))

pub returns-in_err-check : goal.returns-in_err-check
returns-in_err-check c = let x = c.from_residual-in_err-check in
    let p = err_from_is_err_and x.result x.ensures.1 in
    rw (p.1, p.2) (fetch-refused _ (row_found refl c.in_ok-start.ensures) _ c.in_err-check.ensures)

pub returns : goal.returns
returns c = fetch-done _ (row_found refl c.in_ok-start.ensures) c.in_ok-check.ensures
