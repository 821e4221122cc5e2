-- `batch::set` meets its contract. Assumes nothing.
use Rattle.std.proofs.Common.{refl}
use Rattle.std.proofs.lemmas.Result.{err_from_is_err_and}
use Rattle.batch.proofs.Orders.{no-row-found, row_found, set-none, set-mid}
use Rattle.batch.proofs.set.Goals as goal

pub returns-in_err-start : goal.returns-in_err-start
returns-in_err-start c = let p = err_from_is_err_and c.from_residual.result c.from_residual.ensures.1 in
    rw (p.1, p.2) (set-none _ _ (no-row-found refl c.in_err-start.ensures))

pub returns : goal.returns
returns c = set-mid _ (row_found refl c.in_ok-start.ensures) _ _ c.set.ensures
