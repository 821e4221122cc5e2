-- `batch::check` meets its contract. Assumes nothing.
use Rattle.std.proofs.lemmas.Result.{err_from_is_err_and}
use Rattle.table.proofs.Steps.{not-taken}
use Rattle.batch.proofs.InTurn.{check-no}
use Rattle.batch.proofs.check.Goals as goal

pub returns-in_err-ok_or : goal.returns-in_err-ok_or
returns-in_err-ok_or c = let p = err_from_is_err_and c.from_residual.result c.from_residual.ensures.1 in
    let q = not-taken _ c.in_err-ok_or.ensures.value in
    rw (p.1, p.2, q.1) (check-no _ _ (c.with.ensures.refused q.0))
