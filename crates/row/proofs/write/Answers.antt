-- `row::write` meets its contract. Assumes nothing.
use Rattle.std.proofs.lemmas.Result.{err_from_is_err_and}
use Rattle.row.proofs.Opening.{write-no}
use Rattle.table.proofs.Steps.{not-taken}
use Rattle.row.proofs.write.Goals as goal

pub returns-in_err-ok_or : goal.returns-in_err-ok_or
returns-in_err-ok_or c =
    let p = err_from_is_err_and c.from_residual.result c.from_residual.ensures.1 in
    let q = not-taken _ c.in_err-ok_or.ensures.value in
    rw (p.1, p.2, q.1) (let n = c.with_out.ensures.refused q.0 in rw n.1 (write-no _ n.0 _ _))
