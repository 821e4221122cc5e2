-- `lent::check_by` meets its contract. Assumes nothing.
use Rattle.std.proofs.lemmas.Result.{err_from_is_err_and}
use Rattle.compare.proofs.Lent.{own-table}
use Rattle.row.proofs.Opening.{check-no}
use Rattle.lent.proofs.By.{own_of, other_of, check-own}
use Rattle.lent.proofs.check_by.Goals as goal

pub returns-in_err-judge_by : goal.returns-in_err-judge_by
returns-in_err-judge_by c = let p = err_from_is_err_and c.from_residual.result c.from_residual.ensures.1 in
    let o = other_of _ _ c.in_err-judge_by.ensures in
    rw (p.1, p.2, o.is) (check-no _ o.schema _)

pub check-requires : goal.check-requires
check-requires c = own-table (own_of _ _ c.in_ok-judge_by.ensures)

pub returns : goal.returns
returns c = check-own (own_of _ _ c.in_ok-judge_by.ensures) _ c.check.ensures
