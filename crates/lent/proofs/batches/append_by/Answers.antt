-- `lent::batches::append_by` meets its contract. Assumes nothing.
use Rattle.std.proofs.Common.{◌∙◌}
use Rattle.std.proofs.lemmas.Result.{err_from_is_err_and}
use Rattle.compare.proofs.Lent.{own-table}
use Rattle.batch.proofs.Passing.{count-whole, count_none}
use Rattle.batch.proofs.Added.{row_small, lent_none, lent_is, append-broken, append-refused, append-put}
use Rattle.lent.proofs.By.{own_of, other_of, check-own}
use Rattle.lent.proofs.InBatch.{append-no, not-one}
use Rattle.lent.proofs.batches.append_by.Goals as goal

pub returns-in_err-judge_by : goal.returns-in_err-judge_by
returns-in_err-judge_by c = let p = err_from_is_err_and c.from_residual.result c.from_residual.ensures.1 in
    let o = other_of _ _ c.in_err-judge_by.ensures in
    rw (p.1, p.2, o.is) (append-no o.schema _ _ _)

pub returns-then-room-used : goal.returns-then-room-used
returns-then-room-used c = append-broken _ _ _ _ (lent_none _ _ c.if-room-used.true) (not-one (own_of _ _ c.in_ok-judge_by.ensures) _)

pub returns-in_err-count : goal.returns-in_err-count
returns-in_err-count c = let x = c.from_residual-in_err-count in
    let p = err_from_is_err_and x.result x.ensures.1 in
    let n = count_none _ c.in_err-count.ensures in
    rw (p.1, p.2, n.with) (append-broken _ _ _ _ (lent_is _ _ c.if-room-used.false ∙ n.is) (not-one (own_of _ _ c.in_ok-judge_by.ensures) _))

pub check-requires : goal.check-requires
check-requires c = own-table (own_of _ _ c.in_ok-judge_by.ensures)

pub returns-in_err-check : goal.returns-in_err-check
returns-in_err-check c = let x = c.from_residual-in_err-check in
    let p = err_from_is_err_and x.result x.ensures.1 in
    let l = lent_is _ _ c.if-room-used.false ∙ (count-whole _ c.in_ok-count.ensures).is in
    rw (p.1, p.2) (append-refused _ _ _ _ l _ (check-own (own_of _ _ c.in_ok-judge_by.ensures) _ c.in_err-check.ensures))

pub put_row-requires : goal.put_row-requires
put_row-requires c = (c.if-room-used.false, row_small _ _ c.in_ok-check.ensures)

pub returns : goal.returns
returns c = let w = count-whole _ c.in_ok-count.ensures in
    let l = lent_is _ _ c.if-room-used.false ∙ w.is in
    append-put _ _ _ _ l (check-own (own_of _ _ c.in_ok-judge_by.ensures) _ c.in_ok-check.ensures) c.put_row.ensures
