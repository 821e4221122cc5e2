-- `batch::append` meets its contract. Assumes nothing.
use Rattle.std.proofs.Common.{◌∙◌}
use Rattle.std.proofs.lemmas.Result.{err_from_is_err_and}
use Rattle.batch.proofs.Passing.{count-whole, count_none}
use Rattle.batch.proofs.Added.{row_small, lent_none, lent_is, append-broken, append-refused, append-put}
use Rattle.batch.proofs.append.Goals as goal

pub returns-then-room-used : goal.returns-then-room-used
returns-then-room-used c = append-broken _ _ _ _ (lent_none _ _ c.if-room-used.true) c.after_schema.ensures

pub returns-in-Err : goal.returns-in-Err
returns-in-Err c = let n = count_none _ c.in-Err.ensures in
    append-broken _ _ _ _ (lent_is _ _ c.if-room-used.false ∙ n.is) (rw (← n.with) c.after_schema-in-Err.ensures)

pub returns-in_err-check : goal.returns-in_err-check
returns-in_err-check c = let p = err_from_is_err_and c.from_residual.result c.from_residual.ensures.1 in
    let w = count-whole _ c.in_default.ensures in
    let l = lent_is _ _ c.if-room-used.false ∙ w.is in
    rw (p.1, p.2) (append-refused _ _ _ _ l _ c.in_err-check.ensures)

pub put_row-requires : goal.put_row-requires
put_row-requires c = (c.if-room-used.false, row_small _ _ c.in_ok-check.ensures)

pub returns : goal.returns
returns c = let w = count-whole _ c.in_default.ensures in
    let l = lent_is _ _ c.if-room-used.false ∙ w.is in
    append-put _ _ _ _ l c.in_ok-check.ensures c.put_row.ensures
