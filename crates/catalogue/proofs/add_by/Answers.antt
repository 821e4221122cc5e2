-- `catalogue::add_by` meets its contract. Assumes nothing.
use Rattle.std.proofs.lemmas.Result.{err_from_is_err_and}
use Rattle.compare.proofs.Lent.{owned, not-owned}
use Rattle.catalogue.proofs.Answering.{adds-broken, adds_none, adds-by, is_at, is-behind}
use Rattle.catalogue.proofs.add_by.Goals as goal

pub returns-then-not-gives : goal.returns-then-not-gives
returns-then-not-gives c = let g = c.gives in adds_none _ _ (not-owned _ _ g.result g.ensures c.if-not-gives.true-raw)

pub returns-in_err-k : goal.returns-in_err-k
returns-in_err-k c =
    let p = err_from_is_err_and c.from_residual.result c.from_residual.ensures.1 in
    let e = c.in_err-k.ensures in
    rw (p.1, p.2, e.1) (adds-broken _ _ e.0)

pub enter-requires : goal.enter-requires
enter-requires c = let g = c.gives in
    record {
      behind = is-behind _ _ c.in_ok-k.ensures c.in-Behind.is;
      schema = (owned _ _ g.result g.ensures c.if-not-gives.false-raw).accepted;
    }

pub returns-in-At : goal.returns-in-At
returns-in-At c = let g = c.gives in
    adds-by (owned _ _ g.result g.ensures c.if-not-gives.false-raw) (is_at _ _ c.in_ok-k.ensures c.in-At.is)

pub returns-in-Behind : goal.returns-in-Behind
returns-in-Behind c = let g = c.gives in
    adds-by (owned _ _ g.result g.ensures c.if-not-gives.false-raw) c.enter.ensures
