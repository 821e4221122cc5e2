-- `catalogue::add` meets its contract. Assumes nothing.
use Rattle.std.proofs.lemmas.Result.{err_from_is_err_and}
use Rattle.catalogue.proofs.Answering.{adds-broken, adds-refused, enters, is-behind}
use Rattle.catalogue.proofs.add.Goals as goal

pub returns-in_err-k : goal.returns-in_err-k
returns-in_err-k c =
    let p = err_from_is_err_and c.from_residual.result c.from_residual.ensures.1 in
    let e = c.in_err-k.ensures in
    rw (p.1, p.2, e.1) (adds-broken _ _ e.0)

pub returns-in_err-judge-in-Behind : goal.returns-in_err-judge-in-Behind
returns-in_err-judge-in-Behind c =
    let r = c.from_residual-in_err-judge-in-Behind in
    let p = err_from_is_err_and r.result r.ensures.1 in
    rw (p.1, p.2) (adds-refused (is-behind _ _ c.in_ok-k.ensures c.in-Behind.is) c.judge.ensures c.in_err-judge-in-Behind.was)

pub enter-requires : goal.enter-requires
enter-requires c = enters (is-behind _ _ c.in_ok-k.ensures c.in-Behind.is) c.judge.ensures c.in_ok-judge-in-Behind.was
