-- `asking::set_at` meets its contract. Assumes nothing.
use Rattle.codes.proofs.Asking.{asks_none, asks-for}
use Rattle.codes.proofs.ByNumber.{check-at-known, read-at-known, set-at-known, leaves-none-at, leaves-set-at}
use Rattle.asking.proofs.set_at.Goals as goal

pub unfit-requires : goal.unfit-requires
unfit-requires c = let k = read-at-known _ _ _ _ c.read.ensures in
    (check-at-known _ _ _ c.check.ensures, k.0, k.1)

pub outcome_code-requires : goal.outcome_code-requires
outcome_code-requires c = set-at-known _ _ _ _ _ c.set.ensures.answers

pub returns-in-None : goal.returns-in-None
returns-in-None c = leaves-none-at _ _ c.path_of-p.ensures _ _ _ _ _ (asks_none _ _ c.of_kind.ensures _ c.in-None.is)
    c.check.ensures c.read.ensures c.unfit.ensures

pub returns-in-Some : goal.returns-in-Some
returns-in-Some c = leaves-set-at _ _ c.path_of-p.ensures _ _ _ _ _ c.set.result _ _ (asks-for _ _ c.of_kind.ensures _ c.in-Some.is)
    c.set.ensures c.outcome_code.ensures
