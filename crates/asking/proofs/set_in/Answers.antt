-- `asking::set_in` meets its contract. Assumes nothing.
use Rattle.codes.proofs.Asking.{asks_none, asks-for}
use Rattle.codes.proofs.InBatch.{leaves-none-in, leaves-set-in}
use Rattle.codes.proofs.Answered.{fetch-known, read-in-known, set-in-known}
use Rattle.asking.proofs.set_in.Goals as goal

pub unfit_in-requires : goal.unfit_in-requires
unfit_in-requires c = let k = read-in-known _ _ _ _ c.read.ensures in
    (fetch-known _ _ _ c.fetch.ensures, k.0, k.1)

pub outcome_code-requires : goal.outcome_code-requires
outcome_code-requires c = set-in-known _ _ _ _ _ c.set.ensures.answers

pub returns-in-None : goal.returns-in-None
returns-in-None c = leaves-none-in _ _ c.path_of-p.ensures _ _ _ _ _ (asks_none _ _ c.of_kind.ensures _ c.in-None.is)
    c.fetch.ensures c.read.ensures c.unfit_in.ensures

pub returns-in-Some : goal.returns-in-Some
returns-in-Some c = leaves-set-in _ _ c.path_of-p.ensures _ _ _ _ _ c.set.result _ _ (asks-for _ _ c.of_kind.ensures _ c.in-Some.is)
    c.set.ensures c.outcome_code.ensures
