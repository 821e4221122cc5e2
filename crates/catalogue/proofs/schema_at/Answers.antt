-- `catalogue::schema_at` meets its contract. Assumes nothing.
use Rattle.std.proofs.lemmas.Result.{err_from_is_err_and}
use Rattle.catalogue.proofs.Found.{ends-by, goes-on}
use Rattle.catalogue.proofs.schema_at.Goals as goal

pub returns-in_err-at : goal.returns-in_err-at
returns-in_err-at c =
    let p = err_from_is_err_and c.from_residual.result c.from_residual.ensures.1 in
    rw (p.1, p.2) (ends-by _ _ c.in_err-at.ensures)

pub returns : goal.returns
returns c = goes-on _ _ c.in_ok-at.ensures
