-- `catalogue::check` meets its contract. Assumes nothing.
use mathlib.Core.Path.{◌∙◌}
use Rattle.std.proofs.lemmas.Result.{err_from_is_err_and}
use Rattle.catalogue.specs.Kept as K
use Rattle.catalogue.proofs.check.Goals as goal

pub returns-in_err-schema_at : goal.returns-in_err-schema_at
returns-in_err-schema_at c =
    let p = err_from_is_err_and c.from_residual.result c.from_residual.ensures.1 in
    rw (p.1, p.2) (c.in_err-schema_at.ensures.ends (K.check _))

pub returns : goal.returns
returns c = c.check.ensures ∙ c.in_ok-schema_at.ensures (K.check _)
