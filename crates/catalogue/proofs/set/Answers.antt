-- `catalogue::set` meets its contract. Assumes nothing.
use mathlib.Core.Path.{refl}
use Rattle.std.proofs.lemmas.Result.{err_from_is_err_and}
use Rattle.catalogue.specs.Kept as K
use Rattle.catalogue.proofs.Found.{sets-so}
use Rattle.catalogue.proofs.set.Goals as goal

pub returns-in_err-schema_at : goal.returns-in_err-schema_at
returns-in_err-schema_at c =
    let p = err_from_is_err_and c.from_residual.result c.from_residual.ensures.1 in
    rw (p.1, p.2) (sets-so _ _ _ _ _ (c.in_err-schema_at.ensures.ends (K.set _ _ _)) refl refl)

pub returns : goal.returns
returns c = let w = c.set.ensures in sets-so _ _ _ _ _ (c.in_ok-schema_at.ensures (K.set _ _ _)) w.answers w.after
