-- `catalogue::list` meets its contract. Assumes nothing.
use mathlib.Core.Path.{refl, ap}
use Rattle.std.proofs.lemmas.Result.{err_from_is_err_and}
use Rattle.layout.specs.Entries.{refused_with}
use Rattle.answers.specs.Meaning.{refusal_means}
use Rattle.catalogue.specs.Kept as K
use Rattle.catalogue.proofs.Found.{lists-so}
use Rattle.catalogue.proofs.list.Goals as goal

pub returns-in_err-schema_at : goal.returns-in_err-schema_at
returns-in_err-schema_at c =
    let p = err_from_is_err_and c.from_residual.result c.from_residual.ensures.1 in
    let e = c.in_err-schema_at.ensures in
    rw (p.1, p.2) (lists-so (e.ends (K.list _ _)) (ap (refused_with (refusal_means c.in_err-schema_at.field-0.0)) e.roomless) refl)

pub returns : goal.returns
returns c = let w = c.list.ensures in lists-so (c.in_ok-schema_at.ensures (K.list _ _)) w.answers w.leaves
