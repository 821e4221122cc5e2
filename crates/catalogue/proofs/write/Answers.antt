-- `catalogue::write` meets its contract. Assumes nothing.
use mathlib.Core.Path.{refl, ap}
use Rattle.std.proofs.lemmas.Result.{err_from_is_err_and}
use Rattle.layout.specs.Entries.{refused_with}
use Rattle.answers.specs.Meaning.{refusal_means}
use Rattle.catalogue.specs.Kept as K
use Rattle.catalogue.proofs.Found.{writes-so}
use Rattle.catalogue.proofs.write.Goals as goal

pub returns-in_err-schema_at : goal.returns-in_err-schema_at
returns-in_err-schema_at c =
    let p = err_from_is_err_and c.from_residual.result c.from_residual.ensures.1 in
    let e = c.in_err-schema_at.ensures in
    rw (p.1, p.2) (writes-so (e.ends (K.write _ _)) (ap (refused_with (refusal_means c.in_err-schema_at.field-0.0)) e.roomless) refl)

pub returns : goal.returns
returns c = let w = c.write.ensures in writes-so (c.in_ok-schema_at.ensures (K.write _ _)) w.answers w.leaves
