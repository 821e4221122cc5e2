-- `desk::tables::loaf_check_by` meets its contract. Assumes nothing.
use mathlib.Core.Path.{ap, ◌∙◌}
use Rattle.codes.specs.Codes.{verdict_code}
use Rattle.codes.proofs.Answered.{check-known}
use Rattle.desk.proofs.tables.loaf_check_by.Goals as goal

pub outcome_code-requires : goal.outcome_code-requires
outcome_code-requires c = check-known _ _ c.check_by.ensures

pub returns : goal.returns
returns c = c.outcome_code.ensures ∙ ap verdict_code c.check_by.ensures
