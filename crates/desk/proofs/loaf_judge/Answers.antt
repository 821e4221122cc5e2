-- `desk::loaf_judge` meets its contract. Assumes nothing.
use mathlib.Core.Path.{ap, ◌∙◌}
use Rattle.codes.specs.Codes.{verdict_code}
use Rattle.codes.proofs.Answered.{judge-known}
use Rattle.desk.proofs.loaf_judge.Goals as goal

pub outcome_code-requires : goal.outcome_code-requires
outcome_code-requires c = judge-known _ c.judge.ensures

pub returns : goal.returns
returns c = c.outcome_code.ensures ∙ ap verdict_code c.judge.ensures
