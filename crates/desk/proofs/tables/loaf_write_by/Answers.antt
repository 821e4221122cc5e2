-- `desk::tables::loaf_write_by` meets its contract. Assumes nothing.
use mathlib.Core.Path.{ap, ◌∙◌}
use Rattle.codes.specs.Codes.{sized_code}
use Rattle.codes.proofs.Answered.{write_known}
use Rattle.desk.proofs.tables.loaf_write_by.Goals as goal

pub length_code-requires : goal.length_code-requires
length_code-requires c = write_known _ _ _ c.write_by.ensures.answers

pub returns : goal.returns
returns c = record { answers = c.length_code.ensures ∙ ap sized_code c.write_by.ensures.answers; leaves = c.write_by.ensures.leaves }
