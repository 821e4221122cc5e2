-- `desk::tables::loaf_table` meets its contract. Assumes nothing.
use mathlib.Core.Path.{ap, ◌∙◌}
use Rattle.codes.specs.Codes.{sized_code}
use Rattle.desk.proofs.Tabled.{table-halved}
use Rattle.desk.proofs.tables.loaf_table.Goals as goal

pub length_code-requires : goal.length_code-requires
length_code-requires c = table-halved _ _ _ c.table.ensures.answers

pub returns : goal.returns
returns c = record { answers = c.length_code.ensures ∙ ap sized_code c.table.ensures.answers; leaves = c.table.ensures.leaves }
