-- `desk::tables::loaf_list_by` meets its contract. Assumes nothing.
use mathlib.Core.Path.{ap, ◌∙◌}
use Rattle.codes.specs.Codes.{sized_code}
use Rattle.words.proofs.Numbers.{slice-bytes}
use Rattle.codes.proofs.Answered.{list-known}
use Rattle.desk.proofs.tables.loaf_list_by.Goals as goal

pub length_code-requires : goal.length_code-requires
length_code-requires c = list-known _ _ _ (slice-bytes c.type_inv.row)
    c.list_by.ensures.answers

pub returns : goal.returns
returns c = record { answers = c.length_code.ensures ∙ ap sized_code c.list_by.ensures.answers; leaves = c.list_by.ensures.leaves }
