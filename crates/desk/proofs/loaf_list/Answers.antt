-- `desk::loaf_list` meets its contract. Assumes nothing.
use mathlib.Core.Path.{ap, ◌∙◌}
use Rattle.codes.specs.Codes.{sized_code}
use Rattle.words.proofs.Numbers.{slice-bytes}
use Rattle.codes.proofs.Answered.{list-known}
use Rattle.desk.proofs.loaf_list.Goals as goal

pub length_code-requires : goal.length_code-requires
length_code-requires c = list-known _ _ _ (slice-bytes c.type_inv.row)
    c.list.ensures.answers

pub returns : goal.returns
returns c = record { answers = c.length_code.ensures ∙ ap sized_code c.list.ensures.answers; leaves = c.list.ensures.leaves }
