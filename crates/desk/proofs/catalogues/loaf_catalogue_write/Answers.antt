-- `desk::catalogues::loaf_catalogue_write` meets its contract. Assumes nothing.
use mathlib.Core.Path.{ap, ◌∙◌}
use Rattle.codes.specs.Codes.{sized_code}
use Rattle.codes.proofs.ByNumber.{write-at-known}
use Rattle.desk.proofs.catalogues.loaf_catalogue_write.Goals as goal

pub length_code-requires : goal.length_code-requires
length_code-requires c = write-at-known _ _ _ _ c.write.ensures.answers

pub returns : goal.returns
returns c = record { answers = c.length_code.ensures ∙ ap sized_code c.write.ensures.answers; leaves = c.write.ensures.leaves }
