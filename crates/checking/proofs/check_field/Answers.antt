-- `checking::check_field` meets its contract. Assumes nothing.
use Rattle.words.proofs.Numbers.{slice-bytes}
use Rattle.checking.proofs.Fields.{field-whole, field-null, field-above, above-shift}
use Rattle.checking.proofs.check_field.Goals as goal

pub returns-then-top-eq63 : goal.returns-then-top-eq63
returns-then-top-eq63 c = search (field-whole, slice-bytes)

pub returns-then-is_null : goal.returns-then-is_null
returns-then-is_null c = search (field-null, slice-bytes)

pub overflow_shr-result-2 : goal.overflow_shr-result-2
overflow_shr-result-2 c = search above-shift

pub returns : goal.returns
returns c = search (field-above, slice-bytes)
