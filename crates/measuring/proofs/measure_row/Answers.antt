-- `measuring::measure_row` meets its contract: each return is one law. Assumes nothing.
use Rattle.words.proofs.Numbers.{slice-bytes}
use Rattle.measuring.proofs.Whole.{row-long, row-short, row_other, row-can, row-left, row-good}
use Rattle.measuring.proofs.measure_row.Goals as goal

pub returns-then-l-gt65536 : goal.returns-then-l-gt65536
returns-then-l-gt65536 c = search row-long

pub returns-then-l-lt2 : goal.returns-then-l-lt2
returns-then-l-lt2 c = search row-short

pub returns-then-get-ne-STRUCT_MARK : goal.returns-then-get-ne-STRUCT_MARK
returns-then-get-ne-STRUCT_MARK c = search row_other

pub measure_child-m-requires : goal.measure_child-m-requires
measure_child-m-requires c = search row-can

pub returns-then-low-l : goal.returns-then-low-l
returns-then-low-l c = search (row-left, slice-bytes)

pub returns : goal.returns
returns c = search (row-good, slice-bytes)
