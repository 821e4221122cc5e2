-- `measuring::measure_text` meets its contract: each return is one law. Assumes nothing.
use Rattle.words.proofs.Numbers.{slice-bytes}
use Rattle.measuring.proofs.Chosen.{text-only, text-unmarked, text-refused, text-told, text-unspelled}
use Rattle.measuring.proofs.measure_text.Goals as goal

pub returns-then-l-from-lt6 : goal.returns-then-l-from-lt6
returns-then-l-from-lt6 c = search text-only

pub returns-then-m-mark : goal.returns-then-m-mark
returns-then-m-mark c = search text-unmarked

pub returns-then-l-from : goal.returns-then-l-from
returns-then-l-from c = search (text-refused, slice-bytes)

pub returns-then-not-is_spelled : goal.returns-then-not-is_spelled
returns-then-not-is_spelled c = search (text-unspelled, slice-bytes)

pub returns : goal.returns
returns c = search (text-told, slice-bytes)
