-- `measuring::measure_fixed` meets its contract: each return is one law. Assumes nothing.
use Rattle.words.proofs.Numbers.{slice-bytes}
use Rattle.measuring.proofs.Bodies.{width_fits, bool-room}
use Rattle.measuring.proofs.Chosen.{fixed-only, fixed-unmarked, number-told, bool-refused, bool-told}
use Rattle.measuring.proofs.measure_fixed.Goals as goal
use Rattle.measuring.proofs.measure_fixed.Goals.{else-place-eq-BOOL-via-then-place-eq-BOOL+else-l-from-gt1}
use Rattle.measuring.proofs.measure_fixed.Goals.{else-place-eq-BOOL-via-else-place-eq-BOOL}

pub overflow_add-v : goal.overflow_add-v
overflow_add-v c = search width_fits

pub returns-then-l-from : goal.returns-then-l-from
returns-then-l-from c = search fixed-only

pub returns-then-m-mark : goal.returns-then-m-mark
returns-then-m-mark c = search fixed-unmarked

pub bounds-l-from : goal.bounds-l-from
bounds-l-from c = search bool-room

pub returns-then-l-from-gt1 : goal.returns-then-l-from-gt1
returns-then-l-from-gt1 c = search (bool-refused, slice-bytes)

pub returns : goal.returns
returns c = elim c.else-place-eq-BOOL.branch [
  | else-place-eq-BOOL-via-then-place-eq-BOOL+else-l-from-gt1 w ↦ search (bool-told, slice-bytes)
  | else-place-eq-BOOL-via-else-place-eq-BOOL w ↦ search (number-told, slice-bytes)
]
