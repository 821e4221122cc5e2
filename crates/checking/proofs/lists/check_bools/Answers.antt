-- `checking::lists::check_bools` meets its contract: before element i, what is left leads to the same end. Assumes nothing.
use Rattle.words.proofs.Numbers.{slice-bytes}
use Rattle.checking.proofs.Leaves.{bools-start, bools-end, bools-null, bools-wrong, bools-next}
use Rattle.checking.proofs.lists.check_bools.Goals as goal
use Rattle.checking.proofs.lists.check_bools.Goals.{else-not-is_null-via-then-not-is_null+else-b-slots-gt1, else-not-is_null-via-else-not-is_null}

pub loop-i-init : goal.loop-i-init
loop-i-init c = search (bools-start, slice-bytes)

pub returns-then-b-slots-gt1 : goal.returns-then-b-slots-gt1
returns-then-b-slots-gt1 c = search bools-wrong

pub loop-i-preserved : goal.loop-i-preserved
loop-i-preserved c = elim c.else-not-is_null.branch [
  | else-not-is_null-via-then-not-is_null+else-b-slots-gt1 w ↦ search bools-next
  | else-not-is_null-via-else-not-is_null w ↦ search bools-null
]

pub returns : goal.returns
returns c = search bools-end
