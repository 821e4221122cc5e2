-- `checking::lists::no_nulls` meets its contract: the elements of the words before word k are not null. Assumes nothing.
use Rattle.words.proofs.Numbers.{slice-bytes}
use Rattle.checking.proofs.Leaves.{clear-start, clear-word, clear-end}
use Rattle.checking.proofs.lists.no_nulls.Goals as goal

pub loop-k-init : goal.loop-k-init
loop-k-init c = search clear-start

pub loop-k-preserved : goal.loop-k-preserved
loop-k-preserved c = search (clear-word, slice-bytes)

pub returns : goal.returns
returns c = search clear-end
