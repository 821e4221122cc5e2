-- `checking::lists::check_end` meets its contract. Assumes nothing.
use Rattle.checking.proofs.Leaves.{end-pad, end-search, end-found, end-gap, end-over, end-done}
use Rattle.checking.proofs.lists.check_end.Goals as goal

pub pad_clear-requires : goal.pad_clear-requires
pad_clear-requires c = search end-pad

pub first_set-requires : goal.first_set-requires
first_set-requires c = search end-search

pub overflow_add-result : goal.overflow_add-result
overflow_add-result c = search end-found

pub returns-then-not-pad_clear : goal.returns-then-not-pad_clear
returns-then-not-pad_clear c = search end-gap

pub returns-then-start-b : goal.returns-then-start-b
returns-then-start-b c = search end-over

pub returns : goal.returns
returns c = search end-done
