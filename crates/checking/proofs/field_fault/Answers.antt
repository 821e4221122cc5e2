-- `checking::field_fault` meets its contract: a bool's own byte is looked at first, then the bytes behind it. Assumes nothing.
use borrow.Author.Rules.{rules}
use Rattle.words.proofs.Numbers.{slice-bytes}
use Rattle.checking.proofs.Fields.{slot-fits, field-two, field-behind, field-rest, rest-search, rest-on, rest-found, behind-found}
use Rattle.checking.proofs.field_fault.Goals as goal

pub overflow_add-result : goal.overflow_add-result
overflow_add-result c = search (slot-fits, rules)

pub returns-then-b-slot-gt1 : goal.returns-then-b-slot-gt1
returns-then-b-slot-gt1 c = search (field-two, slice-bytes)

pub overflow_add-slot : goal.overflow_add-slot
overflow_add-slot c = search (slot-fits, rules)

pub overflow_add-slot-then-place-eq-BOOL : goal.overflow_add-slot-then-place-eq-BOOL
overflow_add-slot-then-place-eq-BOOL c = search (slot-fits, rules)

pub overflow_add-result-then-place-eq-BOOL : goal.overflow_add-result-then-place-eq-BOOL
overflow_add-result-then-place-eq-BOOL c = search behind-found

pub returns-then-place-eq-BOOL : goal.returns-then-place-eq-BOOL
returns-then-place-eq-BOOL c = search (field-behind, slice-bytes)

pub overflow_add-slot-2 : goal.overflow_add-slot-2
overflow_add-slot-2 c = search rest-on

pub overflow_add-slot-3 : goal.overflow_add-slot-3
overflow_add-slot-3 c = search (slot-fits, rules)

pub first_set-requires-2 : goal.first_set-requires-2
first_set-requires-2 c = search rest-search

pub overflow_add-result-2 : goal.overflow_add-result-2
overflow_add-result-2 c = search rest-found

pub returns : goal.returns
returns c = search (field-rest, slice-bytes)
