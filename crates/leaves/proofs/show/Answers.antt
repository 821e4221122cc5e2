-- `leaves::show` meets its contract: the line by what was found. Assumes nothing.
use Rattle.std.proofs.Common.{◌≡◌, ap, ◌∙◌, Result, Ok}
use Rattle.answers.specs.declared.Refusal.{Refusal}
use Rattle.reading.specs.declared.Found.{Found}
use Rattle.reading.proofs.Shown.{found-shows}
use Rattle.leaves.proofs.Placing.{shows-refused, null-kinded, null-room, shows-null, leaf_room, shows-leaf, shows-open}
use Rattle.leaves.proofs.show.Goals as goal

-- what the inner part of a pattern says
inside : {r : Result Found Refusal} {x y : Found} → r ≡ Ok x → x ≡ y → r ≡ Ok y
inside e q = e ∙ ap Ok q

pub entry_of-requires : goal.entry_of-requires
entry_of-requires c = let arm = c.in-Ok-Null in
    null-kinded c.requires c.find.ensures (inside arm.is arm.field-0-is)

pub line-next-requires : goal.line-next-requires
line-next-requires c = let arm = c.in-Ok-Null in
    null-room c.requires c.find.ensures (inside arm.is arm.field-0-is) c.entry_of.ensures

pub answer-a-requires : goal.answer-a-requires
answer-a-requires c = let arm = c.in-Ok-At in
    found-shows c.requires.opened c.find.ensures (inside arm.is arm.field-0-is)

pub line-next-requires-then-x-lt-LIST : goal.line-next-requires-then-x-lt-LIST
line-next-requires-then-x-lt-LIST c = let arm = c.in-Ok-At in
    let answer = c.answer-a in
    leaf_room c.requires c.find.ensures (inside arm.is arm.field-0-is) answer.result answer.ensures c.if-x-lt-LIST.true

pub returns-then-x-lt-LIST : goal.returns-then-x-lt-LIST
returns-then-x-lt-LIST c = let arm = c.in-Ok-At in
    let answer = c.answer-a in
    let if1 = c.if-x-lt-LIST in
    shows-leaf c.requires c.find.ensures (inside arm.is arm.field-0-is) answer.result answer.ensures if1.true c.line-next-then-x-lt-LIST.ensures

pub returns-in-Err : goal.returns-in-Err
returns-in-Err c = shows-refused c.requires c.find.ensures c.in-Err.is

pub returns-in-Ok-Null : goal.returns-in-Ok-Null
returns-in-Ok-Null c = let arm = c.in-Ok-Null in
    shows-null c.requires c.find.ensures (inside arm.is arm.field-0-is) c.entry_of.ensures c.line-next.ensures

pub returns-else-x-lt-LIST : goal.returns-else-x-lt-LIST
returns-else-x-lt-LIST c = let arm = c.in-Ok-At in
    let answer = c.answer-a in
    shows-open c.requires c.find.ensures (inside arm.is arm.field-0-is) answer.result answer.ensures c.if-x-lt-LIST.false c.count_of.ensures
