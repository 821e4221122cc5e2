-- `reading::steps::in_list` meets its contract. Assumes nothing.
use Rattle.std.proofs.Common.{rules}
use Rattle.reading.proofs.Moving.{header-room, list-stop, list_of, list-child, list-step, list-refused}
use Rattle.reading.proofs.steps.in_list.Goals as goal

pub get-n-requires-clause-room : goal.get-n-requires-clause-room
get-n-requires-clause-room c = header-room c.requires

pub returns-then-n-i : goal.returns-then-n-i
returns-then-n-i c = list-stop c.requires c.get-n.ensures.is c.if-n-i.true

pub element-y-requires : goal.element-y-requires
element-y-requires c = list_of c.requires

pub child-requires : goal.child-requires
child-requires c = let pre = c.requires in
    let get = c.get-n in
    let if1 = c.if-n-i in
    let element = c.element-y in
    list-child pre get.ensures.is if1.false (element.ensures _) c.width-v.ensures c.slot_width-w.ensures

pub returns-in_err-child : goal.returns-in_err-child
returns-in_err-child c =
    let k = list-refused c.requires c.get-n.ensures.is c.if-n-i.false (c.element-y.ensures _) c.width-v.ensures c.slot_width-w.ensures
    c.in_err-child.ensures in
    search rules

pub returns : goal.returns
returns c = list-step c.requires c.get-n.ensures.is c.if-n-i.false (c.element-y.ensures _) c.width-v.ensures c.slot_width-w.ensures
    c.in_ok-child.ensures c.enter.ensures
