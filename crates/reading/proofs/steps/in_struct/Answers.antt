-- `reading::steps::in_struct` meets its contract. Assumes nothing.
use Rattle.std.proofs.Common.{rules}
use Rattle.reading.proofs.Moving.{struct-stop, struct-of, struct-child, struct-step, struct-refused}
use Rattle.reading.proofs.steps.in_struct.Goals as goal

pub returns-then-n-i : goal.returns-then-n-i
returns-then-n-i c = let pre = c.requires in
    let a = c.args in
    struct-stop pre.stands a.i pre.kind c.count-n.ensures c.if-n-i.true

pub field-y-requires : goal.field-y-requires
field-y-requires c = let pre = c.requires in
    struct-of pre c.count-n.ensures c.if-n-i.false

pub child-requires : goal.child-requires
child-requires c = let pre = c.requires in
    let count = c.count-n in
    let if1 = c.if-n-i in
    struct-child pre count.ensures if1.false c.field-y.ensures c.width.ensures

pub returns-in_err-child : goal.returns-in_err-child
returns-in_err-child c =
    let k = struct-refused c.requires c.count-n.ensures c.if-n-i.false c.field-y.ensures c.width.ensures c.in_err-child.ensures in
    search rules

pub returns : goal.returns
returns c = struct-step c.requires c.count-n.ensures c.if-n-i.false c.field-y.ensures c.width.ensures c.in_ok-child.ensures c.enter.ensures
