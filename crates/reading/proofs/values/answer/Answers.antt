-- `reading::values::answer` meets its contract. Assumes nothing.
use Rattle.reading.proofs.Shown.{show-leaf, show-text, show-holder}
use Rattle.reading.proofs.values.answer.Goals as goal

pub value-requires : goal.value-requires
value-requires c = c.requires.leaf c.if-k-lt-STRING.true

pub returns-then-k-lt-STRING : goal.returns-then-k-lt-STRING
returns-then-k-lt-STRING c = let a = c.args in
    show-leaf a.row.now a.p c.if-k-lt-STRING.true c.value.ensures

pub returns-then-k-lt-LIST : goal.returns-then-k-lt-LIST
returns-then-k-lt-LIST c = let a = c.args in
    show-text a.row.now a.p c.if-k-lt-STRING.false c.if-k-lt-LIST.true

pub count-requires : goal.count-requires
count-requires c = c.requires.counts

pub returns : goal.returns
returns c = let a = c.args in
    show-holder a.row.now a.p c.if-k-lt-LIST.false c.count.ensures
