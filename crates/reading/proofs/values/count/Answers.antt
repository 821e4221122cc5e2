-- `reading::values::count` meets its contract. Assumes nothing.
use Rattle.reading.proofs.Shown.{count-list, count_map, count-struct}
use Rattle.reading.proofs.values.count.Goals as goal

pub get-requires-clause-room : goal.get-requires-clause-room
get-requires-clause-room c = c.requires c.if-k-eq-LIST.true

pub returns-then-k-eq-LIST : goal.returns-then-k-eq-LIST
returns-then-k-eq-LIST c = let a = c.args in
    count-list a.row.now a.x a.start c.if-k-eq-LIST.true c.get.ensures.is

pub returns-then-k-eq-MAP : goal.returns-then-k-eq-MAP
returns-then-k-eq-MAP c = let a = c.args in
    count_map a.row.now a.x a.start c.if-k-eq-MAP.true

pub returns : goal.returns
returns c = let a = c.args in
    let if1 = c.if-k-eq-LIST in
    count-struct a.row.now a.x a.start if1.false c.if-k-eq-MAP.false c.count.ensures
