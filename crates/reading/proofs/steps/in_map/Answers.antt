-- `reading::steps::in_map` meets its contract. Assumes nothing.
use Rattle.reading.proofs.Moving.{map-stop, map_of, map-room, keys_step, before-fits, values-fits, keys-room, values-step}
use Rattle.reading.proofs.steps.in_map.Goals as goal

pub returns-then-i-ge2 : goal.returns-then-i-ge2
returns-then-i-ge2 c = let pre = c.requires in
    let a = c.args in
    map-stop pre.stands a.i pre.kind c.if-i-ge2.true

pub array-y-requires : goal.array-y-requires
array-y-requires c = map_of c.requires c.if-i-ge2.false

pub get-size-requires-clause-room : goal.get-size-requires-clause-room
get-size-requires-clause-room c = map-room c.requires

pub returns-then-i-eq0 : goal.returns-then-i-eq0
returns-then-i-eq0 c = let pre = c.requires in
    let get = c.get-size in
    let array = c.array-y in
    let if2 = c.if-i-eq0 in
    keys_step pre get.ensures.is array.ensures if2.true c.array_at.ensures

pub overflow_add-before : goal.overflow_add-before
overflow_add-before c = before-fits c.requires c.get-size.ensures.is

pub overflow_add-p-2 : goal.overflow_add-p-2
overflow_add-p-2 c = let pre = c.requires in
    let get = c.get-size in
    values-fits pre get.ensures.is

pub overflow_sub-p : goal.overflow_sub-p
overflow_sub-p c = let pre = c.requires in
    let get = c.get-size in
    keys-room pre get.ensures.is

pub returns : goal.returns
returns c = let pre = c.requires in
    let get = c.get-size in
    let array = c.array-y in
    let if2 = c.if-i-eq0 in
    values-step pre get.ensures.is array.ensures if2.false c.array_at-2.ensures
