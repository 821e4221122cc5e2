-- `reading::own::list_holds` meets its contract. Assumes nothing.
use Rattle.reading.proofs.Rules.{short-list, long-list, slots-fit, slots-pad, front_fits, list-test}
use Rattle.reading.proofs.own.list_holds.Goals as goal

pub returns-then-size-lt8 : goal.returns-then-size-lt8
returns-then-size-lt8 c = short-list c.requires.0 c.args.w c.if-size-lt8.true

pub returns-then-size-n : goal.returns-then-size-n
returns-then-size-n c = let pre = c.requires in
    let if1 = c.if-size-lt8 in
    long-list pre.0 if1.false c.get-n.ensures.is pre.1 c.if-size-n.true

pub overflow_mul-n : goal.overflow_mul-n
overflow_mul-n c = slots-fit c.requires c.if-size-n.false

pub pad_size-requires : goal.pad_size-requires
pad_size-requires c = slots-pad c.requires c.if-size-n.false

pub overflow_add-result-2 : goal.overflow_add-result-2
overflow_add-result-2 c = let pre = c.requires in
    let if2 = c.if-size-n in
    front_fits pre if2.false c.bitmap_size.ensures c.pad_size.ensures

pub returns : goal.returns
returns c = let pre = c.requires in
    let if1 = c.if-size-lt8 in
    let get = c.get-n in
    let a = c.args in
    list-test pre.0 if1.false get.ensures.is a.w c.bitmap_size.ensures c.pad_size.ensures
