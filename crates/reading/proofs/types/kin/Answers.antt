-- `reading::types::kin` meets its contract. Assumes nothing.
use Rattle.reading.proofs.Opening.{lot-none, lot-kin, no-leaf, no-array, no-count, of_struct, struct_left}
use Rattle.reading.proofs.types.kin.Goals as goal

pub returns-then-k-lt-LIST : goal.returns-then-k-lt-LIST
returns-then-k-lt-LIST c = lot-none (no-leaf c.requires c.args.i c.if-k-lt-LIST.true)

pub returns-then-k-eq-LIST : goal.returns-then-k-eq-LIST
returns-then-k-eq-LIST c = lot-kin (c.element.ensures c.args.i)

pub returns-then-i-ge2 : goal.returns-then-i-ge2
returns-then-i-ge2 c = let pre = c.requires in
    let a = c.args in
    lot-none (no-array pre a.i c.if-k-eq-MAP.true c.if-i-ge2.true)

pub returns-then-k-eq-MAP : goal.returns-then-k-eq-MAP
returns-then-k-eq-MAP c = lot-kin c.array.ensures

pub returns-then-count-i : goal.returns-then-count-i
returns-then-count-i c = let pre = c.requires in
    let a = c.args in
    let if1 = c.if-k-lt-LIST in
    let if2 = c.if-k-eq-LIST in
    let if3 = c.if-k-eq-MAP in
    lot-none (no-count pre a.i (struct_left pre.kinded if1.false if2.false if3.false) c.count.ensures c.if-count-i.true)

pub field-requires : goal.field-requires
field-requires c = let pre = c.requires in
    let if1 = c.if-k-lt-LIST in
    let if2 = c.if-k-eq-LIST in
    let if3 = c.if-k-eq-MAP in
    of_struct pre (struct_left pre.kinded if1.false if2.false if3.false) c.count.ensures c.if-count-i.false

pub returns : goal.returns
returns c = lot-kin c.field.ensures
