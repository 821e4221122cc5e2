-- `reading::types::field_at` meets its contract. Assumes nothing.
use Prim.Native.Nat.{◌-◌}
use Rattle.reading.proofs.Opening.{field-start, field-here, field-on, field_end}
use Rattle.reading.proofs.types.field_at.Goals as goal

pub loop-j-init : goal.loop-j-init
loop-j-init c = field-start c.requires

pub entry_at-requires : goal.entry_at-requires
entry_at-requires c = field-here c.loop-j.invariant c.loop-j-test.true

pub loop-j-preserved : goal.loop-j-preserved
loop-j-preserved c = let loop = c.loop-j in
    let loop-test = c.loop-j-test in
    field-on loop.invariant loop-test.true c.entry_at.ensures c.after-c.ensures

pub returns : goal.returns
returns c = field_end c.loop-j.invariant c.loop-j-test.false
