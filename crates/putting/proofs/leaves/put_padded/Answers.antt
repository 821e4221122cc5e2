-- `putting::leaves::put_padded` meets its contract. Assumes nothing.
use native.Mathlib.Omega.{arith}
use Rattle.putting.proofs.Slots.{padded-starts, padded-goes, padded-at, padded-last, padded-ends}
use Rattle.putting.proofs.leaves.put_padded.Goals as goal

pub loop-k-init : goal.loop-k-init
loop-k-init c = padded-starts c.requires c.type_inv.l

pub loop-k-preserved : goal.loop-k-preserved
loop-k-preserved c = padded-goes c.loop-k.invariant (omega arith) (omega arith) c.get.ensures c.put.ensures

pub returns-then-done-n : goal.returns-then-done-n
returns-then-done-n c =
    padded-last (padded-at c.loop-k.invariant (omega arith)) c.if-done-n.true (omega arith) c.short_number.ensures c.put-then-done-n.ensures

pub returns-else-done-n : goal.returns-else-done-n
returns-else-done-n c = padded-ends (padded-at c.loop-k.invariant (omega arith)) (omega arith) c.if-done-n.false
