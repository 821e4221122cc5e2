-- `putting::leaves::put_padded` meets its contract. Assumes nothing.
use Prim.Native.Nat.{◌*◌}
use Rattle.putting.proofs.Slots.{PaddedGoing}
use Rattle.putting.proofs.leaves.put_padded.Given as goal

abbrev pub invariant-loop-k : goal.invariant-loop-k
invariant-loop-k l = PaddedGoing l.l l.from l.n l.to l.initial.out l.out (8 * l.k)
