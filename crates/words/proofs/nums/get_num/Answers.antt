-- `words::nums::get_num` meets its contract: what is read so far is the number of the bytes from i on. Assumes nothing.
use Prim.Native.Nat.{◌+◌, ◌-◌}
use native.Mathlib.Omega.{arith}
use Rattle.words.proofs.Numbers.{slice-bytes}
use Rattle.words.proofs.Turns.{reads_none, reads-turn}
use Rattle.words.proofs.nums.get_num.Goals as goal

pub loop-i-init : goal.loop-i-init
loop-i-init c = let a = c.args in
    reads_none a.b.now (a.at + a.k) (a.k - a.k) (omega arith)

pub loop-i-preserved : goal.loop-i-preserved
loop-i-preserved c = let a = c.args in
    let l = c.loop-i in
    reads-turn a.at l.i a.k l.r _ (slice-bytes c.type_inv.b) (omega arith) (omega arith) (omega arith) (omega arith) l.invariant c.wide.ensures.0
