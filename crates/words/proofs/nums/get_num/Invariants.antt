-- `words::nums::get_num` meets its contract: what is read so far is the number of the bytes from i on. Assumes nothing.
use Prim.Native.Nat.{◌+◌, ◌-◌}
use Rattle.words.specs.Reads.{Reads}
use Rattle.words.proofs.nums.get_num.Given as goal

abbrev pub invariant-loop-i : goal.invariant-loop-i
invariant-loop-i l = Reads l.b (l.at + l.i) (l.k - l.i) l.r
