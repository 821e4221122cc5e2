-- `words::nums::put_num` meets its contract: the bytes put so far are the first of those asked. Assumes nothing.
use Prim.Native.Nat.{◌/◌, ◌^◌}
use mathlib.Core.Path.{◌≡◌}
use lib.Seq.{sets}
use Rattle.words.specs.Bytes.{le}
use Rattle.words.proofs.nums.put_num.Given as goal

abbrev pub invariant-loop-i : goal.invariant-loop-i
invariant-loop-i l = (l.b ≡ sets l.initial.b l.at (le l.i l.v)) × (l.x ≡ l.v / 256 ^ l.i)
