-- `checking::lists::no_nulls` meets its contract: the elements of the words before word k are not null. Assumes nothing.
use Prim.Native.Nat.{◌*◌}
use Rattle.checking.specs.Room.{NoNulls}
use Rattle.checking.proofs.lists.no_nulls.Given as goal

abbrev pub invariant-loop-k : goal.invariant-loop-k
invariant-loop-k l = NoNulls l.b (64 * l.k)
