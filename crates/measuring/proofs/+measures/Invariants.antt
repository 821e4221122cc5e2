-- The cycle of `measuring` meets its contracts: what each call asks, and each return, is one law, in the order of the code, with the need's name
-- behind it. The measure is the depth, and in it the rank of the member; the loops' invariants are `ArrayGoing` and `FieldsGoing`. Assumes nothing.
use Prim.Native.Nat.{◌+◌, ◌*◌}
use Rattle.measuring.proofs.Loops.{ArrayGoing}
use Rattle.measuring.proofs.Loops.{FieldsGoing}
use Rattle.measuring.proofs.+measures.Given as goal

abbrev pub decreases-measure_array : goal.decreases-measure_array
decreases-measure_array l = 3 * l.depth + 2

abbrev pub decreases-measure_child : goal.decreases-measure_child
decreases-measure_child l = 3 * l.depth + 1

abbrev pub decreases-measure_fields : goal.decreases-measure_fields
decreases-measure_fields l = 3 * l.depth + 2

abbrev pub decreases-measure_lists : goal.decreases-measure_lists
decreases-measure_lists l = 3 * l.depth

abbrev pub invariant-measure_array-loop : goal.invariant-measure_array-loop
invariant-measure_array-loop l = ArrayGoing l.t l.c l.depth l.l l.from l.n l.w l.counter l.pos l.sum

abbrev pub invariant-measure_fields-loop : goal.invariant-measure_fields-loop
invariant-measure_fields-loop l = FieldsGoing l.t l.first l.n l.depth l.l l.from l.c l.counter l.pos l.sum
