-- The cycle of `putting` meets its contracts: what each call asks, and each return, is one law, in the order of the code, with the need's name
-- behind it. The measure is the depth, and in it the rank of the member; the loops' invariants are `ArrayPaints` and `FieldsPaints`. Assumes nothing.
use Prim.Native.Nat.{◌+◌, ◌*◌}
use Rattle.putting.proofs.Arrays.{ArrayPaints}
use Rattle.putting.proofs.Fields.{FieldsPaints}
use Rattle.putting.proofs.+puts.Given as goal

abbrev pub decreases-put_array : goal.decreases-put_array
decreases-put_array l = 3 * l.depth + 3

abbrev pub decreases-put_fields : goal.decreases-put_fields
decreases-put_fields l = 3 * l.depth + 1

abbrev pub decreases-put_value : goal.decreases-put_value
decreases-put_value l = 3 * l.depth + 2

abbrev pub invariant-put_array-loop-i : goal.invariant-put_array-loop-i
invariant-put_array-loop-i l = ArrayPaints l.t l.c l.depth l.e l.w l.kind l.n l.l l.from l.pos l.initial.out l.out l.i l.at l.slot l.cur

abbrev pub invariant-put_fields-loop-i : goal.invariant-put_fields-loop-i
invariant-put_fields-loop-i l = FieldsPaints l.t l.c l.depth l.n l.l l.from l.pos l.initial.out l.out l.field l.i l.at l.slot l.cur
