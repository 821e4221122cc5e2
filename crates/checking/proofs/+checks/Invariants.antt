-- The cycle of `checking` meets its contracts: remaining depth falls along the calls, and each loop leads to the end that it started with.
-- What each place of the code asks is one law, in the order of the code, with the need's name behind it. Assumes nothing.
use Prim.Native.Nat.{◌+◌, ◌*◌, ◌-◌}
use Rattle.checking.proofs.Loops.{items, At, astray}
use Rattle.checking.proofs.StructLoops.{FieldAt}
use Rattle.table.specs.Tables.{type_of}
use Rattle.checking.proofs.+checks.Given as goal

-- the measure of a call: the depth, and in it the rank of the member
abbrev pub decreases-check_fields : goal.decreases-check_fields
decreases-check_fields l = l.depth * 8 + 2

abbrev pub decreases-check_items : goal.decreases-check_items
decreases-check_items l = l.depth * 8 + 2

abbrev pub decreases-check_list : goal.decreases-check_list
decreases-check_list l = l.depth * 8 + 3

abbrev pub decreases-check_map : goal.decreases-check_map
decreases-check_map l = l.depth * 8 + 4

abbrev pub decreases-check_struct : goal.decreases-check_struct
decreases-check_struct l = l.depth * 8 + 5

abbrev pub invariant-check_fields-loop-i : goal.invariant-check_fields-loop-i
invariant-check_fields-loop-i l = FieldAt l.t l.first l.depth l.n l.b l.slots (l.slots + 8 * l.n) l.c l.i l.slot l.cur l.stop l.done l.since

abbrev pub decreases-check_fields-loop-i : goal.decreases-check_fields-loop-i
decreases-check_fields-loop-i l = 2 * (l.n - l.i) + astray l.b l.slot l.cur

abbrev pub invariant-check_items-loop-i : goal.invariant-check_items-loop-i
invariant-check_items-loop-i l = At (items (type_of l.t l.c l.depth) l.n) l.b l.n l.slots (l.slots + 8 * l.n) l.i l.slot l.cur l.stop l.done l.since

abbrev pub decreases-check_items-loop-i : goal.decreases-check_items-loop-i
decreases-check_items-loop-i l = 2 * (l.n - l.i) + astray l.b l.slot l.cur
