-- The cycle of `listing` meets its contracts: what each call asks, and each return, is one law, in the order of the code, with the need's name
-- behind it. The measure is the depth, and in it the rank of the member; the loops' invariants are `AtField` and `AtItem`. Assumes nothing.
use Prim.Native.Nat.{◌+◌, ◌*◌}
use Rattle.listing.proofs.Children.{AtItem}
use Rattle.listing.proofs.Items.{Containers}
use Rattle.listing.proofs.Structs.{AtField}
use Rattle.table.specs.Tables.{type_of}
use Rattle.listing.proofs.+lists.Given as goal

abbrev pub decreases-list_fields : goal.decreases-list_fields
decreases-list_fields l = l.depth * 3 + 3

abbrev pub decreases-list_items : goal.decreases-list_items
decreases-list_items l = l.depth * 3 + 3

abbrev pub decreases-list_map : goal.decreases-list_map
decreases-list_map l = l.depth * 3 + 1

abbrev pub decreases-list_value : goal.decreases-list_value
decreases-list_value l = l.depth * 3 + 2

abbrev pub invariant-list_fields-loop-i : goal.invariant-list_fields-loop-i
invariant-list_fields-loop-i l = AtField l.t l.first l.n l.depth l.b l.pos l.at l.i l.slot l.initial.out l.out l.p

abbrev pub invariant-list_items-loop-i : goal.invariant-list_items-loop-i
invariant-list_items-loop-i l = (Containers l.t l.at l.depth l.b l.pos l.w) × AtItem (type_of l.t l.at l.depth) l.b l.n 8 l.pos l.i l.slot l.initial.out l.out l.p
