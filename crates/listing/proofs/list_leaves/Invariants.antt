-- `listing::list_leaves` meets its contract: `AtItem` is its invariant. Assumes nothing.
use Rattle.table.specs.Words.{place_in}
use Rattle.listing.specs.Room.{leaf_at, Leaves}
use Rattle.listing.proofs.Children.{AtItem}
use Rattle.listing.proofs.list_leaves.Given as goal

abbrev pub invariant-loop-i : goal.invariant-loop-i
invariant-loop-i l = (Leaves l.w l.b l.pos) × AtItem (leaf_at (place_in l.w)) l.b l.n l.wide l.pos l.i l.slot l.initial.out l.out l.p
