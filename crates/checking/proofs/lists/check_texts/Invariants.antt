-- `checking::lists::check_texts` meets its contract: before element i, what is left leads to the same end. Assumes nothing.
use mathlib.Core.Bool.{not}
use Prim.Native.Nat.{◌+◌, ◌*◌, ◌-◌}
use lib.Dec.{eqb}
use Rattle.schema.specs.Types.{text}
use Rattle.checking.specs.Room.{text_if}
use Rattle.checking.proofs.Loops.{items, At, astray}
use Rattle.checking.proofs.lists.check_texts.Given as goal

abbrev pub invariant-loop-i : goal.invariant-loop-i
invariant-loop-i g l =
    At (items (text (text_if (not (eqb g.row.TEXT 0)))) l.n) l.b l.n l.slots l.start l.i l.slot l.cur l.stop l.done l.since

abbrev pub decreases-loop-i : goal.decreases-loop-i
decreases-loop-i g l = 2 * (l.n - l.i) + astray l.b l.slot l.cur
