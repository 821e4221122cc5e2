-- `table::rooms::with_out_in` meets its contract. Assumes nothing.
use Rattle.std.proofs.Common.{refl}
use Rattle.table.proofs.Got.{got, handed, none}
use Rattle.table.proofs.rooms.with_out_in.Goals as goal

pub returns-then-n-eq0-clause-refused : goal.returns-then-n-eq0-clause-refused
returns-then-n-eq0-clause-refused g c _ = (none c.build-n.ensures c.if-n-eq0.true, refl)

pub slice_bounds-step-end : goal.slice_bounds-step-end
slice_bounds-step-end g c = (got c.build-n.ensures c.if-n-eq0.false).room

pub step-requires : goal.step-requires
step-requires g c = c.requires.takes _ _ (handed c.build-n.ensures c.if-n-eq0.false) refl

pub returns-clause-made : goal.returns-clause-made
returns-clause-made g c = (_, _, _, handed c.build-n.ensures c.if-n-eq0.false, refl, c.step.ensures, refl)
