-- `reading::walk::is_place` meets its contract. Assumes nothing.
use Rattle.reading.proofs.OnPath.{OnKin}
use Rattle.reading.proofs.walk.is_place.Given as goal

abbrev pub invariant-loop-k : goal.invariant-loop-k
invariant-loop-k l = OnKin l.t l.path l.initial.x l.done l.x l.k
