-- `shelf::start_of` meets its contract: the entry of schema i starts at `at`. Assumes nothing.
use mathlib.Core.Path.{refl}
use native.Mathlib.Omega.{arith}
use Rattle.shelf.specs.Catalogue.{start_of}
use Rattle.shelf.proofs.Entries.{start-next, at_lies}
use Rattle.shelf.proofs.start_of.Goals as goal

pub loop-i-init : goal.loop-i-init
unfolding start_of
loop-i-init c = refl

pub size_at-requires : goal.size_at-requires
size_at-requires c = let l = c.loop-i in omega (arith, at_lies c.requires l.i l.at (omega arith) l.invariant)

pub overflow_add-at-in-loop-i : goal.overflow_add-at-in-loop-i
overflow_add-at-in-loop-i c = let l = c.loop-i in omega (arith, at_lies c.requires l.i l.at (omega arith) l.invariant)

pub loop-i-preserved : goal.loop-i-preserved
loop-i-preserved c = let l = c.loop-i in start-next l.i l.invariant c.size_at.ensures
