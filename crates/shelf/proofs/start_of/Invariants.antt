-- `shelf::start_of` meets its contract: the entry of schema i starts at `at`. Assumes nothing.
use mathlib.Core.Path.{◌≡◌}
use Rattle.shelf.specs.Catalogue.{start_of}
use Rattle.shelf.proofs.start_of.Given as goal

abbrev pub invariant-loop-i : goal.invariant-loop-i
invariant-loop-i l = l.at ≡ start_of l.t l.i
