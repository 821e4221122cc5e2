-- `shelf::number` meets its contract: s is none of the first i schemas, and the entry of schema i starts at `at`. Assumes nothing.
use mathlib.Core.Path.{◌≡◌}
use Rattle.shelf.specs.Catalogue.{start_of}
use Rattle.shelf.proofs.Searching.{NoneTo}
use Rattle.shelf.proofs.number.Given as goal

abbrev pub invariant-loop-i : goal.invariant-loop-i
invariant-loop-i l = (l.at ≡ start_of l.t l.i) × NoneTo l.t l.s l.i
