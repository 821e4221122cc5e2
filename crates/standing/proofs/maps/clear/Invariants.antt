-- `standing::maps::clear` meets its contract: the bits that are left are clear where all are. Assumes nothing.
use mathlib.Core.Path.{◌≡◌}
use Prim.Native.Nat.{◌-◌}
use Rattle.standing.specs.Maps.{clear_from}
use Rattle.standing.proofs.maps.clear.Given as goal

abbrev pub invariant-loop-q : goal.invariant-loop-q
invariant-loop-q l = clear_from l.m l.at l.q (l.b - l.q) ≡ clear_from l.m l.at l.a (l.b - l.a)
