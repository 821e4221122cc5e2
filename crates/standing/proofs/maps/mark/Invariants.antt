-- `standing::maps::mark` meets its contract: marking what is left marks all. Assumes nothing.
use mathlib.Core.Path.{◌≡◌}
use Prim.Native.Nat.{◌-◌}
use Rattle.standing.specs.Maps.{marked}
use Rattle.standing.proofs.maps.mark.Given as goal

abbrev pub invariant-loop-q : goal.invariant-loop-q
invariant-loop-q l = marked l.m l.at l.q (l.b - l.q) ≡ marked l.initial.m l.at l.a (l.b - l.a)
