-- `picture::spaced` meets its contract: a space and two digits for each byte passed. Assumes nothing.
use mathlib.Core.Path.{◌≡◌}
use Prim.Native.Nat.{◌+◌, ◌*◌}
use lib.ListN.{length, take}
use Rattle.lettering.specs.Text.{Puts}
use Rattle.picture.specs.Picture.{spaced}
use Rattle.picture.proofs.spaced.Given as goal

abbrev pub invariant-loop-x : goal.invariant-loop-x
invariant-loop-x l = (length l.out ≡ length l.initial.out) × (l.next ≡ l.at + 3 * l.x-index)
    × Puts l.initial.out l.at (spaced (take l.x-index l.bytes)) l.next l.out
