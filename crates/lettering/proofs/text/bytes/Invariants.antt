-- `lettering::text::bytes` meets its contract: two digits for each byte passed. Assumes nothing.
use mathlib.Core.Path.{◌≡◌}
use Prim.Native.Nat.{◌+◌, ◌*◌}
use lib.ListN.{length, take}
use Rattle.lettering.specs.Text.{hexes, Puts}
use Rattle.lettering.proofs.text.bytes.Given as goal

abbrev pub invariant-loop-x : goal.invariant-loop-x
invariant-loop-x l = (length l.out ≡ length l.initial.out) × (l.next ≡ l.at + 2 * l.x-index)
    × Puts l.initial.out l.at (hexes (take l.x-index l.x-items)) l.next l.out
