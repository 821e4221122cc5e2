-- `words::nulls::set_null` meets its contract. Assumes nothing.
use Prim.Native.Nat.{◌+◌, ◌/◌, ◌%◌}
use mathlib.Core.Path.{ap}
use lib.ListN.{get_or, set}
use Rattle.words.proofs.BitLaws.{or-bit}
use Rattle.words.proofs.nulls.set_null.Goals as goal

pub returns : goal.returns
returns c = let a = c.args in
    rw c.mask.ensures (ap (set a.b.now (a.at + a.i / 8)) (or-bit (get_or a.b.now (a.at + a.i / 8) 0) (a.i % 8)))
