-- `words::nulls::is_null` meets its contract. Assumes nothing.
use Prim.Native.Nat.{◌+◌, ◌/◌, ◌%◌}
use lib.ListN.{get_or}
use Rattle.words.proofs.BitLaws.{test_bit}
use Rattle.words.proofs.nulls.is_null.Goals as goal

pub returns : goal.returns
returns c = let a = c.args in
    rw c.mask.ensures (test_bit (get_or a.b.now (a.at + a.i / 8) 0) (a.i % 8))
