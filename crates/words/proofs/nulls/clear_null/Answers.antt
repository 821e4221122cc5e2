-- `words::nulls::clear_null` meets its contract. Assumes nothing.
use Prim.Native.Nat.{◌+◌, ◌/◌, ◌%◌}
use native.Mathlib.Nat.{mod-lt}
use mathlib.Core.Path.{ap}
use lib.Dec.{lit<}
use lib.ListN.{get_or, set}
use Rattle.words.proofs.BitLaws.{clear-bit}
use Rattle.words.proofs.nulls.clear_null.Goals as goal

pub returns : goal.returns
returns c = let a = c.args in
    rw c.mask.ensures
    (ap (set a.b.now (a.at + a.i / 8))
    (clear-bit (get_or a.b.now (a.at + a.i / 8) 0) (a.i % 8) (mod-lt a.i (lit< tt)) (c.slice_known-2-1.given (a.at + a.i / 8)).fits))
