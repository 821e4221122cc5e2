-- `words::nulls::mask` meets its contract. Assumes nothing.
use Prim.Native.Nat.{◌^◌, ◌%◌, ◌<◌}
use native.Mathlib.Nat.{lt_of_lt_of_le, mod-lt, mod-eq_of_lt, one-mul}
use lib.Dec.{lit<, lit≤}
use lib.Bits.{mask_lt}
use lib.Pow.{pow-lt}
use Rattle.words.proofs.Powers.{mask_is}
use Rattle.words.proofs.nulls.mask.Goals as goal

pub overflow_cast-result : goal.overflow_cast-result
overflow_cast-result c = record { fits = lt_of_lt_of_le (mask_lt c.args.i 3) (lit≤ tt) }

pub overflow_shl-result : goal.overflow_shl-result
overflow_shl-result c = mask_lt c.args.i 3

pub returns : goal.returns
returns c = let m : 2 ^ (c.args.i % 8) < 2 ^ 8 = pow-lt (mod-lt c.args.i (lit< tt)) in
    rw (mask_is c.args.i 3, one-mul) (mod-eq_of_lt m)
