-- `words::signed::half` meets its contract. Assumes nothing.
use Prim.Native.Nat.{◌^◌, ◌<◌}
use native.Mathlib.Nat.{mod-eq_of_lt, lt_of_le_of_lt, one-mul}
use lib.Dec.{lit<}
use Rattle.words.specs.Signed.{half_of}
use Rattle.words.proofs.SignedLaws.{half_le}
use Rattle.words.proofs.signed.half.Goals as goal

pub returns : goal.returns
returns c = let m : half_of c.args.k < 2 ^ 64 = lt_of_le_of_lt (half_le c.args.k c.requires.1) (lit< tt) in
    rw one-mul (mod-eq_of_lt m)
