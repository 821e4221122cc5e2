-- `compare::is_leaf` meets its contract. Assumes nothing.
use Rattle.std.proofs.Common.{◌/◌, ◌^◌, length, ap, arith}
use Rattle.words.proofs.Powers.{mask_is}
use Rattle.compare.proofs.Leaves.{leaf-in, sixteen}
use Rattle.compare.proofs.is_leaf.Goals as goal

pub offset_bounds-lines-w : goal.offset_bounds-lines-w
offset_bounds-lines-w c = omega (arith, mask_is (c.args.w / 2 ^ 28) 4)

pub bounds-lines-w : goal.bounds-lines-w
bounds-lines-w c = omega (arith, ap length c.requires, sixteen, mask_is (c.args.w / 2 ^ 28) 4)

pub returns : goal.returns
returns c = search leaf-in
