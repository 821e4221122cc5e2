-- `table::line_of` meets its contract: the code's table is the one of the specification. Assumes nothing.
use Rattle.std.proofs.Common.{◌*◌, ◌/◌, ◌^◌, length, ap, arith}
use Rattle.words.proofs.Powers.{mask_is}
use Rattle.table.proofs.Lines.{line-in, sixteen}
use Rattle.table.proofs.line_of.Goals as goal

pub offset_bounds-lines-m : goal.offset_bounds-lines-m
offset_bounds-lines-m c = omega (arith, mask_is (c.args.m * 109 / 2 ^ 10) 4)

pub bounds-lines-m : goal.bounds-lines-m
bounds-lines-m c = omega (arith, sixteen, ap length c.requires.0, mask_is (c.args.m * 109 / 2 ^ 10) 4)

pub returns : goal.returns
returns c = search line-in
