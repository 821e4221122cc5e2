-- The width, as the entry says it. Assumes nothing.
use Rattle.std.proofs.Common.{◌/◌, ◌^◌}
use Rattle.words.proofs.Powers.{mask_is}
use Rattle.table.specs.Words.{width_in}
use Rattle.table.proofs.width.Goals as goal

pub returns : goal.returns
unfolding width_in
returns c = mask_is (c.args.w / 2 ^ 22) 4
