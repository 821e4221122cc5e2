-- The top bit, as the entry says it. Assumes nothing.
use Rattle.std.proofs.Common.{◌/◌, ◌^◌}
use Rattle.words.proofs.Powers.{mask_is}
use Rattle.table.specs.Words.{top_in}
use Rattle.table.proofs.top.Goals as goal

pub returns : goal.returns
unfolding top_in
returns c = mask_is (c.args.w / 2 ^ 16) 6
