-- A struct's fields, as the entry says them. Assumes nothing.
use Rattle.std.proofs.Common.{◌/◌, ◌^◌}
use Rattle.words.proofs.Powers.{mask_is}
use Rattle.table.specs.Words.{count_in}
use Rattle.table.proofs.count.Goals as goal

pub returns : goal.returns
unfolding count_in
returns c = mask_is (c.args.w / 2 ^ 36) 8
