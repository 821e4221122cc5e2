-- The kind, as the entry says it. Assumes nothing.
use Rattle.std.proofs.Common.{◌/◌, ◌^◌}
use Rattle.words.proofs.Powers.{mask_is}
use Rattle.table.specs.Words.{place_in}
use Rattle.table.proofs.place.Goals as goal

pub returns : goal.returns
unfolding place_in
returns c = mask_is (c.args.w / 2 ^ 28) 4
