-- The mark, as the entry says it. Assumes nothing.
use Rattle.words.proofs.Powers.{mask_is}
use Rattle.table.specs.Words.{mark_in}
use Rattle.table.proofs.mark.Goals as goal

pub returns : goal.returns
unfolding mark_in
returns c = mask_is c.args.w 16
