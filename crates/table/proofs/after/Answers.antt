-- The place behind the last descendant, as the entry says it. Assumes nothing.
use Rattle.std.proofs.Common.{refl}
use Rattle.table.specs.Words.{after_in}
use Rattle.table.proofs.after.Goals as goal

pub returns : goal.returns
unfolding after_in
returns c = refl
