-- `lettering::text::put` meets its contract. Assumes nothing.
use Rattle.lettering.proofs.Putting.{puts_whole}
use Rattle.lettering.proofs.text.put.Goals as goal

pub returns : goal.returns
returns c = puts_whole _ _ c.copy_from_slice.ensures.after c.requires
