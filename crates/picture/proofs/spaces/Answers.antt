-- `picture::spaces` meets its contract. Assumes nothing.
use Rattle.picture.proofs.Drawing.{spaces-puts}
use Rattle.picture.proofs.spaces.Goals as goal

pub returns : goal.returns
returns c = spaces-puts _ _ _ (c.fill.ensures.after (λ y h. h)) c.requires
