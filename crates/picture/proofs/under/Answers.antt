-- `picture::under` meets its contract. Assumes nothing.
use Rattle.picture.proofs.Drawing.{under-none, under-other, under-here}
use Rattle.picture.proofs.under.Goals as goal

pub returns-in-Some : goal.returns-in-Some
returns-in-Some c = under-here _ _ _ c.in-Some.is c.if-place-u.true c.mark.ensures

pub returns-in_default : goal.returns-in_default
returns-in_default c = under-other _ _ _ c.in-Some.is _ _ c.if-place-u.false

pub returns-in_default-2 : goal.returns-in_default-2
returns-in_default-2 c = under-none _ _ _ _ c.in_default.is
