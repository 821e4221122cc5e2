-- `picture::behind` meets its contract. Assumes nothing.
use Rattle.picture.proofs.Drawing.{behind-none, behind-inside, behind-last}
use Rattle.picture.proofs.behind.Goals as goal

pub returns-in-Some : goal.returns-in-Some
returns-in-Some c = behind-last _ _ _ c.in-Some.is c.if-n-place.true c.mark.ensures

pub returns-in_default : goal.returns-in_default
returns-in_default c = behind-inside _ _ _ c.in-Some.is _ _ c.if-n-place.false

pub returns-in_default-2 : goal.returns-in_default-2
returns-in_default-2 c = behind-none _ _ _ _ c.in_default.is
