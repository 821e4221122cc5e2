-- `setting::leaves::of_float32` meets its contract. Assumes nothing.
use Rattle.setting.proofs.Fits.{float32-fits, float32-unfit}
use borrow.Author.Rules.{rules}
use Rattle.setting.proofs.leaves.of_float32.Goals as goal

pub returns-then-k-eq-FLOAT32 : goal.returns-then-k-eq-FLOAT32
returns-then-k-eq-FLOAT32 c = float32-fits c.args.k (search rules) c.args.b c.ranges.b.fits

pub returns : goal.returns
returns c = float32-unfit c.args.k c.requires (search rules) c.args.b
