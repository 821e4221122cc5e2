-- `setting::leaves::of_float64` meets its contract. Assumes nothing.
use Rattle.setting.proofs.Fits.{float64-fits, float64-unfit}
use borrow.Author.Rules.{rules}
use Rattle.setting.proofs.leaves.of_float64.Goals as goal

pub returns-then-k-eq-FLOAT64 : goal.returns-then-k-eq-FLOAT64
returns-then-k-eq-FLOAT64 c = float64-fits c.args.k (search rules) c.args.b c.ranges.b.fits

pub returns : goal.returns
returns c = float64-unfit c.args.k c.requires (search rules) c.args.b
