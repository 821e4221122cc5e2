-- `setting::leaves::of_bool` meets its contract. Assumes nothing.
use Rattle.setting.proofs.Fits.{bool-fits, bool-unfit}
use borrow.Author.Rules.{rules}
use Rattle.setting.proofs.leaves.of_bool.Goals as goal

pub returns-then-k-eq-BOOL : goal.returns-then-k-eq-BOOL
returns-then-k-eq-BOOL c = bool-fits c.args.k (search rules) c.args.v _ c.digit_of.ensures

pub returns : goal.returns
returns c = bool-unfit c.args.k c.requires (search rules) c.args.v
