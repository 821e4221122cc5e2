-- `words::signed::negative` meets its contract. Assumes nothing.
use mathlib.Core.Path.{ap, ◌∙◌}
use lib.IntN.{ℤ, pos}
use lib.Signed.{lt_z}
use mir.Syntax.{w64}
use mir.ValLaws.{to_z-of_z}
use Rattle.words.proofs.SignedLaws.{below-zero}
use Rattle.words.proofs.signed.negative.Goals as goal

pub returns : goal.returns
returns c = ap (λ (z : ℤ). lt_z z (pos 0)) (to_z-of_z w64 c.args.x c.ranges.x) ∙ below-zero c.args.x
