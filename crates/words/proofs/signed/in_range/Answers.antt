-- `words::signed::in_range` meets its contract. A signed argument reaches a callee as
-- `to_z w64 (of_z w64 x)`, which is x. Assumes nothing.
use mathlib.Core.Path.{◌≡◌, ap, ◌∙◌}
use lib.Signed.{mag}
use mir.Syntax.{w64}
use mir.ValLaws.{to_z-of_z}
use Rattle.words.proofs.signed.in_range.Goals as goal

pub returns : goal.returns
returns c = let m : c.magnitude.result ≡ mag c.args.x = c.magnitude.ensures ∙ ap mag (to_z-of_z w64 c.args.x c.ranges.x) in
    rw (m, c.half.ensures)
