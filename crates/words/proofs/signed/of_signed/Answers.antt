-- `words::signed::of_signed` meets its contract. Assumes nothing.
use mathlib.Core.Path.{◌≡◌, sym, ap, ◌∙◌}
use lib.Signed.{mag}
use mir.Syntax.{w64}
use mir.ValLaws.{to_z-of_z}
use native.Mathlib.Omega.{arith}
use Rattle.words.specs.Signed.{half_of, is_negative}
use Rattle.words.proofs.SignedLaws.{half_le, of_low, of-high}
use Rattle.words.proofs.signed.of_signed.Goals as goal
use Rattle.words.proofs.signed.of_signed.Goals.{After-magnitude-m, After-negative}

size : (c : After-magnitude-m) → c.magnitude-m.result ≡ mag c.args.x
size c = c.magnitude-m.ensures ∙ ap mag (to_z-of_z w64 c.args.x c.ranges.x)

sign : (c : After-negative) → is_negative c.args.x ≡ c.negative.result
sign c = sym (c.negative.ensures ∙ ap is_negative (to_z-of_z w64 c.args.x c.ranges.x))

pub overflow_sub-result-then-negative : goal.overflow_sub-result-then-negative
overflow_sub-result-then-negative c = omega (arith, size (goal.at.overflow_sub-result-then-negative c).After-magnitude-m, c.half-h.ensures, c.requires.2)

pub overflow_add-result : goal.overflow_add-result
overflow_add-result c = omega (
  arith,
  half_le c.args.k c.requires.1,
  c.half-h.ensures,
)

pub returns-then-negative : goal.returns-then-negative
returns-then-negative c = rw (c.half-h.ensures, size (goal.at.returns-then-negative c).After-magnitude-m)
    (of-high (half_of c.args.k) c.args.x (sign (goal.at.returns-then-negative c).After-negative ∙ c.if-negative.true) c.requires.2)

pub returns-else-negative : goal.returns-else-negative
returns-else-negative c = rw (size (goal.at.returns-else-negative c).After-magnitude-m)
    (of_low (half_of c.args.k) c.args.x (sign (goal.at.returns-else-negative c).After-negative ∙ c.if-negative.false))
