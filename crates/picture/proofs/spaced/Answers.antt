-- `picture::spaced` meets its contract: a space and two digits for each byte passed. Assumes nothing.
use native.Mathlib.Omega.{arith}
use mathlib.Core.Path.{refl, ◌∙◌}
use Rattle.lettering.proofs.Lengths.{hex-length}
use Rattle.picture.proofs.Drawing.{spaced-none, spaced-more, spaced-all}
use Rattle.picture.proofs.spaced.Goals as goal

pub loop-x-init : goal.loop-x-init
loop-x-init c = (refl, omega arith, spaced-none _ c.args.bytes.now _)

pub hex-next-requires : goal.hex-next-requires
hex-next-requires c = omega (arith, c.byte-digits.ensures.next, c.byte-digits.auto.out)

pub loop-x-preserved : goal.loop-x-preserved
loop-x-preserved c = let l = c.loop-x in
    let b = c.byte-digits in
    let h = c.hex-next in (
      h.auto.out ∙ b.auto.out ∙ l.invariant.0,
      omega (arith, b.ensures.next, h.ensures.next, hex-length 2 c.from.result),
      spaced-more c.args.bytes.now l.x-index _ c.loop-x-test.true c.from.ensures l.invariant.2 b.ensures h.ensures,
    )

pub returns : goal.returns
returns c = spaced-all c.args.bytes.now c.loop-x.x-index c.loop-x-test.false c.loop-x.invariant.2
