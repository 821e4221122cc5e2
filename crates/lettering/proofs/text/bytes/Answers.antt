-- `lettering::text::bytes` meets its contract: two digits for each byte passed. Assumes nothing.
use mathlib.Core.Path.{refl, ◌∙◌}
use native.Mathlib.Omega.{arith}
use Rattle.lettering.proofs.Putting.{run-long, hexes-none, hexes-more, bytes-none, bytes-all}
use Rattle.lettering.proofs.Lengths.{hex-length}
use Rattle.lettering.proofs.text.bytes.Goals as goal

pub shape_of-out-then-n-eq0 : goal.shape_of-out-then-n-eq0
shape_of-out-then-n-eq0 c = c.byte.auto.out

pub returns-then-n-eq0 : goal.returns-then-n-eq0
returns-then-n-eq0 c = let if1 = c.if-n-eq0 in
    let byte = c.byte in
    bytes-none c.args.row.now c.args.start _ if1.true byte.ensures

pub loop-x-init : goal.loop-x-init
loop-x-init c = (refl, omega arith, hexes-none _ c.args.row.now _)

pub hex-next-requires : goal.hex-next-requires
hex-next-requires c = let a = c.args in omega (arith, run-long a.row.now a.start a.n c.requires.1)

pub loop-x-preserved : goal.loop-x-preserved
loop-x-preserved c = let l = c.loop-x in
    let hex = c.hex-next in (
      hex.auto.out ∙ l.invariant.0,
      omega (arith, hex.ensures.next, hex-length 2 c.from.result),
      hexes-more _ l.x-index _ c.loop-x-test.true c.from.ensures l.invariant.2 hex.ensures,
    )

pub returns : goal.returns
returns c = let a = c.args in
    bytes-all a.row.now a.start a.n c.loop-x.x-index c.if-n-eq0.false c.requires.1 c.loop-x-test.false c.loop-x.invariant.2
