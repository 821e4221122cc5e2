-- `reading::walk::is_place` meets its contract. Assumes nothing.
use Rattle.std.proofs.Common.{refl, arith}
use Rattle.reading.proofs.OnPath.{kin-start, kin-off, kin-on, kin-end}
use Rattle.reading.proofs.walk.is_place.Goals as goal

pub loop-k-init : goal.loop-k-init
loop-k-init c = kin-start c.requires c.args.done

pub bounds-path-k : goal.bounds-path-k
bounds-path-k c = omega (arith, c.requires.few, c.loop-k-test.true)

pub kin-requires : goal.kin-requires
kin-requires c = c.loop-k.invariant.is

pub returns-in_default : goal.returns-in_default
returns-in_default c = kin-off c.loop-k.invariant c.loop-k-test.true refl c.kin.ensures c.in_default.is

pub loop-k-preserved : goal.loop-k-preserved
loop-k-preserved c = kin-on c.loop-k.invariant c.loop-k-test.true refl c.kin.ensures c.in-Some.is

pub returns : goal.returns
returns c = kin-end c.loop-k.invariant c.loop-k-test.false
