-- `picture::picture` meets its contract: the lines passed stand one behind the other. Assumes nothing.
use mathlib.Core.Path.{refl}
use native.Mathlib.Omega.{arith}
use Rattle.picture.proofs.Drawing.{line-most}
use Rattle.picture.proofs.Pictures.{drawn-start, drawn-next, drawn-few, drawn-end}
use Rattle.picture.proofs.picture.Goals as goal

pub overflow_add-n : goal.overflow_add-n
overflow_add-n g c = omega (arith, c.requires.1)

pub loop-u-init : goal.loop-u-init
loop-u-init g c = drawn-start c.requires.2

pub spill-requires : goal.spill-requires
spill-requires g c = let d = c.loop-u.invariant in omega (arith, d.room, d.within, d.long)

pub line-next-requires : goal.line-next-requires
line-next-requires g c =
    let d = c.loop-u.invariant in
    (omega (arith, d.room, d.long, c.in_ok-at.ensures.spilt.few), c.requires.0, omega (arith, c.loop-u-test.true), c.requires.1)

pub under-used-requires : goal.under-used-requires
under-used-requires g c =
    let line = c.line-next in
    let d = c.loop-u.invariant in
    let few = line-most c.args.row.now c.args.chart.now c.loop-u.u (omega (arith, c.loop-u-test.true)) in
    omega (arith, d.room, d.long, c.in_ok-at.ensures.spilt.few, line.ensures.next, line.auto.out, few)

pub loop-u-preserved : goal.loop-u-preserved
loop-u-preserved g c =
    let line = c.line-next in
    let under = c.under-used in
    drawn-next c.loop-u.invariant c.loop-u-test.true c.in_ok-at.ensures.spilt line.ensures line.auto.out under.ensures under.auto.out

pub behind-requires : goal.behind-requires
behind-requires g c = let d = c.loop-u.invariant in omega (arith, d.room, d.within, d.long)

pub returns : goal.returns
returns g c = record { walked = drawn-end c.loop-u.invariant c.loop-u-test.false c.behind.ensures; held = λ l. refl }

pub returns-in_err-at-clause-held : goal.returns-in_err-at-clause-held
returns-in_err-at-clause-held g c l = let ok = c.in_err-at.ensures.held (drawn-few c.loop-u.invariant l) in absurd (cc ok)
