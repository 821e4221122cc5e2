-- `lettering::text::path` meets its contract: the steps behind the first are put as far as the k-th. Assumes nothing.
use mathlib.Core.Path.{refl, ◌∙◌}
use native.Mathlib.Omega.{arith}
use Rattle.answers.specs.Paths.{path_of}
use Rattle.answers.proofs.PathLaws.{length-path}
use Rattle.lettering.proofs.Putting.{path-none, steps-none, steps-more, path-all}
use Rattle.lettering.proofs.Lengths.{decimal-twenty}
use Rattle.lettering.proofs.text.path.Goals as goal

pub returns-then-n-eq0 : goal.returns-then-n-eq0
returns-then-n-eq0 c = path-none _ _ _ (length-path c.args.path ∙ c.if-n-eq0.true)

pub step_at-requires : goal.step_at-requires
step_at-requires c = record { held = omega arith; counts = omega (arith, c.if-n-eq0.false) }

pub decimal-next-requires : goal.decimal-next-requires
decimal-next-requires c = omega (arith, c.requires.room)

pub loop-k-init : goal.loop-k-init
loop-k-init c = let if1 = c.if-n-eq0 in
    (refl, omega arith, steps-none _ _ (path_of c.args.path))

pub step_at-requires-in-loop-k : goal.step_at-requires-in-loop-k
step_at-requires-in-loop-k c = record { held = omega (arith, c.requires.few); counts = omega arith }

pub dotted-next-requires : goal.dotted-next-requires
dotted-next-requires c = let step-at = c.step_at in
    let decimal = c.decimal-next in
    omega (arith, c.requires.room, c.requires.few, decimal.ensures.next, decimal.auto.out, decimal-twenty step-at.result)

pub loop-k-preserved : goal.loop-k-preserved
loop-k-preserved c = let loop = c.loop-k in
    let step-at2 = c.step_at-in-loop-k in
    let dotted = c.dotted-next in (
      dotted.auto.out ∙ loop.invariant.0,
      omega (arith, dotted.ensures.next, decimal-twenty step-at2.result),
      steps-more
          (path_of c.args.path) loop.k _ loop.auto.k (rw (length-path c.args.path) (omega arith)) step-at2.ensures loop.invariant.2
          dotted.ensures,
    )

pub shape_of-out : goal.shape_of-out
shape_of-out c = c.loop-k.invariant.0 ∙ c.decimal-next.auto.out

pub returns : goal.returns
returns c = let if1 = c.if-n-eq0 in
    let step-at = c.step_at in
    let decimal = c.decimal-next in
    path-all (path_of c.args.path) c.loop-k.k _ (rw (length-path c.args.path) (omega (arith, if1.false)))
    (rw (length-path c.args.path) (omega arith)) step-at.ensures decimal.ensures c.loop-k.invariant.2
