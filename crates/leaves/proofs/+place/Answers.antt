-- `leaves::place` meets its contract: the measure is how many steps a path may still take; in the loop the texts of the children
-- passed stand one behind the other. Assumes nothing.
use mathlib.Core.Path.{refl, sym, ◌∙◌}
use mathlib.Core.Bool.{true≢false}
use native.Mathlib.Omega.{arith}
use Rattle.leaves.proofs.Walking.{children-start, child-room, child-fits, children-next, show-room, shown-within, walked-last, below-fits, walked_all}
use Rattle.leaves.proofs.+place.Goals as goal

pub spill-requires : goal.spill-requires
spill-requires g t c = c.requires.within

pub show-next-requires : goal.show-next-requires
show-next-requires g t c = show-room c.requires c.in_ok-at.ensures.spilt

pub returns-then-n-ge16 : goal.returns-then-n-ge16
returns-then-n-ge16 g t c =
    record { walked = walked-last c.requires c.in_ok-at.ensures.spilt c.show-next.ensures c.if-n-ge16.true; held = λ l. refl }

pub loop-i-init : goal.loop-i-init
loop-i-init g t c =
    let show = c.show-next in
    children-start _ refl c.requires.steps (shown-within c.requires c.in_ok-at.ensures.spilt show.ensures show.auto.out)

pub overflow_cast-child : goal.overflow_cast-child
overflow_cast-child g t c = record { fits = omega (arith, c.show-next.ensures.few) }

pub place-requires : goal.place-requires
place-requires g t c κs e =
    let if1 = c.if-n-ge16 in
    let room = child-room c.loop-i.invariant if1.false c.requires c.show-next.auto.out in
    (omega (arith, if1.false, c.loop-i.invariant.len), (e, room))

pub loop-i-preserved : goal.loop-i-preserved
loop-i-preserved g t c =
    children-next c.loop-i.invariant c.if-n-ge16.false c.loop-i-test.true c.in_ok-next.ensures.walked c.place.auto.out

pub shape_of-out-in_err-next : goal.shape_of-out-in_err-next
shape_of-out-in_err-next g t c = c.place.auto.out ∙ c.loop-i.invariant.long ∙ c.show-next.auto.out

pub shape_of-out : goal.shape_of-out
shape_of-out g t c = c.loop-i.invariant.long ∙ c.show-next.auto.out

pub returns : goal.returns
returns g t c =
    let show = c.show-next in
    let walked = walked_all c.requires c.in_ok-at.ensures.spilt show.ensures refl refl c.if-n-ge16.false in
    record { walked = walked c.loop-i.invariant (omega (arith, c.loop-i-test.false, c.loop-i.auto.i-end)) show.auto.out; held = λ l. refl }

pub returns-in_err-next-clause-held : goal.returns-in_err-next-clause-held
returns-in_err-next-clause-held g t c l =
    let fits = below-fits c.requires c.in_ok-at.ensures.spilt c.show-next.ensures c.args.path refl refl c.if-n-ge16.false l in
    let ok = c.in_err-next.ensures.held (child-fits c.loop-i.invariant c.if-n-ge16.false c.loop-i-test.true fits) in
    absurd (true≢false (sym ok))
