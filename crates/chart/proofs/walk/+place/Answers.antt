-- `chart::walk::place` meets its contract: the measure is how many steps a path may still take; in the loop the children passed have made
-- their claims. Assumes nothing.
use mathlib.Core.Path.{refl, sym, ap, ◌∙◌}
use mathlib.Core.List.{List, [], ◌∷◌, ◌++◌}
use native.Mathlib.Omega.{arith}
use lib.ListN.{take}
use lib.Seq.{set-set}
use Rattle.chart.proofs.Claiming.{neat-front, child-path, child-neat}
use Rattle.chart.proofs.Walking.{walk-last, walk_none, walk_turn, walk-all}
use Prim.Native.Nat.{ℕ}
use Rattle.chart.proofs.walk.+place.Goals as goal

pub returns-then-n-ge16 : goal.returns-then-n-ge16
returns-then-n-ge16 t c = walk-last _ _ c.args.path _ c.if-n-ge16.true

pub label-count-requires : goal.label-count-requires
label-count-requires t c = (c.requires, c.if-n-ge16.false)

pub overflow_add-child : goal.overflow_add-child
overflow_add-child t c = omega (arith, c.if-n-ge16.false)

pub loop-i-init : goal.loop-i-init
loop-i-init t c =
    let label = c.label-count in
    let g = c.requires in
    (label.auto.chart ∙ g.long, refl, λ j. refl, walk_none _ _)

pub overflow_cast-child : goal.overflow_cast-child
overflow_cast-child t c = record { fits = omega (arith, c.label-count.ensures.few) }

pub bounds-child-n : goal.bounds-child-n
bounds-child-n t c = omega (arith, c.if-n-ge16.false)

pub place-requires : goal.place-requires
place-requires t c =
    let a = c.args in
    let l = c.loop-i in
    let g = c.requires in
    let if1 = c.if-n-ge16 in
    let p = a.path in (
      omega (arith, if1.false, l.invariant.1),
      record { long = l.invariant.0; opened = g.opened; neat = child-neat p g.neat if1.false l.child _ l.invariant.1 (l.invariant.2 _) },
    )

pub loop-i-preserved : goal.loop-i-preserved
loop-i-preserved t c =
    let a = c.args in
    let l = c.loop-i in
    let g = c.requires in
    let if1 = c.if-n-ge16 in
    let place = c.place in
    let p = a.path in
    let q = child-path p g.neat if1.false l.child l.i l.invariant.1 (l.invariant.2 _) in
    let path = q ∙ ap (λ (u : List ℕ). u ++ (l.i ∷ [])) (sym (neat-front p g.neat)) in (
      place.auto.chart ∙ l.invariant.0,
      l.invariant.1,
      λ j. set-set l.child.steps p.len _ j ∙ l.invariant.2 j,
      walk_turn _ _ p.len l.i (take p.len p.steps) _ _ l.invariant.1 path l.invariant.3 place.ensures,
    )

pub shape_of-chart : goal.shape_of-chart
shape_of-chart t c =
    let pre = c.requires in
    c.loop-i.invariant.0 ∙ sym pre.long

pub returns : goal.returns
returns t c =
    let a = c.args in
    let l = c.loop-i in
    let g = c.requires in
    let if1 = c.if-n-ge16 in
    let label = c.label-count in
    walk-all _ _ a.path l.i _ _ g.neat if1.false label.ensures (omega arith) (omega arith) l.invariant.3
