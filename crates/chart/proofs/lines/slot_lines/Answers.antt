-- `chart::lines::slot_lines` meets its contract: in the loop the lines passed are claimed. Assumes nothing.
use mathlib.Core.Path.{refl, sym, ap, ◌∙◌}
use mathlib.Core.List.{List, [], ◌∷◌, ◌++◌}
use Prim.Native.Nat.{ℕ, ◌*◌}
use native.Mathlib.Omega.{arith}
use lib.ListN.{take}
use lib.Seq.{set-set}
use Rattle.chart.specs.Claims.{slot_lines}
use Rattle.chart.proofs.Claiming.{turn-none, turn, turn-all, padding-few, word-few, first-few, slot_turn, neat-front, child-path, child-neat}
use Rattle.chart.proofs.lines.slot_lines.Goals as goal

pub overflow_add-lines : goal.overflow_add-lines
overflow_add-lines c = omega (arith, c.requires.within)

pub slots_on_line-each-requires : goal.slots_on_line-each-requires
slots_on_line-each-requires c = c.requires.whole

pub overflow_add-child : goal.overflow_add-child
overflow_add-child c = omega (arith, c.requires.more)

pub loop-j-init : goal.loop-j-init
loop-j-init c = (c.requires.long, refl, λ i. refl, turn-none _ _)

pub overflow_mul-child : goal.overflow_mul-child
overflow_mul-child c = let a = c.args in
    let each = c.slots_on_line-each in
    omega (arith, c.requires.within, first-few a.w each.result c.loop-j.j each.ensures)

pub overflow_cast-child : goal.overflow_cast-child
overflow_cast-child c = let g = c.requires in
    let l = c.loop-j in
    let a = c.args in
    let each = c.slots_on_line-each in
    record { fits = omega (arith, g.within, first-few a.w each.result l.j each.ensures) }

pub bounds-child-n : goal.bounds-child-n
bounds-child-n c = omega (arith, c.requires.more)

pub overflow_add-line : goal.overflow_add-line
overflow_add-line c = omega (arith, c.requires.within)

pub padding-requires : goal.padding-requires
padding-requires c = omega (arith, c.requires.within)

pub overflow_add-word : goal.overflow_add-word
overflow_add-word c = let a = c.args in
    let l = c.loop-j in
    let slot-word = c.slot_word-word in
    omega (arith, c.padding.ensures, padding-few a.size l.j, slot-word.ensures, word-few a.w)

pub claim-requires : goal.claim-requires
claim-requires c = let l = c.loop-j in
    let g = c.requires in
    let a = c.args in
    record { long = l.invariant.0; within = omega (arith, g.within); neat = child-neat a.path g.neat g.more l.child _ l.invariant.1 (l.invariant.2 _) }

pub loop-j-preserved : goal.loop-j-preserved
loop-j-preserved c = let a = c.args in
    let l = c.loop-j in
    let g = c.requires in
    let claim = c.claim in
    let padding = c.padding in
    let slot-word = c.slot_word-word in
    let p = a.path in
    let q = child-path p g.neat g.more l.child _ l.invariant.1 (l.invariant.2 _) in
    let front = neat-front p g.neat in
    let each = c.slots_on_line-each in
    let path = q ∙ ap (λ (u : List ℕ). u ++ (each.result * l.j ∷ [])) (sym front) in (
      claim.auto.chart ∙ l.invariant.0,
      l.invariant.1,
      λ i. set-set l.child.steps p.len _ i ∙ l.invariant.2 i,
      turn _ _ _ l.invariant.3
          (slot_turn _ _ _ _ _ padding.ensures a.w _ _ (take p.len p.steps) _ each.ensures slot-word.ensures path claim.ensures),
    )

pub shape_of-chart : goal.shape_of-chart
shape_of-chart c = c.loop-j.invariant.0 ∙ sym c.requires.long

pub returns : goal.returns
unfolding slot_lines
returns c = let a = c.args in
    let g = c.requires in
    let l = c.loop-j in
    rw (← (neat-front a.path g.neat)) (turn-all _ _ l.j _ l.invariant.3 (omega arith) (omega arith))
