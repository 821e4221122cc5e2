-- `standing::maps::admit` meets its contract. Assumes nothing.
use mathlib.Core.Path.{sym, ◌∙◌}
use borrow.Author.Tests.{not-true, not-false}
use Rattle.standing.proofs.Marks.{admit-inside, admit-empty, admit-taken, admit-over, admit-full}
use Rattle.standing.proofs.maps.admit.Goals as goal

pub returns-then-is_null : goal.returns-then-is_null
returns-then-is_null c = let v = c.args in admit-inside v.m.now v.a v.b c.if-a-b.true (sym c.is_null.ensures ∙ c.if-is_null.true)

pub returns-then-a-b : goal.returns-then-a-b
returns-then-a-b c =
    let v = c.args in admit-empty v.m.now v.a v.b c.if-a-b.true (sym c.is_null.ensures ∙ c.if-is_null.false) _ c.set_null.ensures

pub returns-then-not-clear : goal.returns-then-not-clear
returns-then-not-clear c =
    let v = c.args in admit-taken v.m.now v.a v.b c.if-a-b.false (sym c.clear.ensures ∙ not-true _ c.if-not-clear.true-raw)

pub returns-then-not-clear-2 : goal.returns-then-not-clear-2
returns-then-not-clear-2 c =
    let v = c.args in admit-over v.m.now v.a v.b c.if-a-b.false (sym c.clear-2.ensures ∙ not-true _ c.if-not-clear-2.true-raw)

pub returns : goal.returns
returns c =
    let v = c.args in
    admit-full v.m.now v.a v.b c.if-a-b.false (sym c.clear.ensures ∙ not-false _ c.if-not-clear.false-raw)
    (sym c.clear-2.ensures ∙ not-false _ c.if-not-clear-2.false-raw) _ _ c.mark.ensures c.mark-2.ensures
