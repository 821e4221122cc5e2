-- `standing::maps::clear` meets its contract: the bits that are left are clear where all are. Assumes nothing.
use mathlib.Core.Path.{sym, ◌∙◌}
use native.Mathlib.Omega.{arith}
use Rattle.standing.proofs.Marks.{clear-set, clear_step, clear-end}
use Rattle.standing.proofs.maps.clear.Goals as goal

pub returns-then-is_null : goal.returns-then-is_null
returns-then-is_null c = let a = c.args in
    sym (clear-set a.m.now a.at c.loop-q.q a.b c.loop-q-test.true (sym c.is_null.ensures ∙ c.if-is_null.true)) ∙ c.loop-q.invariant

pub loop-q-preserved : goal.loop-q-preserved
loop-q-preserved c = let a = c.args in
    sym (clear_step a.m.now a.at c.loop-q.q a.b c.loop-q-test.true (sym c.is_null.ensures ∙ c.if-is_null.false)) ∙ c.loop-q.invariant

pub returns : goal.returns
returns c = let a = c.args in sym (clear-end a.m.now a.at c.loop-q.q a.b (omega arith)) ∙ c.loop-q.invariant
