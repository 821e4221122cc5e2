-- `standing::maps::mark` meets its contract: marking what is left marks all. Assumes nothing.
use mathlib.Core.Path.{sym, ◌∙◌}
use native.Mathlib.Omega.{arith}
use Rattle.standing.proofs.Marks.{marked_step, marked-end}
use Rattle.standing.proofs.maps.mark.Goals as goal

pub loop-q-preserved : goal.loop-q-preserved
loop-q-preserved c = let a = c.args in let l = c.loop-q in
    rw c.set_null.ensures (sym (marked_step l.m a.at l.q a.b c.loop-q-test.true)) ∙ l.invariant

pub returns : goal.returns
returns c = let a = c.args in sym (marked-end c.loop-q.m a.at c.loop-q.q a.b (omega arith)) ∙ c.loop-q.invariant
