-- `words::finds::first_set` meets its contract: from i on the same byte is found. Assumes nothing.
use mathlib.Core.Path.{◌≡◌, refl}
use native.Mathlib.Omega.{arith}
use Rattle.words.proofs.FirstSet.{found-on, found_here, found_none}
use Rattle.words.proofs.finds.first_set.Goals as goal

pub loop-i-init : goal.loop-i-init
loop-i-init c = refl

pub returns-then-b-i-ne0 : goal.returns-then-b-i-ne0
returns-then-b-i-ne0 c = let a = c.args in let l = c.loop-i in
    found_here a.b.now a.at a.end l.i (omega arith) (omega arith) c.if-b-i-ne0.true l.invariant

pub loop-i-preserved : goal.loop-i-preserved
loop-i-preserved c = let a = c.args in let l = c.loop-i in
    found-on a.b.now a.at a.end l.i (omega arith) (omega arith) c.if-b-i-ne0.false l.invariant

pub returns : goal.returns
returns c = let a = c.args in
    let e : c.loop-i.i ≡ a.end = omega arith in
    found_none a.b.now a.at a.end (rw e at c.loop-i.invariant)
