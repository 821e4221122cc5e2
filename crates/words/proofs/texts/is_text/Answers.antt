-- `words::texts::is_text` meets its contract: from i on it is text where the whole is. Assumes nothing.
use mathlib.Core.Path.{refl, ◌∙◌}
use Prim.Native.Nat.{◌+◌, ◌≤◌}
use native.Mathlib.Omega.{arith}
use Rattle.words.proofs.TextTurns.{char-fits, char-none, char-on, one_on, eight-on, text-end}
use Rattle.words.proofs.texts.is_text.Goals as goal
use Rattle.words.proofs.texts.is_text.Goals.{In-Some}

fits : (c : In-Some) →
    let a = c.args in
    c.loop-i.i + c.in-Some.n ≤ a.end
fits c =
    let a = c.args in
    char-fits a.b.now a.at a.end c.loop-i.i (omega arith) (omega arith) c.in-Some.n c.in-Some.ensures.0

pub loop-i-preserved-then-ascii8 : goal.loop-i-preserved-then-ascii8
loop-i-preserved-then-ascii8 c = let a = c.args in
    let l = c.loop-i in
    let s = eight-on a.b.now a.at a.end l.i (omega arith) (omega arith) (omega arith) (c.if-ascii8.ensures refl) l.invariant.1 in
    (omega arith, c.past_words-i.ensures.2 ∙ s)

pub loop-i-preserved-then-b-i-lt128 : goal.loop-i-preserved-then-b-i-lt128
loop-i-preserved-then-b-i-lt128 c = let a = c.args in let l = c.loop-i in
    (omega arith, one_on a.b.now a.at a.end l.i (omega arith) (omega arith) c.if-b-i-lt128.true l.invariant.1)

pub returns-in_default : goal.returns-in_default
returns-in_default c = let a = c.args in
    char-none a.b.now a.at a.end c.loop-i.i (omega arith) (omega arith) c.in_default.ensures c.loop-i.invariant.1

pub overflow_add-i-in-loop-i : goal.overflow_add-i-in-loop-i
overflow_add-i-in-loop-i c = omega (arith, fits (goal.at.overflow_add-i-in-loop-i c).In-Some)

pub loop-i-preserved : goal.loop-i-preserved
loop-i-preserved c = let a = c.args in (
  fits (goal.at.loop-i-preserved c).In-Some,
  char-on a.b.now a.at a.end c.loop-i.i (omega arith) (omega arith) c.in-Some.n c.in-Some.ensures.0 c.in-Some.ensures.1 c.loop-i.invariant.1,
)

pub returns : goal.returns
returns c = let a = c.args in let l = c.loop-i in text-end a.b.now a.at a.end l.i (omega arith) l.invariant.1
