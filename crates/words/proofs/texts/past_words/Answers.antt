-- `words::texts::past_words` meets its contract: from i on it is text where the whole is. Assumes nothing.
use mathlib.Core.Path.{refl}
use native.Mathlib.Omega.{arith}
use Rattle.words.proofs.TextTurns.{eight-on}
use Rattle.words.proofs.texts.past_words.Goals as goal

pub loop-i-preserved : goal.loop-i-preserved
loop-i-preserved c = let a = c.args in
    let l = c.loop-i in
    (omega arith, omega arith, eight-on a.b.now a.at a.end l.i (omega arith) (omega arith) (omega arith) (c.if-ascii8.ensures refl) l.invariant.2)
