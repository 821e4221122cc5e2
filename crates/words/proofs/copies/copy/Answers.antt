-- `words::copies::copy` meets its contract: the first i bytes are copied. Assumes nothing.
use mathlib.Core.Path.{refl}
use native.Mathlib.Omega.{arith}
use Rattle.words.proofs.Turns.{copy-turn}
use Rattle.words.proofs.copies.copy.Goals as goal

pub loop-i-init : goal.loop-i-init
loop-i-init c = refl

pub loop-i-preserved : goal.loop-i-preserved
loop-i-preserved c = let a = c.args in
    rw c.loop-i.invariant (copy-turn a.out.now a.src.now a.at a.from c.loop-i.i (omega arith))
