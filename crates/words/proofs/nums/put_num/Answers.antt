-- `words::nums::put_num` meets its contract: one byte more at a time, by `puts-next`. Assumes nothing.
use native.Mathlib.Omega.{arith}
use Prim.Native.Nat.{ℕ, ◌/◌}
use mathlib.Core.Path.{refl, ap, ◌∙◌}
use Rattle.words.specs.Bytes.{le}
use Rattle.words.proofs.Turns.{div-next, puts-next}
use Rattle.words.proofs.nums.put_num.Goals as goal

pub loop-i-init : goal.loop-i-init
unfolding le
loop-i-init c = (refl, omega arith)

pub loop-i-preserved : goal.loop-i-preserved
loop-i-preserved c = let a = c.args in
    let l = c.loop-i in
    (puts-next a.b.now l.b a.at l.i a.v l.x l.invariant.0 l.invariant.1, ap (λ (n : ℕ). n / 256) l.invariant.1 ∙ div-next a.v l.i)
