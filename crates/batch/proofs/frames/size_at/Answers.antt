-- `batch::frames::size_at` meets its contract. Assumes nothing.
use native.Mathlib.Omega.{arith}
use Rattle.words.proofs.Numbers.{bytes_of}
use Rattle.batch.proofs.Sizes.{says}
use Rattle.batch.proofs.frames.size_at.Goals as goal

pub returns : goal.returns
returns c = let a = c.args in
    let h = bytes_of a.b.now (λ i. (c.type_inv.b i).fits) in
    says a.at h (omega arith) _ _ _ _
    c.wide-x3.ensures.0
    c.wide-x2.ensures.0 c.wide-x1.ensures.0 c.wide-x0.ensures.0
