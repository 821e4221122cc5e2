-- `words::finds::past_byte` meets its contract. Assumes nothing.
use native.Mathlib.Omega.{arith}
use lib.Bits.{mask_lt}
use Rattle.words.proofs.Powers.{mask_is}
use Rattle.words.proofs.FirstSet.{past-here, past-later}
use Rattle.words.proofs.finds.past_byte.Goals as goal

pub overflow_cast-n : goal.overflow_cast-n
overflow_cast-n c = omega (arith, mask_lt c.args.n 3)

pub overflow_shr-b : goal.overflow_shr-b
overflow_shr-b c = mask_lt c.args.n 3

pub returns-then-b-at-ne0 : goal.returns-then-b-at-ne0
returns-then-b-at-ne0 c = let a = c.args in let B = a.b.now in let e = c.bitmap_size.ensures in
    rw e (past-here B a.n a.end c.requires.0 c.requires.1
    c.requires.3 (λ z. c.if-b-at-ne0.true (rw (e, mask_is a.n 3) z)))

pub returns : goal.returns
returns c = let a = c.args in let B = a.b.now in let e = c.bitmap_size.ensures in
    past-later B a.n a.end c.requires.0 c.requires.1
    c.requires.3 (rw (e, mask_is a.n 3) at c.if-b-at-ne0.false) _ (rw e at c.first_set.ensures)
