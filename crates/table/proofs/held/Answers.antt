-- `table::held` meets its contract. Assumes nothing.
use Rattle.std.proofs.Common.{arith}
use Rattle.table.proofs.Lines.{held-other, held-past, held-many, held-is}
use Rattle.table.proofs.held.Goals as goal

pub returns-then-k-ne-STRUCT : goal.returns-then-k-ne-STRUCT
returns-then-k-ne-STRUCT c = let a = c.args in held-other a.s.now a.at a.k c.if-k-ne-STRUCT.true c.requires.0

pub returns-then-s-at : goal.returns-then-s-at
returns-then-s-at c = let a = c.args in held-past a.s.now a.at a.k (omega arith) (omega arith)

pub returns-then-n-gt128 : goal.returns-then-n-gt128
returns-then-n-gt128 c = let a = c.args in held-many a.s.now a.at a.k (omega arith) _
    c.wide-n.ensures (omega arith)

pub returns : goal.returns
returns c = let a = c.args in held-is a.s.now a.at a.k (omega arith) _
    c.wide-n.ensures (omega arith)
