-- `table::behind` meets its contract. Assumes nothing.
use Rattle.table.proofs.Lines.{behind-struct, behind-other}
use Rattle.table.proofs.behind.Goals as goal

pub returns-then-k-eq-STRUCT : goal.returns-then-k-eq-STRUCT
returns-then-k-eq-STRUCT c = behind-struct c.args.at c.args.k c.if-k-eq-STRUCT.true

pub returns-else-k-eq-STRUCT : goal.returns-else-k-eq-STRUCT
returns-else-k-eq-STRUCT c = behind-other c.args.at c.args.k c.if-k-eq-STRUCT.false
