-- `row::judge` meets its contract. Assumes nothing.
use Rattle.row.proofs.Opening.{judge-with}
use Rattle.row.proofs.judge.Goals as goal

pub returns : goal.returns
returns c = rw c.ok_or.ensures.value (judge-with c.args.schema.now _ c.with.result c.with.ensures.made c.with.ensures.refused)
