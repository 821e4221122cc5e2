-- `lent::judge_by` meets its contract. Assumes nothing.
use Rattle.row.proofs.Opening.{judge-no}
use Rattle.compare.proofs.Lent.{owned, not-owned}
use Rattle.lent.proofs.By.{judge-own}
use Rattle.lent.proofs.judge_by.Goals as goal

pub returns-then-not-gives : goal.returns-then-not-gives
returns-then-not-gives c = let g = c.gives in judge-no _ (not-owned _ _ g.result g.ensures c.if-not-gives.true-raw)

pub returns : goal.returns
returns c = let g = c.gives in judge-own (owned _ _ g.result g.ensures c.if-not-gives.false-raw)
