-- `reading::types::either` meets its contract. Assumes nothing.
use Rattle.reading.proofs.Opening.{either-keys, either-values}
use Rattle.reading.proofs.types.either.Goals as goal

pub returns-then-i-eq0 : goal.returns-then-i-eq0
returns-then-i-eq0 c = either-keys c.args.i _ _ c.if-i-eq0.true

pub returns : goal.returns
returns c = let a = c.args in
    let if1 = c.if-i-eq0 in
    either-values a.i if1.false c.entry_at.ensures c.after.ensures
