-- `setting::puts::put` meets its contract. Assumes nothing.
use Rattle.setting.proofs.Written.{bits-stored}
use Rattle.setting.proofs.puts.put.Goals as goal

pub returns-then-wide-eq8 : goal.returns-then-wide-eq8
returns-then-wide-eq8 c = let a = c.args in
    bits-stored a.row.now a.slot a.wide c.if-wide-eq8.true a.v c.put.ensures
