-- `setting::puts::clear` meets its contract. Assumes nothing.
use Rattle.setting.proofs.Written.{zeros-stored}
use Rattle.setting.proofs.puts.clear.Goals as goal

pub returns-then-wide-eq8 : goal.returns-then-wide-eq8
returns-then-wide-eq8 c = let a = c.args in
    zeros-stored a.row.now a.slot a.wide c.if-wide-eq8.true c.put.ensures
