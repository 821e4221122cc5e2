-- `setting::puts::put_null` meets its contract. Assumes nothing.
use Rattle.setting.proofs.Written.{null-stored}
use Rattle.setting.proofs.puts.put_null.Goals as goal

pub returns : goal.returns
returns c = let a = c.args in
    null-stored a.row.now a.seat c.set_null.ensures c.clear.ensures
