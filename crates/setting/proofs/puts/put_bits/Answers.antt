-- `setting::puts::put_bits` meets its contract. Assumes nothing.
use Rattle.setting.proofs.Written.{value-stored}
use Rattle.setting.proofs.puts.put_bits.Goals as goal

pub returns : goal.returns
returns c = let a = c.args in
    value-stored a.row.now a.seat a.v c.clear_null.ensures c.put.ensures
