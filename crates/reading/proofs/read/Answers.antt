-- `reading::read` meets its contract. Assumes nothing.
use Rattle.reading.proofs.Shown.{read-long}
use Rattle.reading.proofs.read.Goals as goal

pub returns-then-row-gt16384 : goal.returns-then-row-gt16384
returns-then-row-gt16384 c = let a = c.args in
    let pre = c.requires in
    read-long a.t.now a.row.now _ pre c.if-row-gt16384.true

pub look_in-requires : goal.look_in-requires
look_in-requires c = record { table = c.requires; short = c.if-row-gt16384.false }

pub returns : goal.returns
returns c = c.look_in.ensures
