-- `reading::find` meets its contract. Assumes nothing.
use Rattle.table.proofs.Places.{root_stands}
use Rattle.reading.proofs.OnPath.{find-long, root-asks, root-finds}
use Rattle.reading.proofs.find.Goals as goal

pub returns-then-n-gt16 : goal.returns-then-n-gt16
returns-then-n-gt16 c = let a = c.args in
    find-long a.t.now a.row.now a.path c.if-n-gt16.true

pub open-opened-requires : goal.open-opened-requires
open-opened-requires c = root_stands c.requires.table

pub along-requires : goal.along-requires
along-requires c = let a = c.args in
    let pre = c.requires in
    root-asks a.path pre c.if-n-gt16.false c.open-opened.ensures

pub returns : goal.returns
returns c = let a = c.args in
    let pre = c.requires in
    let if1 = c.if-n-gt16 in
    root-finds a.path pre if1.false c.open-opened.ensures c.along.ensures
