-- `reading::own::struct_holds` meets its contract. Assumes nothing.
use Rattle.reading.proofs.Rules.{struct-test}
use Rattle.reading.proofs.own.struct_holds.Goals as goal

pub returns : goal.returns
returns c = let a = c.args in
    struct-test a.n a.size c.bitmap_size.ensures c.pad_size.ensures
