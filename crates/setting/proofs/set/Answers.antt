-- `setting::set` meets its contract. Assumes nothing.
use Rattle.setting.proofs.Settled.{set_given}
use Rattle.setting.proofs.set.Goals as goal

pub returns : goal.returns
returns c = let a = c.args in
    set_given _ _ _ c.given.result a.value c.given.ensures.means a.bytes.now c.set_in.ensures
