-- `setting::leaves::set_fixed` meets its contract. Assumes nothing.
use Rattle.setting.proofs.Written.{leaf-unfit, leaf-nulls, leaf-bits}
use Rattle.setting.proofs.leaves.set_fixed.Goals as goal

pub returns-in_default : goal.returns-in_default
returns-in_default c = leaf-unfit c.requires c.args.g c.in_default.ensures

pub returns-in-Null : goal.returns-in-Null
returns-in-Null c = leaf-nulls c.requires c.args.g (λ u. rw c.in-Null.is at (c.in-Some.ensures u)) c.put_null.ensures

pub returns-in-Bits : goal.returns-in-Bits
returns-in-Bits c = leaf-bits c.requires c.args.g (λ u. rw c.in-Bits.is at (c.in-Some.ensures u)) c.put_bits.ensures
