-- `words::texts::low_behind` meets its contract. Assumes nothing.
use native.Mathlib.Omega.{arith}
use mathlib.Core.Path.{sym}
use Rattle.words.proofs.CharLaws.{low-E0, low-F0, low-other}
use Rattle.words.proofs.texts.low_behind.Goals as goal

pub returns-in-224 : goal.returns-in-224
returns-in-224 c = sym (low-E0 c.args.a c.in-224.is)

pub returns-in-240 : goal.returns-in-240
returns-in-240 c = sym (low-F0 c.args.a c.in-240.is)

pub returns-in_default : goal.returns-in_default
returns-in_default c = sym (low-other c.args.a (λ e. omega arith) (λ e. omega arith))
