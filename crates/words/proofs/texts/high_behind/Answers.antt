-- `words::texts::high_behind` meets its contract. Assumes nothing.
use native.Mathlib.Omega.{arith}
use mathlib.Core.Path.{sym}
use Rattle.words.proofs.CharLaws.{high-ED, high-F4, high-other}
use Rattle.words.proofs.texts.high_behind.Goals as goal

pub returns-in-237 : goal.returns-in-237
returns-in-237 c = sym (high-ED c.args.a c.in-237.is)

pub returns-in-244 : goal.returns-in-244
returns-in-244 c = sym (high-F4 c.args.a c.in-244.is)

pub returns-in_default : goal.returns-in_default
returns-in_default c = sym (high-other c.args.a (λ e. omega arith) (λ e. omega arith))
