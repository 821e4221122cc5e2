-- `answers::floats::bits64` meets its contract. Assumes nothing.
use mathlib.Core.Path.{sym, ap}
use lib.Ieee.{binary64, to_bits}
use Rattle.answers.proofs.FloatLaws.{is-nan, not-nan}
use Rattle.answers.proofs.floats.bits64.Goals as goal

pub float_to_bits-result : goal.float_to_bits-result
float_to_bits-result c = not-nan c.args.x c.if-x.false

pub returns-then-x : goal.returns-then-x
unfolding to_bits
returns-then-x c = sym (ap (to_bits binary64) (is-nan c.args.x c.if-x.true))
