-- `lettering::text::decimal_in` meets its contract: one digit, or the digits but the last and the last behind them. The measure is how many may be left.
-- Assumes nothing.
use Rattle.lettering.proofs.text.+decimal_in.Given as goal

abbrev pub decreases-decimal_in : goal.decreases-decimal_in
decreases-decimal_in l = l.k
