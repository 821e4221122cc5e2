-- `picture::right` meets its contract: spaces and one digit, or the digits but the last and the last behind them. The measure is how
-- many columns are left. Assumes nothing.
use Rattle.picture.proofs.+right.Given as goal

abbrev pub decreases-right : goal.decreases-right
decreases-right l = l.k
