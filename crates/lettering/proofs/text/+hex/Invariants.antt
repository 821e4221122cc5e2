-- `lettering::text::hex` meets its contract: the digits but the last, and the last behind them. The measure is their number. Assumes nothing.
use Rattle.lettering.proofs.text.+hex.Given as goal

abbrev pub decreases-hex : goal.decreases-hex
decreases-hex l = l.k
