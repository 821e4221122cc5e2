-- `listing::put_text` meets its contract: the length behind the mark, and the bytes. Assumes nothing.
use native.Mathlib.Omega.{arith}
use Rattle.listing.proofs.Numbers.{text-none, text-fits, text-run}
use Rattle.listing.proofs.put_text.Goals as goal

pub returns-then-out-end : goal.returns-then-out-end
returns-then-out-end c = text-none c.requires _ c.if-out-end.true

pub copy-requires : goal.copy-requires
copy-requires c = (text-fits c.requires c.put_count-p.ensures c.if-out-end.false, omega arith)

pub returns : goal.returns
returns c = text-run c.requires c.put_count-p.ensures c.copy.ensures
