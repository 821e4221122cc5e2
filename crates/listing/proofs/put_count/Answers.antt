-- `listing::put_count` meets its contract: the count behind the mark. Assumes nothing.
use mathlib.Core.Path.{refl}
use native.Mathlib.Omega.{arith}
use Rattle.table.specs.Words.{place_in}
use Rattle.words.proofs.Numbers.{length-le}
use Rattle.listing.proofs.Wrote.{wrote_none, wrote-run, and_then}
use Rattle.schema.proofs.Table.{mark-two}
use Rattle.listing.proofs.put_count.Goals as goal

pub overflow_add-end : goal.overflow_add-end
overflow_add-end c = omega (arith, c.put_mark-at.ensures.past, mark-two (place_in c.args.w))

pub returns-then-out-end : goal.returns-then-out-end
returns-then-out-end c = and_then c.put_mark-at.ensures (wrote_none _ _ _ _ _ (length-le 4 c.args.n) refl c.if-out-end.true)

pub returns : goal.returns
returns c = and_then c.put_mark-at.ensures (wrote-run _ _ _ _ _ _ (length-le 4 c.args.n) refl c.put.ensures)
