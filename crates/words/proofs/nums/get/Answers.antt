-- `words::nums::get` meets its contract: one byte more at a time. Assumes nothing.
use Rattle.std.specs.Prelude.{min}
use Rattle.std.proofs.Math.Nat.{zero-min}
use Rattle.words.proofs.Turns.{reads_none}
use Rattle.words.proofs.nums.get.Goals as goal

pub with_byte-r1-requires-clause-so_far : goal.with_byte-r1-requires-clause-so_far
with_byte-r1-requires-clause-so_far g c = reads_none c.args.b.now c.args.at (min 0 g.row.K) (zero-min g.row.K)
