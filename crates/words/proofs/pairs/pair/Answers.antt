-- `words::pairs::pair` meets its contract. Assumes nothing.
use native.Mathlib.Omega.{arith}
use Rattle.words.specs.Pairs.{low_in, high_in}
use Rattle.words.proofs.pairs.pair.Goals as goal

pub returns : goal.returns
unfolding low_in high_in
returns c = record { low-is = omega arith; high_is = omega arith }
