-- `batch::frames::put_size` meets its contract. Assumes nothing.
use native.Mathlib.Omega.{arith}
use lib.ListN.{length-set}
use Rattle.words.proofs.Turns.{low_byte}
use Rattle.batch.proofs.Sizes.{size-put}
use Rattle.batch.proofs.frames.put_size.Goals as goal

pub overflow_cast-b : goal.overflow_cast-b
overflow_cast-b c = record { fits = rw low_byte (omega arith) }

pub overflow_cast-b-2 : goal.overflow_cast-b-2
overflow_cast-b-2 c = record { fits = rw low_byte (omega arith) }

pub bounds-b-at-2 : goal.bounds-b-at-2
bounds-b-at-2 c = simp length-set (omega arith)

pub overflow_cast-b-3 : goal.overflow_cast-b-3
overflow_cast-b-3 c = record { fits = rw low_byte (omega arith) }

pub bounds-b-at-3 : goal.bounds-b-at-3
bounds-b-at-3 c = simp length-set (omega arith)

pub overflow_cast-b-4 : goal.overflow_cast-b-4
overflow_cast-b-4 c = record { fits = rw low_byte (omega arith) }

pub bounds-b-at-4 : goal.bounds-b-at-4
bounds-b-at-4 c = simp length-set (omega arith)

pub returns : goal.returns
returns c = size-put c.args.b.now c.args.at c.args.size
