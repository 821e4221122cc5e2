-- `batch::frames::frame_end` meets its contract. Assumes nothing.
use native.Mathlib.Omega.{arith}
use Rattle.batch.proofs.Ends.{no_size, no-rest, whole}
use Rattle.batch.proofs.frames.frame_end.Goals as goal

pub returns-then-b-start : goal.returns-then-b-start
returns-then-b-start c = no_size _ _ c.if-b-start.true

pub returns-then-b-end : goal.returns-then-b-end
returns-then-b-end c = no-rest _ _ (omega arith) _ c.size_at.ensures c.if-b-end.true

pub returns : goal.returns
returns c = whole _ _ (omega arith) _ c.size_at.ensures c.if-b-end.false
