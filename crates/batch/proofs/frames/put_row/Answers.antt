-- `batch::frames::put_row` meets its contract. Assumes nothing.
use mathlib.Core.Path.{refl}
use Rattle.batch.proofs.Added.{put-short, put-done}
use Rattle.batch.proofs.frames.put_row.Goals as goal

pub returns-then-room-needed : goal.returns-then-room-needed
returns-then-room-needed c = put-short _ _ _ _ refl c.if-room-needed.true

pub returns : goal.returns
returns c = put-done _ _ _ _ refl c.if-room-needed.false c.put_size.ensures c.copy.ensures
