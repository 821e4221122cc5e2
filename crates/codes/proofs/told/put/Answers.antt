-- `codes::told::put` meets its contract. Assumes nothing.
use native.Mathlib.Omega.{arith}
use Rattle.codes.proofs.Words.{put-done}
use Rattle.codes.proofs.told.put.Goals as goal

pub returns : goal.returns
returns g c = put-done (omega (arith, c.if-answer.false)) c.copy_from_slice.ensures.after c.copy_from_slice.ensures.len
