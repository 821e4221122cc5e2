-- `words::slots::offset_at` meets its contract. Assumes nothing.
use native.Mathlib.Omega.{arith}
use Rattle.words.proofs.slots.offset_at.Goals as goal

pub returns : goal.returns
returns c = record { is = rw (← c.get.ensures.is) c.slot_offset.ensures; below = omega (arith, c.get.ensures.below) }
