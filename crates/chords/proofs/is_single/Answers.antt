-- `chords::is_single` meets its contract. Assumes nothing.
use mathlib.Core.Path.{sym, ◌∙◌}
use native.Mathlib.Omega.{arith}
use Rattle.chords.proofs.Readings.{long, no-stroke, keeps-checked}
use Rattle.chords.proofs.is_single.Goals as goal

pub is_null-requires : goal.is_null-requires
is_null-requires c = omega (arith, long (keeps-checked c.requires))

pub returns : goal.returns
returns c = c.is_null.ensures ∙ sym (no-stroke (keeps-checked c.requires) 1 (omega arith))
