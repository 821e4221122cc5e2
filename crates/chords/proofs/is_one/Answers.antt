-- `chords::is_one` meets its contract. Assumes nothing.
use native.Mathlib.Omega.{arith}
use Rattle.words.proofs.Numbers.{slice-bytes}
use Rattle.chords.specs.Plain.{word_at}
use Rattle.chords.proofs.PlainRows.{one-sound}
use Rattle.chords.proofs.is_one.Goals as goal

pub returns : goal.returns
unfolding word_at
returns c e = one-sound _ (slice-bytes c.type_inv.row) c.requires (omega arith) (omega arith) (c.is_stroke.ensures.there e)
