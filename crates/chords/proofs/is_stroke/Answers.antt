-- `chords::is_stroke` meets its contract. Assumes nothing.
use Rattle.chords.specs.Plain.{word_at}
use Rattle.chords.proofs.PlainRows.{stroke-seen}
use Rattle.chords.proofs.is_stroke.Goals as goal

pub returns : goal.returns
unfolding word_at
returns c = stroke-seen _ _ c.get.ensures.is c.get-2.ensures.is c.get-3.ensures.is
