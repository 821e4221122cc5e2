-- `chords::put_stroke` meets its contract. Assumes nothing.
use Rattle.chords.specs.Chords.{chord}
use Rattle.chords.proofs.RowLaws.{stroke-put}
use Rattle.chords.proofs.put_stroke.Goals as goal

pub returns : goal.returns
returns c = let a = c.args in
    stroke-put _ a.at (chord a.tick a.keys) c.put.ensures c.put-2.ensures c.put-3.ensures
