-- `chords::fill_one` meets its contract. Assumes nothing.
use Rattle.chords.proofs.RowLaws.{one-put}
use Rattle.chords.proofs.fill_one.Goals as goal

pub returns : goal.returns
returns c = let p = c.well_formed.1.0.1.1 in
    one-put _ c.args.c (record { tick = p.0.1; keys = p.1.0.1 }) c.requires
    c.put.ensures c.slot.ensures c.put-2.ensures c.put-3.ensures c.put_stroke.ensures
