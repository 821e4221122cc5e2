-- `chords::fill_two` meets its contract. Assumes nothing.
use Rattle.chords.proofs.RowLaws.{two-put}
use Rattle.chords.proofs.fill_two.Goals as goal

pub returns : goal.returns
returns c = let p = c.well_formed.1.0.1.1 in
    let q = c.well_formed.1.1.0.1.1 in
    two-put _ c.args.c c.args.d (record { tick = p.0.1; keys = p.1.0.1 }) (record { tick = q.0.1; keys = q.1.0.1 }) c.requires
    c.put.ensures c.slot.ensures c.put-2.ensures c.slot-2.ensures c.put-3.ensures
    c.put_stroke.ensures c.put_stroke-2.ensures
