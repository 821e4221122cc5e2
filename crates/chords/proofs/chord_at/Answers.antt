-- `chords::chord_at` meets its contract. Assumes nothing.
use native.Mathlib.Omega.{arith}
use Rattle.chords.proofs.Readings.{long, keeps-checked}
use Rattle.chords.proofs.Judging.{stroke-room, chord-is}
use Rattle.chords.proofs.chord_at.Goals as goal

pub offset_at-at-requires : goal.offset_at-at-requires
offset_at-at-requires c = let p = c.requires in omega (arith, long (keeps-checked p.0))

pub get-requires-clause-room : goal.get-requires-clause-room
get-requires-clause-room c = let p = c.requires in
    omega (arith, stroke-room p.0 _ p.1 p.2 c.offset_at-at.ensures)

pub get-requires-2-clause-room : goal.get-requires-2-clause-room
get-requires-2-clause-room c = let p = c.requires in
    omega (arith, stroke-room p.0 _ p.1 p.2 c.offset_at-at.ensures)

pub returns : goal.returns
returns c = let p = c.requires in
    chord-is p.0 _ p.1 p.2 c.offset_at-at.ensures c.get.ensures c.get-2.ensures
