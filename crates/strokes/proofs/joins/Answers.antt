-- `strokes::joins` meets its contract. Assumes nothing.
use Rattle.strokes.proofs.Adding.{joins-full, joins-free}
use Rattle.chords.proofs.Readings.{keeps-first}
use Rattle.std.proofs.Common.{arith}
use Rattle.strokes.proofs.joins.Goals as goal

pub returns-then-not-is_single : goal.returns-then-not-is_single
returns-then-not-is_single c = joins-full _ _ _ c.is_single.ensures c.if-not-is_single.true-raw

pub chord_at-first-requires : goal.chord_at-first-requires
chord_at-first-requires c = (c.requires, omega arith, keeps-first c.requires)

pub returns : goal.returns
returns c = joins-free _ _ _ c.is_single.ensures c.if-not-is_single.false-raw c.chord_at-first.ensures (omega arith)
    (omega arith) (omega arith) c.wrapping_sub_u32.ensures.value
