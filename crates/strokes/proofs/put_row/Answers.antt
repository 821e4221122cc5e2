-- `strokes::put_row` meets its contract. Assumes nothing.
use Rattle.std.proofs.Common.{sym, ◌∙◌, arith}
use Rattle.strokes.proofs.Logs.{has_one, has-two}
use Rattle.chords.proofs.Readings.{keeps-first}
use Rattle.strokes.proofs.Listed.{two-at-least, four-of, one-put, two-put}
use Rattle.strokes.proofs.put_row.Goals as goal

pub chord_at-requires : goal.chord_at-requires
chord_at-requires c = (c.requires.0, omega arith, keeps-first c.requires.0)

pub put_chord-requires : goal.put_chord-requires
put_chord-requires c = omega (arith, two-at-least c.args.row.now)

pub returns-then-is_single : goal.returns-then-is_single
returns-then-is_single c = one-put _ _ _ (has_one _ c.is_single.ensures c.if-is_single.true) c.chord_at.ensures
    c.put_chord.ensures

pub chord_at-requires-2 : goal.chord_at-requires-2
chord_at-requires-2 c = (
  c.requires.0,
  omega arith,
  sym
      c.is_single.ensures ∙ c.if-is_single.false,
)

pub put_chord-requires-2 : goal.put_chord-requires-2
put_chord-requires-2 c = omega (
  arith,
  four-of c.args.row.now
      (has-two _ c.is_single.ensures c.if-is_single.false),
)

pub returns : goal.returns
returns c = two-put _ _ _ (has-two _ c.is_single.ensures
    c.if-is_single.false)
    c.chord_at.ensures
    c.chord_at-2.ensures c.put_chord.ensures
    c.put_chord-2.ensures
