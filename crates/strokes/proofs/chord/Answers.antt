-- `strokes::chord` meets its contract. Assumes nothing.
use Rattle.std.proofs.Common.{refl, arith}
use Rattle.std.proofs.lemmas.Result.{err_from_is_err_and}
use Rattle.strokes.proofs.Entering.{sound-of, refused-of, chord-refused, chord-past, chord-there, chord-counts}
use Rattle.strokes.proofs.chord.Goals as goal

pub returns-in_err-judge_log : goal.returns-in_err-judge_log
returns-in_err-judge_log c = let p = err_from_is_err_and c.from_residual.result c.from_residual.ensures.1 in
    rw (p.1, p.2) (chord-refused _ _ _ (refused-of refl c.in_err-judge_log.ensures))

pub returns-then-branch-n : goal.returns-then-branch-n
returns-then-branch-n c = chord-past _ _ (sound-of refl c.in_ok-judge_log.ensures) c.if-branch-n.true

pub find-requires : goal.find-requires
find-requires c = let o = sound-of refl c.in_ok-judge_log.ensures in (o.ends.sound, chord-counts _ _ o (omega arith))

pub returns : goal.returns
returns c = chord-there _ _ (sound-of refl c.in_ok-judge_log.ensures) (omega arith) c.find.ensures
