-- `strokes::read` meets its contract. Assumes nothing.
use Rattle.std.proofs.Common.{refl, arith}
use Rattle.std.proofs.lemmas.Result.{err_from_is_err_and}
use Rattle.strokes.proofs.Entering.{sound-of, refused-of, numbers-are, reads-refused, reads_short, reads-done}
use Rattle.strokes.proofs.read.Goals as goal

pub returns-in_err-needed : goal.returns-in_err-needed
returns-in_err-needed c = let p = err_from_is_err_and c.from_residual.result c.from_residual.ensures.1 in
    rw (p.1, p.2) (reads-refused _ _ _ (refused-of refl c.in_err-needed.ensures))

pub overflow_mul-needed : goal.overflow_mul-needed
overflow_mul-needed c = omega (arith, (sound-of refl c.in_ok-needed.ensures).few)

pub returns-then-out-needed : goal.returns-then-out-needed
returns-then-out-needed c = reads_short _ _ (sound-of refl c.in_ok-needed.ensures) c.if-out-needed.true

pub put_chords-requires : goal.put_chords-requires
put_chords-requires c = let o = sound-of refl c.in_ok-needed.ensures in (o.ends.sound, omega (arith, numbers-are o))

pub returns : goal.returns
returns c = reads-done _ _ (sound-of refl c.in_ok-needed.ensures) (omega arith) c.put_chords.ensures
