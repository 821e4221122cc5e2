-- `strokes::add` meets its contract. Assumes nothing.
use Rattle.std.proofs.Common.{refl}
use Rattle.std.proofs.lemmas.Result.{err_from_is_err_and}
use Rattle.strokes.proofs.Entering.{sound-of, refused-of, adds-long, adds-refused, adds-wide, adds-done}
use Rattle.strokes.proofs.add.Goals as goal

pub returns-then-room-used : goal.returns-then-room-used
returns-then-room-used c = adds-long _ _ _ _ c.if-room-used.true

pub returns-in_err-judged : goal.returns-in_err-judged
returns-in_err-judged c = let p = err_from_is_err_and c.from_residual.result c.from_residual.ensures.1 in
    rw (p.1, p.2) (adds-refused _ _ _ _ c.if-room-used.false _ (refused-of refl c.in_err-judged.ensures))

pub returns-then-window-gt1000 : goal.returns-then-window-gt1000
returns-then-window-gt1000 c = adds-wide _ _ _ _ c.if-room-used.false
    (sound-of refl c.in_ok-judged.ensures).ends.sound c.if-window-gt1000.true

pub add_to-requires : goal.add_to-requires
add_to-requires c = (c.if-room-used.false, (sound-of refl c.in_ok-judged.ensures).ends)

pub returns : goal.returns
returns c = adds-done _ _ _ _ c.if-room-used.false (sound-of refl c.in_ok-judged.ensures).ends.sound c.if-window-gt1000.false c.add_to.ensures
