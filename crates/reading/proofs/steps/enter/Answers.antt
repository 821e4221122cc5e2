-- `reading::steps::enter` meets its contract. Assumes nothing.
use Rattle.reading.proofs.Moving.{enter-null, enter-at}
use Rattle.reading.proofs.steps.enter.Goals as goal

pub returns-in-Null : goal.returns-in-Null
returns-in-Null c = let a = c.args in
    enter-null a.y a.c _ c.in-Null.is

pub returns-in-At : goal.returns-in-At
returns-in-At c = let a = c.args in
    enter-at a.y a.c _ _ _ c.in-At.is
