-- `shelf::stands_but` meets its contract. Assumes nothing.
use mathlib.Core.Path.{refl, sym, ◌∙◌}
use borrow.Author.Tests.{eq-eqb, ne_eqb}
use Rattle.shelf.proofs.Judging.{but-old, but-new, keeps-rules}
use Rattle.shelf.proofs.stands_but.Goals as goal

pub returns-then-i-k : goal.returns-then-i-k
returns-then-i-k c = rw (but-new _ _ _ _ _ c.number.ensures c.if-is_none.ensures, eq-eqb _ _ c.if-i-k.true) refl

pub returns-else-i-k : goal.returns-else-i-k
returns-else-i-k c =
    rw (but-new _ _ _ _ _ c.number.ensures c.if-is_none.ensures, ne_eqb _ _ c.if-i-k.false)
    (c.is_ok.ensures.value ∙ keeps-rules _ _ c.judge.ensures)

pub returns-else-is_none : goal.returns-else-is_none
returns-else-is_none c = c.if-is_none.false ∙ sym (but-old _ _ _ _ _ c.number.ensures c.if-is_none.ensures)
