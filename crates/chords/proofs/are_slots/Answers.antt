-- `chords::are_slots` meets its contract. Assumes nothing.
use mathlib.Core.Path.{◌∙◌}
use mathlib.Core.Logic.{inl, inr}
use borrow.Author.Tests.{eqb-true}
use Rattle.chords.proofs.are_slots.Goals as goal

pub returns-then-first-slot : goal.returns-then-first-slot
returns-then-first-slot c e = inl (c.if-first-slot.true ∙ c.slot.ensures, eqb-true _ _ e ∙ c.slot-then-first-slot.ensures)

pub returns-then-first-slot-2 : goal.returns-then-first-slot-2
returns-then-first-slot-2 c e = inr (c.if-first-slot-2.true ∙ c.slot-2.ensures, eqb-true _ _ e ∙ c.slot-then-first-slot-2.ensures)
