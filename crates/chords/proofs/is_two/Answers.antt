-- `chords::is_two` meets its contract. Assumes nothing.
use native.Mathlib.Omega.{arith}
use borrow.Author.Tests.{not-false}
use Rattle.words.proofs.Numbers.{slice-bytes}
use Rattle.chords.specs.Plain.{word_at}
use Rattle.chords.proofs.PlainRows.{two-sound}
use Rattle.chords.proofs.is_two.Goals as goal

pub returns : goal.returns
unfolding word_at
returns c e = two-sound _ (slice-bytes c.type_inv.row) c.requires (omega arith)
    c.get-2.ensures.is c.get-3.ensures.is (c.are_slots.ensures (not-false _ c.if-not-are_slots.false-raw))
    (c.is_stroke.ensures.there (not-false _ c.if-not-is_stroke.false-raw)) (c.is_stroke-2.ensures.there e)
