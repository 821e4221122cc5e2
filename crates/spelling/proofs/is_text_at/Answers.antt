-- `spelling::is_text_at` meets its contract: a word of b tells, or the walk. Assumes nothing.
use mathlib.Core.Path.{sym, ◌∙◌}
use native.Mathlib.Omega.{arith}
use borrow.Author.Tests.{leb-true}
use Rattle.spelling.proofs.ByKind.{of-text, by_word}
use Rattle.spelling.proofs.is_text_at.Goals as goal
use Rattle.spelling.proofs.is_text_at.Goals.{then-end-at-le8, else-end-at-le8, then-b-at-ge8, else-b-at-ge8}

pub returns-then-ascii8 : goal.returns-then-ascii8
returns-then-ascii8 c =
    elim c.if-b-at-ge8.branch [
      | then-b-at-ge8 w ↦ elim c.if-end-at-le8.branch [
        | then-end-at-le8 v ↦ rw c.if-ascii8.true (by_word _ _ _ c.requires.0 v.if-end-at-le8.true (w.ascii8.ensures (cc)))
        | else-end-at-le8 v ↦ absurd (omega (arith, leb-true _ 8 (sym v.value-is ∙ w.if-b-at-ge8.true)))
      ]
      | else-b-at-ge8 w ↦ absurd (cc)
    ]

pub returns-else-ascii8 : goal.returns-else-ascii8
returns-else-ascii8 c = of-text c.is_text.ensures
