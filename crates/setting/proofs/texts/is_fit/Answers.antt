-- `setting::texts::is_fit` meets its contract. Assumes nothing.
use native.Mathlib.Nat.{sub-zero}
use Rattle.words.proofs.Parts.{part-whole}
use Rattle.setting.proofs.texts.is_fit.Goals as goal

pub returns : goal.returns
returns c = rw (sub-zero, part-whole) at c.is_spelled.ensures.is
