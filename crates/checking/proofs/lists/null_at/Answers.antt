-- `checking::lists::null_at` meets its contract. Assumes nothing.
use mathlib.Core.Path.{sym}
use Rattle.checking.proofs.lists.null_at.Goals as goal

pub returns-then-full : goal.returns-then-full
returns-then-full c = sym (c.requires.none c.if-full.true)
