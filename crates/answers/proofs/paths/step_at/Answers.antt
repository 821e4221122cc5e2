-- `answers::paths::step_at` meets its contract. Assumes nothing.
use mathlib.Core.Path.{sym}
use Rattle.answers.proofs.PathLaws.{path-at}
use Rattle.answers.proofs.paths.step_at.Goals as goal

pub returns : goal.returns
returns c = sym (path-at c.args.p c.args.k c.requires.counts)
