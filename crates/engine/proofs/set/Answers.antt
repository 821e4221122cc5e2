-- `engine::set` meets its contract. Assumes nothing.
use Rattle.std.proofs.Common.{rules, refl}
use Rattle.answers.specs.Meaning.{setting_of}
use Rattle.answers.specs.Paths.{path_of}
use Rattle.engine.proofs.Refusing.{settable, done-passed, set-refused}
use Rattle.engine.proofs.set.Goals as goal

pub returns-in_err-check : goal.returns-in_err-check
returns-in_err-check c =
    let k = set-refused _ _ c.requires.accepted c.in_err-check.ensures (path_of c.args.path) (setting_of c.args.value c.args.bytes.now) refl in
    search rules

pub set-requires : goal.set-requires
set-requires c = settable c.requires (done-passed _ _ c.requires.accepted c.in_ok-check.ensures refl)
