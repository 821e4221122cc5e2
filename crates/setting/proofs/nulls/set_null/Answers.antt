-- `setting::nulls::set_null` meets its contract. Assumes nothing.
use Rattle.answers.specs.Meaning.{given_means}
use Rattle.setting.proofs.Settled.{null-leaf, null-refused, null-fixed-set, null-text-set}
use Rattle.setting.proofs.nulls.set_null.Goals as goal

pub set_fixed-requires : goal.set_fixed-requires
set_fixed-requires c = null-leaf c.requires c.if-x-lt-STRING.true

pub returns-then-x-lt-STRING : goal.returns-then-x-lt-STRING
returns-then-x-lt-STRING c = let a = c.args in
    null-fixed-set c.requires (given_means a.g a.bytes.now) c.if-x-lt-STRING.true (c.set_fixed.ensures a.bytes.now)

pub returns-then-x-lt-LIST : goal.returns-then-x-lt-LIST
returns-then-x-lt-LIST c = let a = c.args in
    null-text-set c.requires (given_means a.g a.bytes.now) c.if-x-lt-STRING.false c.if-x-lt-LIST.true c.set_no_text.ensures

pub returns : goal.returns
returns c = let a = c.args in
    null-refused c.requires (given_means a.g a.bytes.now) c.if-x-lt-LIST.false
