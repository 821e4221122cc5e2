-- `setting::present::set_place` meets its contract. Assumes nothing.
use Rattle.answers.specs.Meaning.{given_means}
use Rattle.setting.proofs.Settled.{place-leaf, place-refused, place-fixed-set, place-text-set}
use Rattle.setting.proofs.present.set_place.Goals as goal

pub set_fixed-requires : goal.set_fixed-requires
set_fixed-requires c = place-leaf c.requires c.if-x-lt-STRING.true

pub returns-then-x-lt-STRING : goal.returns-then-x-lt-STRING
returns-then-x-lt-STRING c = let a = c.args in
    place-fixed-set c.requires (given_means a.g a.bytes.now) c.if-x-lt-STRING.true (c.set_fixed.ensures a.bytes.now)

pub returns-then-x-lt-LIST : goal.returns-then-x-lt-LIST
returns-then-x-lt-LIST c = let a = c.args in
    place-text-set c.requires (given_means a.g a.bytes.now) c.if-x-lt-STRING.false c.if-x-lt-LIST.true c.set_text.ensures

pub returns : goal.returns
returns c = let a = c.args in
    place-refused c.requires (given_means a.g a.bytes.now) c.if-x-lt-LIST.false
