-- `setting::set_in` meets its contract. Assumes nothing.
use Rattle.std.proofs.Common.{rules, refl, ap, Ok}
use Rattle.answers.specs.Meaning.{given_means}
use Rattle.setting.proofs.Settled.{checked-open, null-there, place-there, set-fails, set-at-null, set-at-place}
use Rattle.setting.proofs.set_in.Goals as goal

pub find-requires : goal.find-requires
find-requires c = checked-open c.requires

pub set_null-requires : goal.set_null-requires
set_null-requires c = null-there c.requires c.in_ok-x.ensures (ap Ok c.in-Null.is)

pub set_place-requires : goal.set_place-requires
set_place-requires c = place-there c.requires c.in_ok-x.ensures (ap Ok c.in-At.is)

pub returns-in_err-x : goal.returns-in_err-x
returns-in_err-x c =
    let k = set-fails c.requires c.in_err-x.ensures (given_means c.args.g c.args.bytes.now) refl in
    search rules

pub returns-in-Null : goal.returns-in-Null
returns-in-Null c = set-at-null c.requires c.in_ok-x.ensures (ap Ok c.in-Null.is) (given_means c.args.g c.args.bytes.now) c.set_null.ensures

pub returns-in-At : goal.returns-in-At
returns-in-At c = set-at-place c.requires c.in_ok-x.ensures (ap Ok c.in-At.is) (given_means c.args.g c.args.bytes.now) c.set_place.ensures
