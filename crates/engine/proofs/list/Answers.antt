-- `engine::list` meets its contract. Assumes nothing.
use Rattle.std.proofs.Common.{rules, refl, arith}
use Rattle.engine.proofs.Listings.{list-roomless, list_done}
use Rattle.engine.proofs.Refusing.{listable, done-passed, list-refused}
use Rattle.engine.proofs.list.Goals as goal

pub returns-in_err-check : goal.returns-in_err-check
returns-in_err-check c =
    let k = list-refused _ _ c.requires.accepted c.in_err-check.ensures c.args.out.now refl in
    search rules

pub list_row-needed-requires : goal.list_row-needed-requires
list_row-needed-requires c = listable c.requires (done-passed _ _ c.requires.accepted c.in_ok-check.ensures refl)

pub returns-then-out-needed : goal.returns-then-out-needed
returns-then-out-needed c =
    let p = done-passed _ _ c.requires.accepted c.in_ok-check.ensures refl in
    list-roomless _ _ _ c.requires.accepted p _ _ c.list_row-needed.ensures (omega (arith, c.if-out-needed.true, c.list_row-needed.auto.out))

pub returns : goal.returns
returns c =
    let p = done-passed _ _ c.requires.accepted c.in_ok-check.ensures refl in
    list_done _ _ _ c.requires.accepted p _ _ c.list_row-needed.ensures (omega (arith, c.if-out-needed.false, c.list_row-needed.auto.out))
