-- `card::whereabouts::where_text` meets its contract: what is drawn has an accepted schema. Assumes nothing.
use Rattle.std.proofs.lemmas.Result.{IfOk-weaker}
use Rattle.lettering.proofs.Putting.{walked_as}
use Rattle.card.proofs.Marked.{where-done, where-refused, where-opens, where-broken}
use Rattle.card.proofs.Checked.{checked, refusal-walked}
use Rattle.card.proofs.whereabouts.where_text.Goals as goal

pub pictured-requires : goal.pictured-requires
pictured-requires g c = (checked _ _ _ c.check.ensures c.in-Ok.is, c.requires)

pub returns-then-n-ne7 : goal.returns-then-n-ne7
returns-then-n-ne7 g c =
    let same = where-refused _ _ _ c.check.ensures _ _ c.in-Err.is c.number-n.ensures c.if-n-ne7.true in
    walked_as same (refusal-walked _ c.requires c.refused.ensures)

pub pictured-requires-in-Err : goal.pictured-requires-in-Err
pictured-requires-in-Err g c =
    (where-opens _ _ _ c.check.ensures _ _ c.in-Err.is c.number-n.ensures c.if-n-ne7.false, c.requires)

pub returns-in-Ok : goal.returns-in-Ok
returns-in-Ok g c =
    let same = where-done _ _ _ c.check.ensures c.in-Ok.is in
    IfOk-weaker c.pictured.result _ _ (λ r W. walked_as same W) c.pictured.ensures.walked

pub returns-in_ok-say_place-in-Err : goal.returns-in_ok-say_place-in-Err
returns-in_ok-say_place-in-Err g c =
    let same = where-broken _ _ _ c.check.ensures _ _ c.in-Err.is c.number-n.ensures _ c.if-n-ne7.false c.place.ensures in
    IfOk-weaker c.pictured-in-Err.result _ _ (λ r W. walked_as same W) c.pictured-in-Err.ensures.walked
