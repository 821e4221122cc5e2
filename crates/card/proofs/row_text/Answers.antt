-- `card::row_text` meets its contract: what is walked was accepted. Assumes nothing.
use Rattle.std.proofs.lemmas.Result.{IfOk-weaker}
use Rattle.lettering.proofs.Putting.{walked_as}
use Rattle.card.proofs.Checked.{checked, text-done, text-refused, refusal-walked}
use Rattle.card.proofs.row_text.Goals as goal

pub accepted_text-requires : goal.accepted_text-requires
accepted_text-requires g c = (checked _ _ _ c.check.ensures c.in-Ok.is, c.requires)

pub returns-in-Ok : goal.returns-in-Ok
returns-in-Ok g c =
    let same = text-done _ _ _ c.check.ensures c.in-Ok.is in
    IfOk-weaker c.accepted_text.result _ _ (λ r W. walked_as same W) c.accepted_text.ensures.walked

pub returns-in_ok-say_place-in-Err : goal.returns-in_ok-say_place-in-Err
returns-in_ok-say_place-in-Err g c =
    walked_as (text-refused _ _ _ _ _ c.check.ensures c.in-Err.is c.number.ensures) (refusal-walked _ c.requires c.refused.ensures)
