-- `card::batches::batch_text` meets its contract: what is shown was accepted. Assumes nothing.
use Rattle.std.proofs.Common.{ap, ◌∙◌, Err}
use Rattle.std.proofs.lemmas.Result.{IfOk-weaker}
use Rattle.lettering.proofs.Putting.{walked_as}
use Rattle.card.proofs.Checked.{refusal-walked}
use Rattle.card.proofs.Turns.{batch-accepted, batch-done, batch-refused, row-refused}
use Rattle.card.proofs.batches.batch_text.Goals as goal

pub accepted_text-requires : goal.accepted_text-requires
accepted_text-requires g c = (batch-accepted _ _ _ c.check.ensures c.in-Ok.is, c.requires)

pub returns-in-Ok : goal.returns-in-Ok
returns-in-Ok g c =
    let same = batch-done _ _ _ c.check.ensures c.in-Ok.is in
    IfOk-weaker c.accepted_text.result _ _ (λ r W. walked_as same W) c.accepted_text.ensures.walked

pub returns-in-Err-Whole : goal.returns-in-Err-Whole
returns-in-Err-Whole g c =
    let arm = c.in-Err-Whole in
    let same = batch-refused _ _ _ c.check.ensures _ _ (arm.is ∙ ap Err arm.field-0-is) c.number.ensures in
    walked_as same (refusal-walked _ c.requires c.refused.ensures)

pub returns-in_ok-say_row-in-Err-Row : goal.returns-in_ok-say_row-in-Err-Row
returns-in_ok-say_row-in-Err-Row g c =
    let arm = c.in-Err-Row in
    let same = row-refused _ _ _ c.check.ensures _ _ _ (arm.is ∙ ap Err arm.field-0-is) c.number-in-Err-Row.ensures in
    walked_as same (refusal-walked _ c.requires c.refused-in-Err-Row.ensures)
