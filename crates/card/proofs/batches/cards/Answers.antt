-- `card::batches::cards` meets its contract: the input is refused, or its batch is judged. Assumes nothing.
use Rattle.std.proofs.lemmas.Result.{IfOk-weaker}
use Rattle.lettering.proofs.Putting.{walked_as}
use Rattle.card.specs.Rows.{batch_text, batch_output_of}
use Rattle.card.proofs.Apart.{ends-inside, split-none, split-some}
use Rattle.card.proofs.Checked.{refusal-walked}
use Rattle.card.proofs.batches.cards.Goals as goal

pub slice_bounds-batch_text-count : goal.slice_bounds-batch_text-count
slice_bounds-batch_text-count g c = let a = c.args.input.now in
    (ends-inside a _ _ c.take_apart.ensures c.in-Some.is).0

pub slice_bounds-batch_text-start : goal.slice_bounds-batch_text-start
slice_bounds-batch_text-start g c = let a = c.args.input.now in
    (ends-inside a _ _ c.take_apart.ensures c.in-Some.is).0

pub slice_bounds-batch_text-end : goal.slice_bounds-batch_text-end
slice_bounds-batch_text-end g c = let a = c.args.input.now in
    (ends-inside a _ _ c.take_apart.ensures c.in-Some.is).1

pub slice_bounds-batch_text-count-in-Some : goal.slice_bounds-batch_text-count-in-Some
slice_bounds-batch_text-count-in-Some g c = let a = c.args.input.now in
    (ends-inside a _ _ c.take_apart.ensures c.in-Some.is).1

pub slice_bounds-batch_text-start-in-Some : goal.slice_bounds-batch_text-start-in-Some
slice_bounds-batch_text-start-in-Some g c = let a = c.args.input.now in
    (ends-inside a _ _ c.take_apart.ensures c.in-Some.is).1

pub returns-in-None : goal.returns-in-None
unfolding batch_output_of
returns-in-None g c = let e = c.take_apart.ensures in
    let none = split-none batch_text _ _ e c.in-None.is in
    walked_as none (refusal-walked 1 c.requires c.refused.ensures)

pub returns-in-Some : goal.returns-in-Some
unfolding batch_output_of
returns-in-Some g c = let e = c.take_apart.ensures in
    let some = split-some batch_text _ _ e _ c.in-Some.is in
    IfOk-weaker c.batch_text.result _ _ (λ r W. walked_as some W) c.batch_text.ensures
