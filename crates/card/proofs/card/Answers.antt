-- `card::card` meets its contract: the input is refused, or its row is judged. Assumes nothing.
use Rattle.std.proofs.lemmas.Result.{IfOk-weaker}
use Rattle.lettering.proofs.Putting.{walked_as}
use Rattle.card.specs.Output.{judged_text, output_of}
use Rattle.card.proofs.Apart.{ends-inside, split-none, split-some}
use Rattle.card.proofs.Checked.{refusal-walked}
use Rattle.card.proofs.card.Goals as goal

pub slice_bounds-row_text-count : goal.slice_bounds-row_text-count
slice_bounds-row_text-count g c = let a = c.args.input.now in
    (ends-inside a _ _ c.take_apart.ensures c.in-Some.is).0

pub slice_bounds-row_text-start : goal.slice_bounds-row_text-start
slice_bounds-row_text-start g c = let a = c.args.input.now in
    (ends-inside a _ _ c.take_apart.ensures c.in-Some.is).0

pub slice_bounds-row_text-end : goal.slice_bounds-row_text-end
slice_bounds-row_text-end g c = let a = c.args.input.now in
    (ends-inside a _ _ c.take_apart.ensures c.in-Some.is).1

pub slice_bounds-row_text-count-in-Some : goal.slice_bounds-row_text-count-in-Some
slice_bounds-row_text-count-in-Some g c = let a = c.args.input.now in
    (ends-inside a _ _ c.take_apart.ensures c.in-Some.is).1

pub slice_bounds-row_text-start-in-Some : goal.slice_bounds-row_text-start-in-Some
slice_bounds-row_text-start-in-Some g c = let a = c.args.input.now in
    (ends-inside a _ _ c.take_apart.ensures c.in-Some.is).1

pub returns-in-None : goal.returns-in-None
unfolding output_of
returns-in-None g c = let e = c.take_apart.ensures in
    let none = split-none judged_text _ _ e c.in-None.is in
    walked_as none (refusal-walked 1 c.requires c.refused.ensures)

pub returns-in-Some : goal.returns-in-Some
unfolding output_of
returns-in-Some g c = let e = c.take_apart.ensures in
    let some = split-some judged_text _ _ e _ c.in-Some.is in
    IfOk-weaker c.row_text.result _ _ (λ r W. walked_as some W) c.row_text.ensures
