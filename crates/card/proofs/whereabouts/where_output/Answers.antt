-- `card::whereabouts::where_output` meets its contract: the input is refused, or its row is shown. Assumes nothing.
use Rattle.std.proofs.lemmas.Result.{IfOk-weaker}
use Rattle.lettering.proofs.Putting.{walked_as}
use Rattle.card.specs.Whereabouts.{where_text, where_output_of}
use Rattle.card.proofs.Checked.{refusal-walked}
use Rattle.card.proofs.Apart.{ends-inside, split-none, split-some}
use Rattle.card.proofs.whereabouts.where_output.Goals as goal

pub slice_bounds-where_text-count : goal.slice_bounds-where_text-count
slice_bounds-where_text-count g c = let a = c.args.input.now in
    (ends-inside a _ _ c.take_apart.ensures c.in-Some.is).0

pub slice_bounds-where_text-start : goal.slice_bounds-where_text-start
slice_bounds-where_text-start g c = let a = c.args.input.now in
    (ends-inside a _ _ c.take_apart.ensures c.in-Some.is).0

pub slice_bounds-where_text-end : goal.slice_bounds-where_text-end
slice_bounds-where_text-end g c = let a = c.args.input.now in
    (ends-inside a _ _ c.take_apart.ensures c.in-Some.is).1

pub slice_bounds-where_text-count-in-Some : goal.slice_bounds-where_text-count-in-Some
slice_bounds-where_text-count-in-Some g c = let a = c.args.input.now in
    (ends-inside a _ _ c.take_apart.ensures c.in-Some.is).1

pub slice_bounds-where_text-start-in-Some : goal.slice_bounds-where_text-start-in-Some
slice_bounds-where_text-start-in-Some g c = let a = c.args.input.now in
    (ends-inside a _ _ c.take_apart.ensures c.in-Some.is).1

pub returns-in-None : goal.returns-in-None
unfolding where_output_of
returns-in-None g c = let take-apart = c.take_apart in
    let pre = c.requires in
    let refused' = c.refused in
    let none = split-none where_text _ _ take-apart.ensures c.in-None.is in
    walked_as none (refusal-walked 1 pre refused'.ensures)

pub returns-in-Some : goal.returns-in-Some
unfolding where_output_of
returns-in-Some g c = let take-apart = c.take_apart in
    let some = split-some where_text _ _ take-apart.ensures _ c.in-Some.is in
    IfOk-weaker c.where_text.result _ _ (λ r W. walked_as some W) c.where_text.ensures
