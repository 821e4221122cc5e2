-- `chart::walk::label` meets its contract. Assumes nothing.
use Rattle.std.proofs.Common.{ap, ◌∙◌, Ok}
use Rattle.answers.specs.Paths.{path_of}
use Rattle.chart.proofs.Finding.{line-within, found-stands, label-refused, label-null, label-taken, label-free}
use Rattle.chart.proofs.walk.label.Goals as goal

pub is_taken-taken-requires : goal.is_taken-taken-requires
is_taken-taken-requires c = let pre = c.requires in
    let a = c.args in
    let find = c.find in
    (pre.0.long, line-within (path_of a.path) pre.0.opened find.ensures (c.in-Ok-At.is ∙ ap Ok c.in-Ok-At.field-0-is))

pub present-below-requires : goal.present-below-requires
present-below-requires c = let pre = c.requires in
    let a = c.args in
    let find = c.find in
    record { long = pre.0.long; stands = found-stands (path_of a.path) pre.0.opened find.ensures (c.in-Ok-At.is ∙ ap Ok c.in-Ok-At.field-0-is); neat = pre.0.neat; more = pre.1 }

pub returns-in-Err : goal.returns-in-Err
returns-in-Err c = label-refused (path_of c.args.path) c.requires.0.opened c.find.ensures _ c.in-Err.is

pub returns-in-Ok-Null : goal.returns-in-Ok-Null
returns-in-Ok-Null c = label-null (path_of c.args.path) c.requires.0.opened c.find.ensures _ (c.in-Ok-Null.is ∙ ap Ok c.in-Ok-Null.field-0-is)

pub returns-then-taken : goal.returns-then-taken
returns-then-taken c = let a = c.args in
    let pre = c.requires in
    let find = c.find in
    let is-taken = c.is_taken-taken in
    let present = c.present-below in
    label-taken (path_of a.path) pre.0.opened find.ensures (c.in-Ok-At.is ∙ ap Ok c.in-Ok-At.field-0-is) is-taken.ensures present.ensures c.if-taken.true

pub returns-else-taken : goal.returns-else-taken
returns-else-taken c = let a = c.args in
    let pre = c.requires in
    let find = c.find in
    let is-taken = c.is_taken-taken in
    let present = c.present-below in
    label-free (path_of a.path) pre.0.opened find.ensures (c.in-Ok-At.is ∙ ap Ok c.in-Ok-At.field-0-is) is-taken.ensures present.ensures c.if-taken.false
