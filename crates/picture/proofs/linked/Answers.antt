-- `picture::linked` meets its contract. Assumes nothing.
use native.Mathlib.Omega.{arith}
use mathlib.Core.Path.{sym, ◌∙◌}
use Rattle.answers.proofs.PathLaws.{length-path}
use Rattle.lettering.proofs.Putting.{puts_then, puts-as}
use Rattle.picture.proofs.Drawing.{link-most, linked-none, linked-some}
use Rattle.picture.proofs.linked.Goals as goal

pub returns-then-path-eq0 : goal.returns-then-path-eq0
returns-then-path-eq0 c = linked-none _ _ _ _ (length-path c.args.path ∙ c.if-path-eq0.true)

pub path-requires : goal.path-requires
path-requires c = let pre = c.requires in
    let link = c.link-next in
    let args = c.args in
    record { room = omega (arith, pre.0, link.ensures.next, link.auto.out, link-most args.w); few = pre.1 }

pub returns : goal.returns
returns c = let if1 = c.if-path-eq0 in
    let args = c.args in
    let link = c.link-next in
    let path = c.path in
    puts-as (linked-some _ _ (λ e. if1.false (sym (length-path args.path) ∙ e))) (puts_then link.ensures path.ensures)
