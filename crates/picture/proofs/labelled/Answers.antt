-- `picture::labelled` meets its contract. Assumes nothing.
use native.Mathlib.Omega.{arith}
use mathlib.Core.Path.{sym, ap, ◌∙◌}
use mathlib.Core.List.{List, ◌++◌}
use Prim.Native.Nat.{◌+◌, ◌*◌, ◌-◌, ℕ}
use Rattle.chart.specs.Claims.{steps_at}
use Rattle.lettering.proofs.Putting.{puts_then, puts-as}
use Rattle.picture.specs.Picture.{spaces, label}
use Rattle.picture.proofs.Drawing.{spaces-length, labelled-none, labelled-some}
use Rattle.picture.proofs.labelled.Goals as goal

pub returns-then-w-eq0 : goal.returns-then-w-eq0
returns-then-w-eq0 c = labelled-none _ _ _ _ _ (sym c.what-w.ensures ∙ c.if-w-eq0.true)

pub label-requires : goal.label-requires
label-requires c = let pre = c.requires in
    let spaces' = c.spaces-l in
    let args = c.args in
    let path-at = c.path_at in
    (omega (arith, pre.0, spaces'.ensures.next, spaces'.auto.out, spaces-length (3 * (8 - args.k) + 2)), path-at.ensures.few)

pub returns : goal.returns
returns c = let what = c.what-w in
    let path-at = c.path_at in
    let args = c.args in
    let if1 = c.if-w-eq0 in
    let spaces' = c.spaces-l in
    let label' = c.label in
    let w = what.ensures in
    let p = path-at.ensures.is in
    let all = labelled-some args.k _ (steps_at args.chart.now args.u) (λ e. if1.false (w ∙ e)) in
    puts-as (ap (λ (t : List ℕ). spaces (3 * (8 - args.k) + 2) ++ label what.result t) p
    ∙ ap (λ (x : ℕ). spaces (3 * (8 - args.k) + 2) ++ label x (steps_at args.chart.now args.u)) w ∙ all)
    (puts_then spaces'.ensures label'.ensures)
