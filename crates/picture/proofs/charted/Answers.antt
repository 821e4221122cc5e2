-- `picture::charted` meets its contract. Assumes nothing.
use Rattle.std.proofs.lemmas.Result.{IfOk-weaker}
use Rattle.lettering.proofs.Putting.{walked_as}
use Rattle.picture.proofs.Pictures.{drawn-zeros}
use Rattle.picture.proofs.charted.Goals as goal

pub returns-clause-walked : goal.returns-clause-walked
returns-clause-walked g c =
    let empty-chart = c.empty_chart-chart in
    let draw = c.draw in
    let picture = c.picture in
    IfOk-weaker picture.result _ _ (λ r W. walked_as (drawn-zeros _ _ _ empty-chart.ensures draw.ensures) W) picture.ensures.walked

pub returns-clause-held : goal.returns-clause-held
returns-clause-held g c l = c.picture.ensures.held (rw (drawn-zeros _ _ _ c.empty_chart-chart.ensures c.draw.ensures) l)
