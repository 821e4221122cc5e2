-- `chart::walk::list` meets its contract. Assumes nothing.
use mathlib.Core.Path.{◌∙◌}
use Rattle.chart.proofs.Labelling.{list-child-room, list-varies, list-plain}
use Rattle.chart.proofs.walk.list.Goals as goal

pub child_lines-requires : goal.child_lines-requires
child_lines-requires c = let g = c.requires in
    let get = c.get-n in
    let claim = c.claim in
    list-child-room g _ get.ensures.is _ _ c.slot_width.ensures (claim.auto.chart ∙ g.long)

pub returns-then-v-eq0 : goal.returns-then-v-eq0
returns-then-v-eq0 c = let g = c.requires in
    let get = c.get-n in
    let slot-width = c.slot_width in
    let claim = c.claim in
    let child-lines = c.child_lines in
    list-varies g _ get.ensures.is _ slot-width.ensures claim.ensures child-lines.ensures c.if-v-eq0.true

pub returns-else-v-eq0 : goal.returns-else-v-eq0
returns-else-v-eq0 c = let g = c.requires in
    let get = c.get-n in
    let slot-width = c.slot_width in
    let claim = c.claim in
    let child-lines = c.child_lines in
    list-plain g _ get.ensures.is _ slot-width.ensures claim.ensures child-lines.ensures c.if-v-eq0.false
