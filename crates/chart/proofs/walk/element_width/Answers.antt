-- `chart::walk::element_width` meets its contract. Assumes nothing.
use Rattle.chart.proofs.Labelling.{element-bytes}
use Rattle.chart.proofs.walk.element_width.Goals as goal

pub returns : goal.returns
returns c = element-bytes c.requires c.entry_at.ensures c.width.ensures
