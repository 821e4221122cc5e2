-- `reading::own::element_width` meets its contract. Assumes nothing.
use Rattle.reading.proofs.Rules.{element-wide}
use Rattle.reading.proofs.own.element_width.Goals as goal

pub returns : goal.returns
returns c = element-wide c.requires c.entry_at.ensures c.element_width.ensures
