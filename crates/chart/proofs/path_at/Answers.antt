-- `chart::path_at` meets its contract. Assumes nothing.
use Rattle.chart.proofs.Claiming.{copied}
use Rattle.chart.proofs.path_at.Goals as goal

pub returns : goal.returns
returns c = copied _ _ c.args.line c.requires.0 c.requires.1 c.copy_from_slice.ensures.after c.held.ensures
