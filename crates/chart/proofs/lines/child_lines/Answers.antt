-- `chart::lines::child_lines` meets its contract. Assumes nothing.
use Rattle.chart.proofs.Claiming.{child-all}
use Rattle.chart.proofs.lines.child_lines.Goals as goal

pub returns : goal.returns
returns c = let bitmap-size = c.bitmap_size-bits in
    let byte-lines = c.byte_lines in
    let slot-lines = c.slot_lines in
    child-all _ _ _ _ _ _ bitmap-size.ensures byte-lines.ensures slot-lines.ensures
