-- `reading::types::open` meets its contract. Assumes nothing.
use Rattle.reading.proofs.Opening.{place-fits, entry-opens}
use Rattle.reading.proofs.types.open.Goals as goal

pub overflow_add-result : goal.overflow_add-result
overflow_add-result c = place-fits c.requires

pub returns : goal.returns
returns c = rw c.place.ensures (entry-opens c.requires c.entry_at-w.ensures)
