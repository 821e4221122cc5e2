-- `table::rooms::with` meets its contract. Assumes nothing.
use Rattle.table.proofs.rooms.with.Goals as goal

pub with_out-requires : goal.with_out-requires
with_out-requires g c t _ f _ = c.requires t f
