-- `checking::check_row` meets its contract. Assumes nothing.
use Rattle.table.proofs.Places.{root_stands}
use Rattle.checking.proofs.Root.{root-fields, root_none, root-slot, root-byte}
use Rattle.checking.proofs.check_row.Goals as goal

pub entry_at-requires : goal.entry_at-requires
entry_at-requires c = search root_stands

pub check_struct-requires : goal.check_struct-requires
check_struct-requires c = search root-fields

pub returns-in-0 : goal.returns-in-0
returns-in-0 c = search root_none

pub returns-in-1 : goal.returns-in-1
returns-in-1 c = search root-slot

pub returns-in_default : goal.returns-in_default
returns-in_default c = search root-byte
