-- `listing::list_row` meets its contract: with no byte lent the lister measures, and with room it writes. Assumes nothing.
use Rattle.words.proofs.Numbers.{slice-bytes}
use Rattle.listing.proofs.Wrote.{same_bytes, answered-short, answered-whole, answered-roomy}
use Rattle.listing.proofs.Root.{row-container, row-lines, row-short}
use Rattle.listing.proofs.list_row.Goals as goal

pub list_value-requires : goal.list_value-requires
list_value-requires c = row-container c.requires (slice-bytes c.type_inv.row)

pub returns-then-row-out : goal.returns-then-row-out
returns-then-row-out c = answered-roomy _ _ _ _ _ (row-short c.requires (slice-bytes c.type_inv.row)) c.if-row-out.true
    (same_bytes (row-lines c.requires) c.list_value.ensures)

pub list_value-need-requires : goal.list_value-need-requires
list_value-need-requires c = row-container c.requires (slice-bytes c.type_inv.row)

pub returns-then-out-need : goal.returns-then-out-need
returns-then-out-need c = answered-short _ _ _ _ (same_bytes (row-lines c.requires) c.list_value-need.ensures) c.if-out-need.true

pub list_value-requires-2 : goal.list_value-requires-2
list_value-requires-2 c = row-container c.requires (slice-bytes c.type_inv.row)

pub returns : goal.returns
returns c = answered-whole _ _ _ _ _ _ (same_bytes (row-lines c.requires) c.list_value-need.ensures) c.if-out-need.false
    (same_bytes (row-lines c.requires) c.list_value-2.ensures)
