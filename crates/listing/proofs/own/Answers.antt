-- `listing::own` meets its contract: the part that the slot says. Assumes nothing.
use Rattle.listing.proofs.Seats.{own_is}
use Rattle.listing.proofs.own.Goals as goal

pub returns : goal.returns
returns c = own_is c.get-x.ensures c.slot_offset-off.ensures c.slot_size.ensures
