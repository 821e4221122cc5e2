-- `listing::put_leaf` meets its contract: a number or a text, each by one law. Assumes nothing.
use Rattle.listing.proofs.Wrote.{same_bytes}
use Rattle.listing.proofs.Seats.{leaf-number-room, leaf-number, leaf-elsewhere, leaf-text-room, leaf-text}
use Rattle.listing.proofs.put_leaf.Goals as goal

pub put_number-requires : goal.put_number-requires
put_number-requires c = leaf-number-room c.requires c.place.ensures c.if-place-lt-STRING.true

pub returns-then-place-lt-STRING : goal.returns-then-place-lt-STRING
returns-then-place-lt-STRING c = same_bytes (leaf-number c.requires c.place.ensures c.if-place-lt-STRING.true) c.put_number.ensures

pub own-requires : goal.own-requires
own-requires c = leaf-elsewhere c.requires c.place.ensures c.if-place-lt-STRING.false

pub put_text-requires : goal.put_text-requires
put_text-requires c = leaf-text-room c.requires c.place.ensures c.if-place-lt-STRING.false c.own.ensures

pub returns-else-place-lt-STRING : goal.returns-else-place-lt-STRING
returns-else-place-lt-STRING c = same_bytes (leaf-text c.requires c.place.ensures c.if-place-lt-STRING.false c.own.ensures) c.put_text.ensures
