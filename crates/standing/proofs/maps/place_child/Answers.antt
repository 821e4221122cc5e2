-- `standing::maps::place_child` meets its contract. Assumes nothing.
use borrow.Author.Tests.{leb-true}
use Rattle.standing.proofs.Marks.{place-low, place-odd, place-long, place-beside, place-unit, slot-bounds, child-null, child-there}
use Rattle.standing.proofs.maps.place_child.Goals as goal

pub returns-then-is_null : goal.returns-then-is_null
returns-then-is_null c = search child-null

pub returns-then-from-start : goal.returns-then-from-start
returns-then-from-start c = search (child-there, place-low)

pub returns-then-b-end : goal.returns-then-b-end
returns-then-b-end c = search (child-there, place-long, slot-bounds)

pub returns-then-from-ne0 : goal.returns-then-from-ne0
returns-then-from-ne0 c = search (child-there, place-odd)

pub returns-then-size-le8 : goal.returns-then-size-le8
returns-then-size-le8 c =
    child-there c.is_null.ensures c.if-is_null.false (place-unit (slot-bounds c.offset_at-from.ensures c.size_at-size.ensures c.if-from-start.false)
    c.if-from-ne0.false c.requires.whole c.if-b-end.false c.if-size-ne0.true (leb-true c.size_at-size.result 8 c.if-size-le8.true-raw) c.take.ensures)

pub returns : goal.returns
returns c =
    child-there c.is_null.ensures c.if-is_null.false (place-beside (slot-bounds c.offset_at-from.ensures c.size_at-size.ensures c.if-from-start.false)
    c.if-from-ne0.false c.requires.whole c.if-b-end.false c.pad_size.ensures c.admit.ensures)
