-- `reading::slots::pointed` meets its contract. Assumes nothing.
use Rattle.words.proofs.Powers.{eights, no-eights}
use Rattle.reading.proofs.Pointing.{pointed-low, pointed-odd, pointed-long, pointed-at}
use Rattle.reading.proofs.slots.pointed.Goals as goal

pub returns-then-off-fixed : goal.returns-then-off-fixed
returns-then-off-fixed c = let pre = c.requires in
    let get = c.get-x in
    let slot-offset = c.slot_offset-off in
    pointed-low pre get.ensures.is slot-offset.ensures c.slot_size-len.ensures c.if-off-fixed.true

pub returns-then-off-ne0 : goal.returns-then-off-ne0
returns-then-off-ne0 c = let pre = c.requires in
    let get = c.get-x in
    let slot-offset = c.slot_offset-off in
    let slot-size = c.slot_size-len in
    pointed-odd pre get.ensures.is slot-offset.ensures slot-size.ensures c.if-off-fixed.false (no-eights _ c.if-off-ne0.true)

pub returns-then-size-off : goal.returns-then-size-off
returns-then-size-off c = let pre = c.requires in
    let get = c.get-x in
    let slot-offset = c.slot_offset-off in
    let slot-size = c.slot_size-len in
    let if1 = c.if-off-fixed in
    pointed-long pre get.ensures.is slot-offset.ensures slot-size.ensures if1.false (eights _ c.if-off-ne0.false) c.if-size-off.true

pub returns : goal.returns
returns c = let pre = c.requires in
    let get = c.get-x in
    let slot-offset = c.slot_offset-off in
    let slot-size = c.slot_size-len in
    let if1 = c.if-off-fixed in
    pointed-at pre get.ensures.is slot-offset.ensures slot-size.ensures if1.false (eights _ c.if-off-ne0.false) c.if-size-off.false
