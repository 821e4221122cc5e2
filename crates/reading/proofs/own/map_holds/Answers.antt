-- `reading::own::map_holds` meets its contract. Assumes nothing.
use Rattle.words.proofs.Powers.{eights, no-eights}
use Rattle.reading.proofs.Rules.{short-map, odd-map, map-test}
use Rattle.reading.proofs.own.map_holds.Goals as goal

pub returns-then-size-lt8 : goal.returns-then-size-lt8
returns-then-size-lt8 c = short-map c.requires c.if-size-lt8.true

pub returns-then-z-ne0 : goal.returns-then-z-ne0
returns-then-z-ne0 c = let pre = c.requires in
    let if1 = c.if-size-lt8 in
    odd-map pre if1.false c.get-z.ensures.is (no-eights _ c.if-z-ne0.true)

pub returns : goal.returns
returns c = let pre = c.requires in
    let if1 = c.if-size-lt8 in
    map-test pre if1.false c.get-z.ensures.is (eights _ c.if-z-ne0.false)
