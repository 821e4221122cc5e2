-- `reading::own::holds` meets its contract. Assumes nothing.
use Rattle.reading.proofs.Opening.{struct_left}
use Rattle.reading.proofs.Rules.{rest-leaf, leaf-as, text-as, rest-list, list-fits, list-as, rest-row, map-as, count_small, struct-as}
use Rattle.reading.proofs.own.holds.Goals as goal

pub leaf_holds-requires : goal.leaf_holds-requires
leaf_holds-requires c = rest-leaf c.requires c.if-k-lt-STRING.true

pub returns-then-k-lt-STRING : goal.returns-then-k-lt-STRING
returns-then-k-lt-STRING c = leaf-as c.requires c.if-k-lt-STRING.true c.leaf_holds.ensures

pub returns-then-k-lt-LIST : goal.returns-then-k-lt-LIST
returns-then-k-lt-LIST c = text-as c.requires c.if-k-lt-STRING.false c.if-k-lt-LIST.true c.is_spelled.ensures

pub element_width-requires : goal.element_width-requires
element_width-requires c = rest-list c.requires c.if-k-eq-LIST.true

pub list_holds-requires : goal.list_holds-requires
list_holds-requires c = let pre = c.requires in
    list-fits pre _ c.element_width.ensures

pub returns-then-k-eq-LIST : goal.returns-then-k-eq-LIST
returns-then-k-eq-LIST c = let pre = c.requires in
    let if3 = c.if-k-eq-LIST in
    list-as pre if3.true c.element_width.ensures c.list_holds.ensures

pub map_holds-requires : goal.map_holds-requires
map_holds-requires c = rest-row c.requires

pub returns-then-k-eq-MAP : goal.returns-then-k-eq-MAP
returns-then-k-eq-MAP c = let pre = c.requires in
    map-as pre c.if-k-eq-MAP.true c.map_holds.ensures

pub struct_holds-requires : goal.struct_holds-requires
struct_holds-requires c = let pre = c.requires in
    let if2 = c.if-k-lt-LIST in
    let if3 = c.if-k-eq-LIST in
    count_small pre (struct_left pre.is.kinded if2.false if3.false c.if-k-eq-MAP.false) c.count.ensures

pub returns : goal.returns
returns c = let pre = c.requires in
    let if2 = c.if-k-lt-LIST in
    let if3 = c.if-k-eq-LIST in
    let if4 = c.if-k-eq-MAP in
    struct-as pre (struct_left pre.is.kinded if2.false if3.false if4.false) c.count.ensures c.struct_holds.ensures
