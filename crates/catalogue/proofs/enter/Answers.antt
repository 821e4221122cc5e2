-- `catalogue::enter` meets its contract. Assumes nothing.
use native.Mathlib.Omega.{arith}
use Rattle.catalogue.proofs.Entering.{enters-size, enters-few, enters-room, enters-full, enters-new}
use borrow.Author.Rules.{rules}
use Rattle.catalogue.proofs.enter.Goals as goal

pub bounds-catalogue-0 : goal.bounds-catalogue-0
bounds-catalogue-0 c = omega (arith, enters-size c.requires)

pub overflow_cast-count : goal.overflow_cast-count
overflow_cast-count c = let f = (c.type_inv.catalogue 0).fits in search rules

pub returns-then-count-eq-MOST : goal.returns-then-count-eq-MOST
returns-then-count-eq-MOST c = enters-full c.requires c.if-count-eq-MOST.true

pub put-requires : goal.put-requires
put-requires c = let y = c.requires in omega (arith, enters-room y c.if-count-eq-MOST.false, enters-size y)

pub overflow_add-end : goal.overflow_add-end
overflow_add-end c = let y = c.requires in
    omega (arith, enters-room y c.if-count-eq-MOST.false, enters-size y)

pub copy-requires : goal.copy-requires
copy-requires c = let y = c.requires in
    (omega (arith, enters-room y c.if-count-eq-MOST.false, c.put.auto.b), omega arith)

pub overflow_add-catalogue : goal.overflow_add-catalogue
overflow_add-catalogue c = omega (arith, enters-few c.requires)

pub overflow_cast-catalogue : goal.overflow_cast-catalogue
overflow_cast-catalogue c = record { fits = omega (arith, enters-few c.requires) }

pub bounds-catalogue-0-2 : goal.bounds-catalogue-0-2
bounds-catalogue-0-2 c = let y = c.requires in
    omega (arith, enters-size y, c.copy.auto.out, c.put.auto.b)

pub returns : goal.returns
returns c = enters-new c.requires c.if-count-eq-MOST.false c.put.ensures
    c.copy.ensures
