-- `shelf::judge` meets its contract: the first i schemas stand, the rules of schema k aside. Assumes nothing.
use native.Mathlib.Omega.{arith}
use Rattle.shelf.proofs.Judging.{wrong_size, too_many, seen_start, seen-short, seen_low, broken-long, broken-rules, seen_next, seen_all}
use borrow.Author.Rules.{rules}
use Rattle.shelf.proofs.judge.Goals as goal

pub returns-then-t-ne-SIZE : goal.returns-then-t-ne-SIZE
returns-then-t-ne-SIZE c = wrong_size _ c.if-t-ne-SIZE.true

pub overflow_cast-count : goal.overflow_cast-count
overflow_cast-count c = let f = (c.type_inv.t 0).fits in search rules

pub returns-then-count-gt-MOST : goal.returns-then-count-gt-MOST
returns-then-count-gt-MOST c = too_many _ c.if-t-ne-SIZE.false c.if-count-gt-MOST.true

pub loop-i-init : goal.loop-i-init
loop-i-init c = seen_start c.if-t-ne-SIZE.false (omega arith)

pub size_at-n-requires : goal.size_at-n-requires
size_at-n-requires c = let y = c.loop-i.invariant in omega (arith, seen_low y, y.few, y.size)

pub returns-then-n-gt1024 : goal.returns-then-n-gt1024
returns-then-n-gt1024 c = let l = c.loop-i in
    broken-long l.invariant c.size_at-n.ensures.is (omega arith) c.if-n-gt1024.true

pub overflow_add-start : goal.overflow_add-start
overflow_add-start c = let l = c.loop-i in omega (arith, seen_low l.invariant, l.invariant.few, l.invariant.size)

pub overflow_add-end : goal.overflow_add-end
overflow_add-end c = let l = c.loop-i in omega (arith, seen_low l.invariant, l.invariant.few, l.invariant.size)

pub slice_bounds-stands_but-count : goal.slice_bounds-stands_but-count
slice_bounds-stands_but-count c = let l = c.loop-i in omega (arith, seen_low l.invariant, l.invariant.few, l.invariant.size)

pub slice_bounds-stands_but-start : goal.slice_bounds-stands_but-start
slice_bounds-stands_but-start c = let l = c.loop-i in omega (arith, seen_low l.invariant, l.invariant.few, l.invariant.size)

pub slice_bounds-stands_but-end : goal.slice_bounds-stands_but-end
slice_bounds-stands_but-end c = let l = c.loop-i in omega (arith, seen_low l.invariant, l.invariant.few, l.invariant.size)

pub stands_but-requires : goal.stands_but-requires
stands_but-requires c = seen-short c.loop-i.invariant

pub returns-then-not-stands_but : goal.returns-then-not-stands_but
returns-then-not-stands_but c = let l = c.loop-i in
    broken-rules l.invariant c.size_at-n.ensures.is (omega arith) c.stands_but.ensures (search rules)

pub loop-i-preserved : goal.loop-i-preserved
loop-i-preserved c =
    seen_next c.loop-i.invariant c.size_at-n.ensures.is (omega arith) (omega arith) c.stands_but.ensures (search rules)

pub returns : goal.returns
returns c = seen_all c.loop-i.invariant (omega arith)
