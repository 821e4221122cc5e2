-- `leaves::lines::mark` meets its contract: the two bytes that the entry says. Assumes nothing.
use native.Mathlib.Omega.{arith}
use borrow.Author.Rules.{rules}
use Rattle.words.proofs.Powers.{mask_is}
use Rattle.leaves.proofs.Lengths.{mark-small, mark-puts}
use Rattle.leaves.proofs.lines.mark.Goals as goal

pub overflow_cast-m : goal.overflow_cast-m
overflow_cast-m c = search (rules, mask_is c.mark-m.result 8)

pub overflow_cast-m-2 : goal.overflow_cast-m-2
overflow_cast-m-2 c = let mark = c.mark-m in
    record { fits = omega (arith, mark-small _ mark.ensures) }

pub returns : goal.returns
returns c = let mark = c.mark-m in
    let byte = c.byte-next in
    mark-puts c.requires.0 mark.ensures byte.ensures c.byte.ensures
