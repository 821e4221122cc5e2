-- `shelf::number` meets its contract: s is none of the first i schemas, and the entry of schema i starts at `at`. Assumes nothing.
use mathlib.Core.Path.{◌≡◌, refl, sym, ◌∙◌}
use native.Mathlib.Omega.{arith}
use Rattle.shelf.specs.Catalogue.{start_of, schemas_to, number_among}
use Rattle.shelf.proofs.Entries.{start-next, at_lies}
use Rattle.shelf.proofs.Searching.{none-next, number-here}
use Rattle.shelf.proofs.Standing.{length-schemas}
use Rattle.shelf.proofs.number.Goals as goal

pub loop-i-init : goal.loop-i-init
unfolding start_of schemas_to number_among
loop-i-init c = (refl, refl)

pub is_at-requires : goal.is_at-requires
is_at-requires c = let l = c.loop-i in at_lies c.requires l.i l.at (omega arith) l.invariant.0

pub returns-then-is_at : goal.returns-then-is_at
returns-then-is_at c = let l = c.loop-i in
    let a = c.args in (
      number-here a.t.now a.s.now l.i l.at _ l.invariant.0 c.is_at.ensures l.invariant.1 c.if-is_at.true a.n (omega arith),
      omega (arith, length-schemas a.t.now a.n),
    )

pub size_at-requires : goal.size_at-requires
size_at-requires c = let l = c.loop-i in
    omega (arith, at_lies c.requires l.i l.at (omega arith) l.invariant.0)

pub overflow_add-at-in-loop-i : goal.overflow_add-at-in-loop-i
overflow_add-at-in-loop-i c = let l = c.loop-i in
    omega (arith, at_lies c.requires l.i l.at (omega arith) l.invariant.0)

pub loop-i-preserved : goal.loop-i-preserved
loop-i-preserved c = let l = c.loop-i in
    let a = c.args in (
      start-next l.i l.invariant.0 c.size_at.ensures,
      none-next a.t.now a.s.now l.i l.at _ l.invariant.0 c.is_at.ensures l.invariant.1 c.if-is_at.false,
    )

pub returns : goal.returns
returns c = let l = c.loop-i in
    let e : l.i ≡ c.args.n = omega arith in
    (rw e at l.invariant.1) ∙ sym (length-schemas c.args.t.now c.args.n)
