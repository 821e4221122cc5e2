-- `shelf::find` meets its contract. Assumes nothing.
use native.Mathlib.Omega.{arith}
use Rattle.std.proofs.lemmas.Result.{err_from_is_err_and}
use Rattle.shelf.specs.Places.{is_past, is_at}
use Rattle.shelf.proofs.Finding.{judged-none, judged-some, ungiven, before-short, lies_at, found_at}
use Rattle.shelf.proofs.find.Goals as goal

pub returns-in_err-ok_or : goal.returns-in_err-ok_or
returns-in_err-ok_or c =
    let p = err_from_is_err_and c.from_residual.result c.from_residual.ensures.1 in
    let e = c.in_err-ok_or.ensures in
    rw (p.1, p.2) (judged-none c.judge.ensures e.ok_part e.value)

pub returns-then-t-k : goal.returns-then-t-k
returns-then-t-k c = is_past (ungiven (judged-some c.judge.ensures c.in_ok-ok_or.ensures.ok_part) c.if-t-k.true)

pub start_of-at-requires : goal.start_of-at-requires
start_of-at-requires c = before-short (judged-some c.judge.ensures c.in_ok-ok_or.ensures.ok_part) (omega arith)

pub overflow_add-start : goal.overflow_add-start
overflow_add-start c = let y = judged-some c.judge.ensures c.in_ok-ok_or.ensures.ok_part in
    omega (arith, lies_at y c.if-t-k.false c.start_of-at.ensures)

pub size_at-requires : goal.size_at-requires
size_at-requires c = let y = judged-some c.judge.ensures c.in_ok-ok_or.ensures.ok_part in
    omega (arith, lies_at y c.if-t-k.false c.start_of-at.ensures, y.lies.size)

pub overflow_add-result : goal.overflow_add-result
overflow_add-result c = let y = judged-some c.judge.ensures c.in_ok-ok_or.ensures.ok_part in
    omega (arith, (found_at y c.if-t-k.false c.start_of-at.ensures c.size_at.ensures).within, y.lies.size)

pub returns : goal.returns
returns c = let y = judged-some c.judge.ensures c.in_ok-ok_or.ensures.ok_part in
    is_at (found_at y c.if-t-k.false c.start_of-at.ensures c.size_at.ensures)
