-- `standing::maps::take` meets its contract. Assumes nothing.
use native.Mathlib.Nat.{lt_of_lt_of_le}
use lib.Dec.{lit≤}
use lib.Bits.{mask_lt}
use Rattle.standing.proofs.Marks.{unit-mask, unit-fits, unit-taken, unit-free}
use Rattle.standing.proofs.maps.take.Goals as goal

pub overflow_shl-new : goal.overflow_shl-new
overflow_shl-new c = lt_of_lt_of_le (mask_lt c.args.a 3) (lit≤ {m = 8} {n = 64} tt)

pub returns-then-new-old : goal.returns-then-new-old
returns-then-new-old c = let a = c.args in
    unit-taken a.m.now a.a {old = c.wide-old.result} c.wide-old.ensures.0 (unit-mask a.a) c.if-new-old.true

pub overflow_cast-m : goal.overflow_cast-m
overflow_cast-m c = let a = c.args in
    let w = c.wide-old.ensures in
    record { fits = unit-fits a.m.now a.a {old = c.wide-old.result} w.0 (unit-mask a.a) w.1 }

pub returns : goal.returns
returns c = let a = c.args in
    unit-free a.m.now a.a {old = c.wide-old.result} c.wide-old.ensures.0 (unit-mask a.a) c.if-new-old.false
