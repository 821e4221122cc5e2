-- `words::nums::put` meets its contract: one byte more at a time. Assumes nothing.
use native.Mathlib.Omega.{arith}
use Rattle.std.specs.Prelude.{◌≡◌, min}
use Rattle.std.proofs.Common.{refl}
use Rattle.std.proofs.Math.Nat.{zero-min, min-eq_right}
use Rattle.words.specs.Bytes.{le}
use Rattle.words.proofs.nums.put.Goals as goal

pub returns : goal.returns
unfolding le
returns g c = let x = c.args.b.now in
    let none : min 0 g.row.K ≡ 0 = zero-min g.row.K in
    let all : min 8 g.row.K ≡ g.row.K = min-eq_right (omega arith) in
    let p1 = c.put_byte.ensures x (rw none refl) in
    let p2 = c.put_byte-2.ensures x p1 in
    let p3 = c.put_byte-3.ensures x p2 in
    let p4 = c.put_byte-4.ensures x p3 in
    let p5 = c.put_byte-5.ensures x p4 in
    let p6 = c.put_byte-6.ensures x p5 in
    let p7 = c.put_byte-7.ensures x p6 in
    rw all at c.put_byte-8.ensures x p7
