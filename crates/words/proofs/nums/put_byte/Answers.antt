-- `words::nums::put_byte` meets its contract, by `puts-next`. Assumes nothing.
use native.Mathlib.Omega.{arith}
use Rattle.std.specs.Prelude.{◌≡◌, ℕ, ◌+◌, ◌/◌, ◌*◌, ◌^◌, min}
use Rattle.std.proofs.Common.{sym, ap}
use Rattle.std.proofs.Math.Nat.{min-eq_left}
use Rattle.words.proofs.NumLaws.{pow256}
use Rattle.words.proofs.Turns.{puts-next}
use Rattle.words.proofs.nums.put_byte.Goals as goal

pub returns-then-i-k : goal.returns-then-i-k
returns-then-i-k c = λ x e. let a = c.args in
    let p : min a.i a.k ≡ a.i = min-eq_left (omega arith) in
    let q : min (a.i + 1) a.k ≡ a.i + 1 = min-eq_left (omega arith) in
    rw q (puts-next x a.b.now a.at a.i a.v (a.v / 2 ^ (8 * a.i)) (rw p at e) (ap (λ (n : ℕ). a.v / n) (sym (pow256 a.i))))
