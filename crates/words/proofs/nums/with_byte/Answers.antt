-- `words::nums::with_byte` meets its contract, by `reads-next`. Assumes nothing.
use native.Mathlib.Omega.{arith}
use Rattle.std.specs.Prelude.{◌≡◌, ◌+◌, min}
use Rattle.std.proofs.Math.Nat.{min-eq_left}
use Rattle.words.specs.Reads.{Reads}
use Rattle.words.proofs.Numbers.{slice-bytes}
use Rattle.words.proofs.Turns.{reads-next}
use Rattle.words.proofs.nums.with_byte.Goals as goal

pub returns-then-i-k : goal.returns-then-i-k
returns-then-i-k c = let a = c.args in
    let e : min a.i a.k ≡ a.i = min-eq_left (omega arith) in
    let f : min (a.i + 1) a.k ≡ a.i + 1 = min-eq_left (omega arith) in
    rw f (reads-next a.at a.i a.r _ (slice-bytes c.type_inv.b) (rw e at c.requires.so_far) c.wide.ensures.0 c.requires.few (omega arith))
