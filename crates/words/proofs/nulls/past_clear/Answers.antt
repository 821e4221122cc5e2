-- `words::nulls::past_clear` meets its contract, by the bitmap's last word. Assumes nothing.
use mathlib.Core.Path.{◌≡◌, sym, ◌∙◌}
use Prim.Native.Nat.{◌%◌}
use native.Mathlib.Omega.{arith}
use lib.Bits.{mask_lt}
use borrow.Author.Tests.{eq-eqb}
use Rattle.words.proofs.Powers.{mask_is}
use Rattle.words.proofs.Numbers.{slice-bytes}
use Rattle.words.proofs.Turns.{past-none, past_word}
use Rattle.words.proofs.nulls.past_clear.Goals as goal
use Rattle.words.proofs.nulls.past_clear.Goals.{Else-r-eq0}

some : (c : Else-r-eq0) → c.args.n % 64 ≡ 0 → ⊥
some c z = c.if-r-eq0.false (mask_is c.args.n 6 ∙ z)

pub returns-then-r-eq0 : goal.returns-then-r-eq0
returns-then-r-eq0 c = let a = c.args in
    let pre = c.requires in
    let h = slice-bytes c.type_inv.b in
    eq-eqb _ 0 c.if-r-eq0.true ∙ past-none a.n a.end h pre.0 pre.1 (sym (mask_is a.n 6) ∙ c.if-r-eq0.true)

pub overflow_sub-end : goal.overflow_sub-end
overflow_sub-end c = omega (arith, some (goal.at.overflow_sub-end c).Else-r-eq0)

pub get-requires-clause-room : goal.get-requires-clause-room
get-requires-clause-room c = omega (arith, some (goal.at.get-requires-clause-room c).Else-r-eq0)

pub overflow_shr-result : goal.overflow_shr-result
overflow_shr-result c = mask_lt c.args.n 6

pub returns-else-r-eq0 : goal.returns-else-r-eq0
returns-else-r-eq0 c = let a = c.args in
    let pre = c.requires in
    let h = slice-bytes c.type_inv.b in
    rw (mask_is a.n 6) (past_word a.n a.end h pre.0 pre.1 (some (goal.at.returns-else-r-eq0 c).Else-r-eq0) c.get.result c.get.ensures.is)
