-- `compare::held_by` meets its contract. Assumes nothing.
use Rattle.std.proofs.Common.{◌≡◌, ◌%◌, sym, ◌∙◌, eq-eqb, ne_eqb, arith}
use lib.Dec.{lit<}
use Rattle.words.proofs.Powers.{mask_is}
use Rattle.compare.specs.Lines.{held_by}
use Rattle.compare.proofs.held_by.Goals as goal

pub returns-in-71135422828 : goal.returns-in-71135422828
unfolding held_by
returns-in-71135422828 c = (rw (eq-eqb _ _ (sym (mask_is c.args.w 54) ∙ c.in-71135422828.is)), lit< tt)

pub returns-in-140123332973 : goal.returns-in-140123332973
unfolding held_by
returns-in-140123332973 c = let k = c.args.w % 18014398509481984 in
    let e : k ≡ 140123332973 = sym (mask_is c.args.w 54) ∙ c.in-140123332973.is in
    (rw (ne_eqb k 71135422828 (λ f. omega arith), eq-eqb k 140123332973 e), lit< tt)

pub returns-in_default : goal.returns-in_default
unfolding held_by
returns-in_default c = let k = c.args.w % 18014398509481984 in
    let m = mask_is c.args.w 54 in
    rw (ne_eqb k 71135422828 (λ e. omega arith), ne_eqb k 140123332973 (λ e. omega arith))
