-- `words::signed::get_signed` meets its contract. Assumes nothing.
use mathlib.Core.List.{List}
use lib.ListN.{length}
use Prim.Native.Nat.{ℕ, ◌+◌, ◌<◌, ◌≤◌}
use native.Mathlib.Nat.{lt_of_lt_of_le}
use mathlib.Core.Path.{ap, ◌∙◌}
use Rattle.words.specs.Bytes.{Bytes, num, part}
use Rattle.words.specs.Signed.{half_of, to_signed}
use Rattle.words.proofs.Numbers.{slice-bytes}
use Rattle.words.proofs.NumLaws.{part-lt}
use Rattle.words.proofs.SignedLaws.{half-bytes, half_le, passed, to_signed-mag}
use Rattle.words.proofs.signed.get_signed.Goals as goal

fits : {b : List ℕ} (at k : ℕ) → Bytes b → 0 < k → k ≤ 8 → at + k ≤ length b → num (part b at k) < half_of k + half_of k
fits at k h p q l = rw (half-bytes k p) (part-lt at k h l)

pub to_signed-requires : goal.to_signed-requires
to_signed-requires c = let a = c.args in let p = c.requires in
    (p.1, p.2, rw c.get_num.ensures.is (fits a.at a.k (slice-bytes c.type_inv.b) p.1 p.2 p.0))

pub returns : goal.returns
returns c = let a = c.args in
    let p = c.requires in
    let n = num (part a.b.now a.at a.k) in
    passed c.to_signed.result (to_signed (half_of a.k) n)
    (c.to_signed.ensures ∙ ap (to_signed (half_of a.k)) c.get_num.ensures.is)
    (lt_of_lt_of_le (to_signed-mag (half_of a.k) n (fits a.at a.k (slice-bytes c.type_inv.b) p.1 p.2 p.0)) (half_le a.k p.2))
