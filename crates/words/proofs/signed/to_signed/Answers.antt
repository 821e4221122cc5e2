-- `words::signed::to_signed` meets its contract. Assumes nothing.
use mathlib.Core.Path.{◌≡◌, sym, ap, ◌∙◌}
use Prim.Native.Nat.{ℕ, ◌-◌, ◌<◌, ◌≤◌}
use native.Mathlib.Omega.{arith}
use lib.IntN.{pos, negsuc}
use Rattle.words.specs.Signed.{half_of}
use Rattle.words.proofs.SignedLaws.{half_le, passed, to_low, to_high}
use Rattle.words.proofs.signed.to_signed.Goals as goal

pub of_magnitude-requires : goal.of_magnitude-requires
of_magnitude-requires c = omega (arith, half_le c.args.k c.requires.1, c.half-h.ensures)

pub of_magnitude-requires-else-n-h : goal.of_magnitude-requires-else-n-h
of_magnitude-requires-else-n-h c = omega (arith, half_le c.args.k c.requires.1, c.half-h.ensures)

pub returns-then-n-h : goal.returns-then-n-h
returns-then-n-h c = let h = c.half-h.ensures in
    let l : c.args.n < half_of c.args.k = rw h at c.if-n-h.true in
    passed c.of_magnitude.result (pos c.args.n) c.of_magnitude.ensures (omega (arith, half_le c.args.k c.requires.1))
    ∙ sym (to_low (half_of c.args.k) c.args.n l)

pub returns-else-n-h : goal.returns-else-n-h
returns-else-n-h c = let h = c.half-h.ensures in
    let l : half_of c.args.k ≤ c.args.n = rw h at c.if-n-h.false in
    let e : c.of_magnitude-else-n-h.result ≡ negsuc (half_of c.args.k - 1 - (c.args.n - half_of c.args.k)) =
    c.of_magnitude-else-n-h.ensures ∙ ap (λ (x : ℕ). negsuc (x - 1 - (c.args.n - x))) h in
    passed c.of_magnitude-else-n-h.result (negsuc (half_of c.args.k - 1 - (c.args.n - half_of c.args.k))) e
    (omega (arith, half_le c.args.k c.requires.1, c.requires.2))
    ∙ sym (to_high (half_of c.args.k) c.args.n l c.requires.2)
