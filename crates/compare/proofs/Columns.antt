-- An entry and what it is less its place and depth, below the column of its end. Assumes nothing.
use Rattle.std.proofs.Common.{◌≡◌, ℕ, ◌+◌, ◌-◌, ◌*◌, ◌%◌, ◌<◌, ◌≤◌, sym, ap, ◌∙◌, arith}

-- what lies above the column does not count
above : (w b j : ℕ) → (w + (b + j * 18014398509481984)) % 18446744073709551616 % 18014398509481984 ≡ (w % 18014398509481984 + b) % 18014398509481984
above w b j = omega arith

-- the mark is lowest
pub mark_of : (w v c : ℕ) → w % 18014398509481984 ≡ v + c * 68719476736 → w % 65536 ≡ v % 65536
mark_of w v c e = omega arith

-- the place and the depth of a type as columns
pub record Based (d i base : ℕ) : Type 0 where
  pub made : base ≡ (d + 2) * 4294967296 + (i + 1) * 18031990695526400
  pub deep : d ≤ 6
  pub short : i ≤ 512

module _ {d i base : ℕ} (h : Based d i base) where
  abbrev b : ℕ
  b = (d + 2) * 4294967296 + (i + 1) * 17592186044416

  parts : base ≡ b + (i + 1) * 18014398509481984
  parts = omega (arith, h.made)

  low : base - (i + 1) * 18014398509481984 ≡ b
  low = omega (arith, parts)

  small : b < 9042383626829824
  small = omega (arith, h.deep, h.short)

  sum : (w : ℕ) → (w + base) % 18446744073709551616 % 18014398509481984 ≡ (w % 18014398509481984 + b) % 18014398509481984
  sum w = ap (λ (u : ℕ). (w + u) % 18446744073709551616 % 18014398509481984) parts ∙ above w b (i + 1)

  -- an entry by what it is less place and depth
  pub entry_of : (w v : ℕ) → v < 8972014882652160 → w % 18014398509481984 ≡ v
      → (w + base) % 18446744073709551616 % 18014398509481984 ≡ v + (base - (i + 1) * 18014398509481984)
  entry_of w v l e =
      let p : (v + b) % 18014398509481984 ≡ v + b = omega (arith, small) in
      sum w ∙ ap (λ (u : ℕ). (u + b) % 18014398509481984) e ∙ p ∙ ap (λ (u : ℕ). v + u) (sym low)

  -- and back
  pub less-of : (w v : ℕ) → v < 8972014882652160
      → (w + base) % 18446744073709551616 % 18014398509481984 ≡ v + (base - (i + 1) * 18014398509481984) → w % 18014398509481984 ≡ v
  less-of w v l e =
      let q : (w % 18014398509481984 + b) % 18014398509481984 ≡ v + b = sym (sum w) ∙ e ∙ ap (λ (u : ℕ). v + u) low in
      omega (arith, small)
