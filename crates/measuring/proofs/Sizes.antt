-- The bytes of an array up to its elements' data. Assumes nothing.
use mathlib.Core.Path.{◌≡◌}
use Prim.Native.Nat.{ℕ, ◌+◌, ◌*◌, ◌≤◌, ◌<◌}
use native.Mathlib.Nat.{mul-le-mul_left}
use native.Mathlib.Decide.{dec_lt}
use native.Mathlib.Omega.{arith}
use mir.Syntax.{w64}
use mir.Val.{Fits}
use borrow.Author.Tests.{lt-ltb, le-ltb}
use Rattle.words.specs.Bytes.{pad, bitmap}
use Rattle.schema.specs.Marks.{element_width}
use Rattle.schema.specs.Types.{fixed_at}
use Rattle.schema.proofs.Table.{width-8, line-width}

element-small : (k : ℕ) → element_width k ≤ 8
unfolding element_width
element-small k = go (dec_lt k 7)
  where
    go : Dec (k < 7) → element_width k ≤ 8
    go (yes h) = rw (lt-ltb k 7 h, line-width k h) (width-8 (fixed_at k))
    go (no h) = rw (le-ltb k 7 (omega arith)) (omega arith)

-- n elements of e bytes, in the words of the code
module _ (n k : ℕ) (few : n < 4294967296) {e : ℕ} (ee : e ≡ element_width k) where
  wide : n * e ≤ n * 8
  wide = mul-le-mul_left n (omega (arith, element-small k))

  pub elements-fit : Fits w64 (n * e)
  elements-fit = omega (arith, wide)

  pub elements-small : n * e < 1099511627776
  elements-small = omega (arith, wide)

  module _ {b p : ℕ} (eb : b ≡ bitmap n) (ep : p ≡ pad (n * e)) where
    pub front_fits : Fits w64 (8 + b + p)
    front_fits = omega (arith, wide)
