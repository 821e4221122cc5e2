-- What the slots of a container tell: the ranges before a child, one child after the other. Assumes nothing.
use mathlib.Core.Path.{◌≡◌, refl, ap, ◌∙◌}
use mathlib.Core.Bool.{Bool, true, false, not, cond}
use mathlib.Core.List.{List, ◌∷◌}
use Prim.Native.Nat.{ℕ, ◌+◌, ◌*◌}
use native.Mathlib.Numerals.{add-one}
use Rattle.words.specs.Bits.{bit}
use Rattle.layout.specs.Tiles.{Range}
use Rattle.standing.specs.Maps.{both}
use Rattle.standing.specs.Standing.{range_at, ranges_to}

module _ (h slots : ℕ) (vary : ℕ → Bool) (b : List ℕ) (i : ℕ) where
  abbrev before : List Range
  before = ranges_to h slots vary b i

  ranges-on : ranges_to h slots vary b (i + 1) ≡ cond (both (vary i) (not (bit b h i))) (range_at b (slots + 8 * i) ∷ before) before
  unfolding ranges_to
  ranges-on = ap (ranges_to h slots vary b) (add-one i)

  pub ranges-fixed : vary i ≡ false → ranges_to h slots vary b (i + 1) ≡ before
  ranges-fixed v = ranges-on ∙ rw v

  pub ranges-null : bit b h i ≡ true → ranges_to h slots vary b (i + 1) ≡ before
  ranges-null e = ranges-on ∙ go (vary i)
    where
      go : (v : Bool) → cond (both v (not (bit b h i))) (range_at b (slots + 8 * i) ∷ before) before ≡ before
      go true = rw e
      go false = refl

  pub ranges-there : vary i ≡ true → bit b h i ≡ false → ranges_to h slots vary b (i + 1) ≡ range_at b (slots + 8 * i) ∷ before
  ranges-there v e = ranges-on ∙ rw (v, e)
