-- A schema in its place and a run of bytes, compared byte by byte. Assumes nothing.
use mathlib.Core.Path.{◌≡◌, refl, ap, ◌∙◌}
use mathlib.Core.Bool.{Bool, true, false, cond, ◌&&◌}
use mathlib.Core.List.{List, [], ◌∷◌}
use Prim.Native.Nat.{ℕ, ◌+◌, ◌-◌}
use native.Mathlib.Omega.{arith}
use lib.Dec.{eqb}
use lib.ListN.{take, drop}
use lib.Pointwise.{pointwise}
use Rattle.words.specs.Bytes.{part}
use Rattle.words.specs.Reads.{Reads}
use Rattle.compare.specs.Lent.{same}
use Rattle.shelf.specs.Catalogue.{size_at}

-- what `==` says of them
pointwise-same : (u s : List ℕ) → pointwise eqb u s ≡ same u s
unfolding same
pointwise-same [] [] = refl
pointwise-same [] (y ∷ s) = refl
pointwise-same (x ∷ u) [] = refl
pointwise-same (x ∷ u) (y ∷ s) = go (eqb x y) (pointwise-same u s)
  where
    go : (b : Bool) → pointwise eqb u s ≡ same u s → b && pointwise eqb u s ≡ cond b (same u s) false
    go true e = e
    go false e = refl

pub compared : {t : List ℕ} {at n : ℕ} → Reads t at 2 n → (s : List ℕ) {v : Bool}
    → v ≡ pointwise eqb (take (at + 2 + n - (at + 2)) (drop (at + 2) t)) s → v ≡ same (part t (at + 2) (size_at t at)) s
compared {t} {at} {n} r s e =
    let k : at + 2 + n - (at + 2) ≡ size_at t at = omega (arith, r.is) in
    e ∙ ap (λ (m : ℕ). pointwise eqb (take m (drop (at + 2) t)) s) k ∙ pointwise-same (part t (at + 2) (size_at t at)) s
