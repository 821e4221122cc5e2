-- Where the variable values of one container may stand: in any order, none over another. No other file knows of an order.
-- Assumes nothing: these are definitions.
use Rattle.std.specs.Prelude.{◌≡◌, ◌⊎◌, List, [], ◌∷◌, ℕ, ◌+◌, ◌%◌, ◌≤◌}
use Rattle.std.proofs.Math.Decide.{dec_le, ℕ_discrete}
use Rattle.words.specs.Tests.{both?, either?, change?}

-- the offset of a value in its container, and how many bytes it takes, a multiple of 8
pub record Range : Type 0 where
  pub start : ℕ
  pub size : ℕ

abbrev pub range : ℕ → ℕ → Range
range o n = record { start = o; size = n }

abbrev pub ends : Range → ℕ
ends r = r.start + r.size

-- the bytes that they take
unfoldable pub total : List Range → ℕ
total [] = 0
total (r ∷ rs) = r.size + total rs

-- one ends where the other starts, or before: so an empty one stands on a bound of the other, not inside it
abbrev pub Apart : Range → Range → Type 0
Apart r q = (ends r ≤ q.start) ⊎ (ends q ≤ r.start)

abbrev pub Aparts : Range → List Range → Type 0
Aparts r [] = Unit {0}
Aparts r (q ∷ qs) = Apart r q × Aparts r qs

-- r may stand in a container whose variable data goes from at to stop, beside its earlier siblings rs: apart from every one of them
pub record Stands (at stop : ℕ) (rs : List Range) (r : Range) : Type 0 where
  pub low : at ≤ r.start
  pub high : r.start + r.size ≤ stop
  pub eight : r.start % 8 ≡ 0
  pub clear : Aparts r rs

-- ---- the test of it

unfoldable pub aparts? : (r : Range) (qs : List Range) → Dec (Aparts r qs)
aparts? r [] = yes tt
aparts? r (q ∷ qs) = both? (either? (dec_le (ends r) q.start) (dec_le (ends q) r.start)) (aparts? r qs)

unfoldable pub stands? : (at stop : ℕ) (rs : List Range) (r : Range) → Dec (Stands at stop rs r)
unfolding both? aparts? change?
stands? at stop rs r = change?
    (λ p. record { low = p.0.0; high = p.0.1; eight = p.1.0; clear = p.1.1 })
    (λ s. ((s.low, s.high), (s.eight, s.clear)))
    (both? (both? (dec_le at r.start) (dec_le (r.start + r.size) stop)) (both? (ℕ_discrete (r.start % 8) 0) (aparts? r rs)))
