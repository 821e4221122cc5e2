-- Ranges by their units of 8 bytes, for code that keeps maps of bits: what three look-ups tell of a further range is what it is to be
-- apart from all. The units that are covered, the units' starts that lie inside a range, and those at which an empty one stands.
-- Assumes nothing.
use mathlib.Core.Path.{◌≡◌}
use mathlib.Core.Logic.{◌↔◌, inl, inr}
use mathlib.Core.List.{List, [], ◌∷◌}
use Prim.Native.Nat.{ℕ, ◌+◌, ◌*◌, ◌/◌, ◌%◌, ◌≤◌, ◌<◌}
use native.Mathlib.Omega.{arith}
use native.Mathlib.Decide.{dec_le, ℕ_discrete}
use Rattle.layout.specs.Tiles.{Range, Apart, Aparts}

-- unit q lies in r; its start lies inside r; r is empty and stands at its start
abbrev pub Covers : Range → ℕ → Type 0
Covers r q = (r.start ≤ q * 8) × (q * 8 < r.start + r.size)

abbrev pub Inner : Range → ℕ → Type 0
Inner r q = (r.start < q * 8) × (q * 8 < r.start + r.size)

abbrev pub Empty : Range → ℕ → Type 0
Empty r q = (r.size ≡ 0) × (r.start ≡ q * 8)

-- of none of them
abbrev pub NoneOf : (Range → ℕ → Type 0) → List Range → ℕ → Type 0
NoneOf P [] q = Unit {0}
NoneOf P (r ∷ rs) q = (P r q → ⊥) × NoneOf P rs q

abbrev pub Even : Range → Type 0
Even r = (r.start % 8 ≡ 0) × (r.size % 8 ≡ 0)

abbrev pub AllEven : List Range → Type 0
AllEven [] = Unit {0}
AllEven (r ∷ rs) = Even r × AllEven rs

-- what the code looks up for a new range
pub record Free (r : Range) (rs : List Range) : Type 0 where
  pub units : (q : ℕ) → Covers r q → NoneOf Covers rs q
  pub bounds : (q : ℕ) → Inner r q → NoneOf Empty rs q
  pub point : (q : ℕ) → Empty r q → NoneOf Inner rs q

-- ---- it is what Stands asks for

apart-units : (r s : Range) → Apart r s → (q : ℕ) → Covers r q → Covers s q → ⊥
apart-units r s (inl a) q c d = omega arith
apart-units r s (inr a) q c d = omega arith

apart-bounds : (r s : Range) → Apart r s → (q : ℕ) → Inner r q → Empty s q → ⊥
apart-bounds r s (inl a) q c d = omega arith
apart-bounds r s (inr a) q c d = omega arith

apart-point : (r s : Range) → Apart r s → (q : ℕ) → Empty r q → Inner s q → ⊥
apart-point r s (inl a) q c d = omega arith
apart-point r s (inr a) q c d = omega arith

-- two ranges that meet share a unit, or one is empty and stands inside the other
meet : (r s : Range) → Even r → Even s → 0 < r.size → 0 < s.size → s.start < r.start + r.size → r.start < s.start + s.size
    → ((q : ℕ) → Covers r q → Covers s q → ⊥) → ⊥
meet r s e f a b h k u = go (dec_le r.start s.start)
  where
    go : Dec (r.start ≤ s.start) → ⊥
    go (yes l) = u (s.start / 8) (omega arith, omega arith) (omega arith, omega arith)
    go (no n) = u (r.start / 8) (omega arith, omega arith) (omega arith, omega arith)

units-apart : (r s : Range) → Even r → Even s → ((q : ℕ) → Covers r q → Covers s q → ⊥) → ((q : ℕ) → Inner r q → Empty s q → ⊥)
    → ((q : ℕ) → Empty r q → Inner s q → ⊥) → Apart r s
units-apart r s e f u b p = go (dec_le (r.start + r.size) s.start) (dec_le (s.start + s.size) r.start)
  where
    go : Dec (r.start + r.size ≤ s.start) → Dec (s.start + s.size ≤ r.start) → Apart r s
    go (yes a) d = inl a
    go (no n) (yes a) = inr a
    go (no n) (no m) = absurd (meets (ℕ_discrete r.size 0) (ℕ_discrete s.size 0))
      where
        meets : Dec (r.size ≡ 0) → Dec (s.size ≡ 0) → ⊥
        meets (yes z) d = p (r.start / 8) (z, omega arith) (omega arith, omega arith)
        meets (no z) (yes y) = b (s.start / 8) (omega arith, omega arith) (y, omega arith)
        meets (no z) (no y) = meet r s e f (omega arith) (omega arith) (omega arith) (omega arith) u

apart-free : (r : Range) (rs : List Range) → Aparts r rs → Free r rs
apart-free r [] a = record { units = λ q c. tt; bounds = λ q c. tt; point = λ q c. tt }
apart-free r (s ∷ rs) a =
    let f = apart-free r rs a.1 in
    record {
      units = λ q c. (λ d. apart-units r s a.0 q c d, f.units q c);
      bounds = λ q c. (λ d. apart-bounds r s a.0 q c d, f.bounds q c);
      point = λ q c. (λ d. apart-point r s a.0 q c d, f.point q c);
    }

free-apart : (r : Range) (rs : List Range) → Even r → AllEven rs → Free r rs → Aparts r rs
free-apart r [] e es f = tt
free-apart r (s ∷ rs) e es f = (
  units-apart r s e es.0 (λ q c d. (f.units q c).0 d) (λ q c d. (f.bounds q c).0 d) (λ q c d. (f.point q c).0 d),
  free-apart r rs e es.1 (record { units = λ q c. (f.units q c).1; bounds = λ q c. (f.bounds q c).1; point = λ q c. (f.point q c).1 }),
)

pub free-is-apart : (r : Range) (rs : List Range) → Even r → AllEven rs → Free r rs ↔ Aparts r rs
free-is-apart r rs e es = (free-apart r rs e es, apart-free r rs)
