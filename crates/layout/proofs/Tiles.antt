-- What the rest of the theory may use of the places of variable values: a value stands within the data, apart from its earlier
-- siblings, and the next in field order stands. Assumes nothing.
use mathlib.Core.Path.{◌≡◌}
use mathlib.Core.Logic.{inl, inr}
use mathlib.Core.List.{List, [], ◌∷◌}
use Prim.Native.Nat.{ℕ, ◌+◌, ◌%◌, ◌≤◌}
use native.Mathlib.Omega.{arith}
use Rattle.layout.specs.Tiles.{Range, range, total, Apart, Aparts, Stands}

-- each of them stands beside its earlier siblings
abbrev pub Standing : ℕ → ℕ → List Range → Type 0
Standing at stop [] = Unit {0}
Standing at stop (r ∷ rs) = Stands at stop rs r × Standing at stop rs

pub apart-turn : (r q : Range) → Apart r q → Apart q r
apart-turn r q (inl a) = inr a
apart-turn r q (inr a) = inl a

pub record Within (at stop : ℕ) (r : Range) : Type 0 where
  pub low : at ≤ r.start
  pub high : r.start + r.size ≤ stop

pub stands-within : {at stop : ℕ} {rs : List Range} {r : Range} → Stands at stop rs r → Within at stop r
stands-within s = record { low = s.low; high = s.high }

-- r is one of them
pub data Among (r : Range) : List Range → Type 0 where
  first : {rs : List Range} → Among r (r ∷ rs)
  later : {q : Range} {rs : List Range} → Among r rs → Among r (q ∷ rs)

aparts-among : {q : Range} {rs : List Range} (r : Range) → Aparts r rs → Among q rs → Apart r q
aparts-among r a first = a.0
aparts-among r a (later m) = aparts-among r a.1 m

pub stands-apart : {at stop : ℕ} {rs : List Range} {q r : Range} → Stands at stop rs r → Standing at stop rs → Among q rs → Apart r q
stands-apart {r = r} s g m = aparts-among r s.clear m

-- one after another, from at on, nearest first
abbrev pub Packed : ℕ → List Range → Type 0
Packed at [] = Unit {0}
Packed at (r ∷ rs) = (r.start ≡ at + total rs) × Packed at rs

packed-aparts : (at : ℕ) (rs : List Range) (r : Range) → Packed at rs → at + total rs ≤ r.start → Aparts r rs
unfolding total
packed-aparts at [] r p h = tt
packed-aparts at (q ∷ qs) r p h = (inr (omega arith), packed-aparts at qs r p.1 (omega arith))

-- the next in field order stands
pub stands-next : (at stop : ℕ) (rs : List Range) (n : ℕ) → Packed at rs → (at + total rs) % 8 ≡ 0 → at + total rs + n ≤ stop
    → Stands at stop rs (range (at + total rs) n)
stands-next at stop rs n p e h = record { low = omega arith; high = h; eight = e; clear = packed-aparts at rs (range (at + total rs) n) p (omega arith) }
