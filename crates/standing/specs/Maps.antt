-- What the code keeps of the ranges that are taken, and when a further one may stand beside them. Assumes nothing: these are definitions.
use Rattle.std.specs.Prelude.{Bool, true, false, not, cond, List, ℕ, zero, suc, ◌-◌, ◌/◌, ◌%◌, eqb, ltb}
use Rattle.words.specs.Bits.{bit, put_bit}
use Rattle.layout.specs.Tiles.{Range, ends}

abbrev pub both : Bool → Bool → Bool
both true x = x
both false x = false

-- n bits from a on, of the bitmap at a byte, are 0
unfoldable pub clear_from : List ℕ → ℕ → ℕ → ℕ → Bool
clear_from m at a zero = true
clear_from m at a (suc n) = both (not (bit m at a)) (clear_from m at (suc a) n)

-- the map with n bits set from a on
unfoldable pub marked : List ℕ → ℕ → ℕ → ℕ → List ℕ
marked m at a zero = m
marked m at a (suc n) = marked (put_bit m at a true) at (suc a) n

-- The units from a up to b: an empty value's start lies inside no other; any other value's units are not taken, and no empty value
-- stands inside it.
unfoldable pub admits : List ℕ → ℕ → ℕ → Bool
admits m a b = cond (eqb a b) (not (bit m 264 a)) (both (clear_from m 0 a (b - a)) (clear_from m 528 (suc a) (b - suc a)))

-- what the map is then
unfoldable pub taken : List ℕ → ℕ → ℕ → List ℕ
taken m a b = cond (eqb a b) (put_bit m 528 a true) (marked (marked m 0 a (b - a)) 264 (suc a) (b - suc a))

unfoldable pub admitted : List ℕ → ℕ → ℕ → Bool → List ℕ
admitted m a b r = cond r (taken m a b) m

-- Alone: at or behind the start of the variable data, at a multiple of 8, within the container. Then beside the earlier ones.
unfoldable pub places : List ℕ → ℕ → ℕ → Range → Bool
places m start len r =
    cond (ltb r.start start) false
    (cond (eqb (r.start % 8) 0) (cond (ltb len (ends r)) false (admits m (r.start / 8) (ends r / 8))) false)

unfoldable pub with_range : List ℕ → Range → Bool → List ℕ
with_range m r fits = admitted m (r.start / 8) (ends r / 8) fits
