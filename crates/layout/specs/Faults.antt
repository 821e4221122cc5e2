-- Judging as one reads: a reading yields something, or it meets a fault, and says where. Assumes nothing: these are definitions.
use Rattle.std.proofs.Math.Option.{Option, none, some}
use Rattle.std.specs.Prelude.{List, ℕ, ◌+◌, length, take, drop}
use Rattle.std.proofs.Math.Decide.{dec_le}

-- where a fault stands, seen from a value: in the value's slot, or at the value's byte numbered i
pub data Place : Type 0 where
  slot : Place
  byte : ℕ → Place

pub data Read (A : Type 0) : Type 0 where
  fault : Place → Read A
  got : A → Read A

infixl 20 ◌>>=◌
abbrev pub ◌>>=◌ : {A B : Type 0} → Read A → (A → Read B) → Read B
◌>>=◌ (fault p) f = fault p
◌>>=◌ (got a) f = f a

infixl 20 ◌>>◌
abbrev pub ◌>>◌ : {A B : Type 0} → Read A → Read B → Read B
◌>>◌ (fault p) m = fault p
◌>>◌ (got a) m = m

-- goes on only where P holds; else there is a fault at p
unfoldable pub assert_at : {P : Type 0} → Place → Dec P → Read (Unit {0})
assert_at p (yes _) = got tt
assert_at p (no _) = fault p

-- the first n bytes, and the rest; where there are fewer, there is a fault at p
unfoldable pub cut_at : Place → ℕ → List ℕ → Read (List ℕ × List ℕ)
cut_at p n b = do
  assert_at p (dec_le n (length b))
  got (take n b, drop n b)

-- A value's place as its container sees it: the value's slot is the container's byte j, and the value's first byte its byte o.
unfoldable pub seen_from : ℕ → ℕ → Place → Place
seen_from j o slot = byte j
seen_from j o (byte i) = byte (o + i)

-- the reading of a value in its container
unfoldable pub within : {A : Type 0} → ℕ → ℕ → Read A → Read A
within j o (fault p) = fault (seen_from j o p)
within j o (got a) = got a

-- what was yielded
unfoldable pub yielded : {A : Type 0} → Read A → Option A
yielded (fault p) = none
yielded (got a) = some a

-- a place in the root, which starts at the row's first byte: its slot is 0
unfoldable pub in_row : Place → ℕ
in_row slot = 0
in_row (byte i) = i

-- the place of the fault, counted from the row's first byte
unfoldable pub fault_in : {A : Type 0} → Read A → Option ℕ
fault_in (fault p) = some (in_row p)
fault_in (got a) = none
