-- Which children of a container have a range of its variable data, and the first that can't stand beside those before it: what the slots
-- alone tell. Assumes nothing: these are definitions.
use Rattle.std.specs.Prelude.{◌≡◌, Bool, true, false, not, cond, List, [], ◌∷◌, ℕ, zero, suc, ◌+◌, ◌*◌, ◌/◌, ◌%◌, ◌^◌, ◌≤◌, ◌<◌, length}
use Rattle.words.specs.Bytes.{num, pad, bitmap, part}
use Rattle.words.specs.Bits.{bit}
use Rattle.schema.specs.Types.{Ty, fix, text, li, ma, ro, field}
use Rattle.schema.specs.Walk.{TypedAll, types_at}
use Rattle.layout.specs.Tiles.{Range, range, Stands}
use Rattle.table.specs.Tables.{Table, schema_of, pos_of}
use Rattle.standing.specs.Maps.{both, places, with_range}

-- the range that the number of a slot says, and the one that the slot at a position of b says
abbrev pub said : ℕ → Range
said x = range (x / 2 ^ 32) (pad (x % 2 ^ 32))

abbrev pub range_at : List ℕ → ℕ → Range
range_at b slot = said (num (part b slot 8))

-- whether contents of a type vary in size
unfoldable pub varies : Ty → Bool
varies (fix f) = false
varies (text t) = true
varies (li t) = true
varies (ma k v) = true
varies (ro ts) = true

-- In the container b the null bits stand behind a header of h bytes, the children's slots from slots on, and the variable data from start
-- on; child j varies where vary j is true.

-- the ranges of the children before number i, the last first: a child of a fixed width and a null have none
unfoldable pub ranges_to : ℕ → ℕ → (ℕ → Bool) → List ℕ → ℕ → List Range
ranges_to h slots vary b zero = []
ranges_to h slots vary b (suc i) =
    cond (both (vary i) (not (bit b h i))) (range_at b (slots + 8 * i) ∷ ranges_to h slots vary b i) (ranges_to h slots vary b i)

-- the range of child j, if it has one, may stand beside those before it
abbrev pub StandsAt : ℕ → ℕ → ℕ → (ℕ → Bool) → List ℕ → ℕ → Type 0
StandsAt h slots start vary b j =
    vary j ≡ true → bit b h j ≡ false → Stands start (length b) (ranges_to h slots vary b j) (range_at b (slots + 8 * j))

-- r is the first of n children whose range may not stand; n where all may
pub record FirstUnfit (h slots start : ℕ) (vary : ℕ → Bool) (b : List ℕ) (n r : ℕ) : Type 0 where
  pub most : r ≤ n
  pub stand : (j : ℕ) → j < r → StandsAt h slots start vary b j
  pub fault : r < n → StandsAt h slots start vary b r → ⊥

-- the null bits and slots of n children lie in b, and b is short enough for a row, and whole units of 8 bytes
pub record SlotsIn (h : ℕ) (b : List ℕ) (n : ℕ) : Type 0 where
  pub small : length b ≤ 16384
  pub whole : length b % 8 ≡ 0
  pub room : h + bitmap n + 8 * n ≤ length b

-- the types of a struct's n fields stand from a place of the table on; and which of them vary
pub record FieldsFrom (t : List ℕ) (first d n : ℕ) (b : List ℕ) : Type 0 where
  pub table : Table t
  pub typed : TypedAll (schema_of t) (pos_of t first) d n
  pub high : n ≤ 128
  pub slots : SlotsIn 0 b n

abbrev pub field_varies : List ℕ → ℕ → ℕ → ℕ → ℕ → Bool
field_varies t first d n j = varies (field (types_at (schema_of t) (pos_of t first) d n) j)

-- the null bit and the slot of child i lie in such a b, and m is the three maps of its units
pub record ChildRoom (m b : List ℕ) (h i slot : ℕ) : Type 0 where
  pub small : length b ≤ 16384
  pub whole : length b % 8 ≡ 0
  pub bit-room : h + i / 8 < length b
  pub slot-room : slot + 8 ≤ length b
  pub maps : length m ≡ 792

-- fits is whether a range may stand beside those that the maps m show, and m' shows it too if so
pub record Placing (m : List ℕ) (start len : ℕ) (r : Range) (fits : Bool) (m' : List ℕ) : Type 0 where
  pub is : fits ≡ places m start len r
  pub maps : m' ≡ with_range m r fits

-- the same of child i: a null has none
pub record PlacingChild (m b : List ℕ) (h i slot start : ℕ) (fits : Bool) (m' : List ℕ) : Type 0 where
  pub null : bit b h i ≡ true → (fits ≡ true) × (m' ≡ m)
  pub there : bit b h i ≡ false → Placing m start (length b) (range_at b slot) fits m'
