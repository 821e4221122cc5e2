-- What the functions of `checking` ask of a container's positions, and what they hand on. Assumes nothing: these are definitions.
use Rattle.std.specs.Prelude.{◌≡◌, Bool, true, false, cond, List, ℕ, ◌+◌, ◌*◌, ◌/◌, ◌%◌, ◌≤◌, ◌<◌, eqb, length, replicate}
use Rattle.words.specs.Bytes.{pad, bitmap, part}
use Rattle.words.specs.Bits.{bit}
use Rattle.schema.specs.Marks.{STRING, LIST, STRUCT}
use Rattle.schema.specs.Types.{Fixed, width, Text, st, bi, Ty, Tys, field}
use Rattle.schema.specs.Walk.{TypedAll}
use Rattle.layout.specs.Layout.{Kid, inside, number, limit, kid, slot_of, codec}
use Rattle.table.specs.Words.{Lined, place_in, count_in}
use Rattle.table.specs.Tables.{Table, InTable, EntryAt, schema_of, pos_of}
use Rattle.standing.specs.Standing.{FirstUnfit, varies}
use Rattle.checking.specs.Sound.{code, in_child, zeros_then}

-- ---- lists of leaves

-- A list's n elements of w bytes start at slots, behind its bitmap, and its variable data at start; all of it lies in b, which is whole units.
pub record ListRoom (b : List ℕ) (w n slots start : ℕ) : Type 0 where
  pub small : length b ≤ 16384
  pub whole : length b % 8 ≡ 0
  pub map : slots ≡ 8 + bitmap n
  pub elements : start ≡ slots + pad (n * w)
  pub room : start ≤ length b

-- its elements end at stop, and start is the next multiple of 8
pub record ListEnd (b : List ℕ) (stop start : ℕ) : Type 0 where
  pub small : length b ≤ 16384
  pub low : 8 ≤ start
  pub padded : start ≡ pad stop
  pub room : start ≤ length b

-- no element of a list is null
pub record NoNulls (b : List ℕ) (n : ℕ) : Type 0 where
  pub none : (i : ℕ) → i < n → bit b 8 i ≡ false

abbrev pub NoNullsIf : List ℕ → ℕ → Bool → Type 0
NoNullsIf b n true = NoNulls b n
NoNullsIf b n false = Unit {0}

-- element i has a null bit, which is 0 where full says that no element is null
pub record NullAsk (b : List ℕ) (i : ℕ) (full : Bool) : Type 0 where
  pub room : 8 + i / 8 < length b
  pub none : full ≡ true → bit b 8 i ≡ false

-- the elements of a list of bools
abbrev pub bools : ℕ → List Kid
bools n = replicate n (inside 1 1 (number 1 2))

-- the type of a list's texts: strings where they have to be text, and else binaries
abbrev pub text_if : Bool → Text
text_if true = st
text_if false = bi

-- ---- fields of a fixed width

-- a fixed-width field in its slot: null, or bytes of the type and zeros behind them; and then x
unfoldable pub field_then : Fixed → List ℕ → ℕ → ℕ → ℕ → ℕ
field_then f b i slot x =
    cond (bit b 0 i) x
    (in_child slot slot (code ((number (width f) (limit f)).get (part b slot (width f)))) (zeros_then b (slot + width f) (slot + 8) x))

abbrev pub field_good : Fixed → List ℕ → ℕ → ℕ → Bool
field_good f b i slot = eqb (field_then f b i slot 0) 0

-- the field's slot lies in b, and so does its bit; w is the entry of a fixed-width type
pub record FieldRoom (b : List ℕ) (i slot w : ℕ) : Type 0 where
  pub small : length b ≤ 16384
  pub lined : Lined w
  pub fixed : place_in w < STRING
  pub bit-room : 0 + i / 8 < length b
  pub slot-room : slot + 8 ≤ length b

-- ---- containers by their places in a table

-- a type stands at a place, and b is short enough for a row
pub record Holding (t : List ℕ) (c d : ℕ) (b : List ℕ) : Type 0 where
  pub stands : InTable t c d
  pub small : length b ≤ 16384

-- the types of a struct's n fields stand from a place on
pub record Fields (t : List ℕ) (first n d : ℕ) (b : List ℕ) : Type 0 where
  pub table : Table t
  pub typed : TypedAll (schema_of t) (pos_of t first) d n
  pub high : n ≤ 128
  pub small : length b ≤ 16384

-- n is the number of fields, fewer than 64, of a struct by its entry w; 0 says nothing
pub record LeafFields (w n : ℕ) : Type 0 where
  pub struct : place_in w ≡ STRUCT
  pub fields : n ≡ count_in w
  pub few : n < 64

abbrev pub LeavesOr0 : ℕ → ℕ → Type 0
LeavesOr0 w n = (n ≡ 0 → ⊥) → LeafFields w n

-- the type is a container, w its entry, and the slots of a list of n such elements lie in b, which is whole units
pub record Items (t : List ℕ) (c d w : ℕ) (b : List ℕ) (n : ℕ) : Type 0 where
  pub stands : InTable t c d
  pub entry : EntryAt t c d w
  pub holds : LIST ≤ place_in w
  pub small : length b ≤ 16384
  pub whole : length b % 8 ≡ 0
  pub room : 8 + bitmap n + 8 * n ≤ length b

-- the types of a map's keys and values
pub record Pair (t : List ℕ) (k v d : ℕ) (b : List ℕ) : Type 0 where
  pub keys : InTable t k d
  pub values : InTable t v d
  pub small : length b ≤ 16384

-- the elements of a list of n of the type, in their slots
abbrev pub elements : Ty → ℕ → List Kid
elements t n = replicate n (kid (slot_of (codec t).wide) (codec t))

-- ---- which children stand where their slots say

-- which children vary: a list's elements that are no numbers, and a struct's fields by their types
abbrev pub all_vary : ℕ → Bool
all_vary j = true

abbrev pub varies_in : Tys → ℕ → Bool
varies_in ts j = varies (field ts j)

-- r is the first of the n children of b, behind a header of h bytes, that can't stand where its slot says; n where all can
abbrev pub Unfit : ℕ → (ℕ → Bool) → List ℕ → ℕ → ℕ → Type 0
Unfit h vary b n r = FirstUnfit h (h + bitmap n) (h + bitmap n + 8 * n) vary b n r

-- r answers the question if it was not asked, as long as nothing is done, and is the earlier answer if it was
pub record Asked (U : ℕ → Type 0) (stop done r : ℕ) : Type 0 where
  pub fresh : done ≡ 0 → U r
  pub kept : (done ≡ 0 → ⊥) → r ≡ stop
