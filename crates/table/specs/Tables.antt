-- The table of a schema: an entry for each type, in the schema's order. Assumes nothing: these are definitions.
use Rattle.std.specs.Prelude.{◌≡◌, ℕ, zero, suc, ◌+◌, ◌<◌, ◌≤◌, List, [], ◌∷◌, ◌++◌, length, take, ◌≢◌, slice_index}
use Rattle.schema.specs.Marks.{STRUCT}
use Rattle.schema.specs.Types.{Ty, fix, text, li, ma, ro, Tys, end, ◌then◌, count, fixed_place, text_place}
use Rattle.schema.specs.Kinds.{place_at}
use Rattle.schema.specs.Reading.{judged}
use Rattle.schema.specs.Walk.{Typed, type_at, types_at, next_at, fields_of}
use Rattle.schema.specs.declared.Judged.TheVariants.{Accepted, Refused}
use Rattle.table.specs.Words.{word, bytes_in, Lined, place_in, after_in, count_in}

-- how many types a type is: itself and all that it holds
unfoldable mutual
  pub many : Ty → ℕ
  many (fix f) = 1
  many (text t) = 1
  many (li t) = suc (many t)
  many (ma k v) = suc (many k + many v)
  many (ro ts) = suc (manys ts)

  pub manys : Tys → ℕ
  manys end = zero
  manys (t then ts) = many t + manys ts

-- the entries of a type of depth d whose own entry stands at place i
unfoldable mutual
  pub entries : ℕ → ℕ → Ty → List ℕ
  entries d i (fix f) = word (fixed_place f) d 0 i (i + 1) ∷ []
  entries d i (text t) = word (text_place t) d 0 i (i + 1) ∷ []
  entries d i (li t) = word 9 d 1 i (i + many (li t)) ∷ entries (d + 1) (i + 1) t
  entries d i (ma k v) = word 10 d 2 i (i + many (ma k v)) ∷ (entries (d + 1) (i + 1) k ++ entries (d + 1) (i + 1 + many k) v)
  entries d i (ro ts) = word 11 d (count ts) i (i + many (ro ts)) ∷ entries_all (d + 1) (i + 1) ts

  pub entries_all : ℕ → ℕ → Tys → List ℕ
  entries_all d i end = []
  entries_all d i (t then ts) = entries d i t ++ entries_all d (i + many t) ts

-- THE table of an accepted schema
unfoldable pub table_of : List ℕ → List ℕ
table_of s = entries 1 0 (ro (fields_of s))

-- the schema that a table says, and the position there of the type at a place
unfoldable pub schema_of : List ℕ → List ℕ
schema_of [] = []
schema_of (w ∷ t) = bytes_in w ++ schema_of t

unfoldable pub pos_of : List ℕ → ℕ → ℕ
pos_of t c = length (schema_of (take c t))

-- the type, at most d deep, at a place of a table, and the n types from there on
abbrev pub type_of : List ℕ → ℕ → ℕ → Ty
type_of t c d = type_at (schema_of t) (pos_of t c) d

abbrev pub types_of : List ℕ → ℕ → ℕ → ℕ → Tys
types_of t c d n = types_at (schema_of t) (pos_of t c) d n

-- THE fact: the table is the one that its schema gives, and the schema is accepted
pub record Table (t : List ℕ) : Type 0 where
  pub accepted : judged (schema_of t) ≡ Accepted
  pub given : t ≡ table_of (schema_of t)

-- and that schema is s
pub record TableFor (s t : List ℕ) : Type 0 where
  pub table : Table t
  pub says : schema_of t ≡ s

-- What building leaves: r is 0 where the schema is refused, and nothing is said of the room; otherwise the table has r entries and stands
-- at the room's start.
pub record BuiltAt (s : List ℕ) (r : ℕ) (t : List ℕ) : Type 0 where
  pub some : 0 < r
  pub room : r ≤ length t
  pub given : take r t ≡ table_of s

pub record Built (s : List ℕ) (r : ℕ) (t : List ℕ) : Type 0 where
  pub accepted : judged s ≡ Accepted → BuiltAt s r t
  pub refused : judged s ≡ Refused → r ≡ 0

-- a type, at most d deep, stands at a place of a table
pub record InTable (t : List ℕ) (c d : ℕ) : Type 0 where
  pub table : Table t
  pub typed : Typed (schema_of t) (pos_of t c) d

-- what the entry w of that type says
pub record EntryAt (t : List ℕ) (c d w : ℕ) : Type 0 where
  pub lined : Lined w
  pub place : place_in w ≡ place_at (schema_of t) (pos_of t c)
  -- behind its last descendant stands what follows the type
  pub next : pos_of t (after_in w) ≡ next_at (schema_of t) (pos_of t c) d
  pub room : after_in w ≤ length t
  -- its first child, and how many fields a struct has
  pub child : (place_in w ≢ STRUCT) → pos_of t (c + 1) ≡ pos_of t c + 2
  pub first : place_in w ≡ STRUCT → pos_of t (c + 1) ≡ pos_of t c + 3
  pub count : place_in w ≡ STRUCT → count_in w ≡ slice_index (schema_of t) (pos_of t c + 2)
