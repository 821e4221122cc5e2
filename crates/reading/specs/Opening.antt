-- A type of the table as a path meets it, taken apart, and a step from it by the schema alone. Assumes nothing: these are definitions.
use Rattle.std.specs.Prelude.{◌≡◌, List, [], ◌∷◌, ℕ, ◌≤◌, ◌<◌, eqb, ltb}
use Rattle.std.proofs.Math.Option.{Option, none, some}
use Rattle.schema.specs.Marks.{STRING, LIST, MAP, STRUCT}
use Rattle.schema.specs.Kinds.{pick}
use Rattle.schema.specs.Types.{Ty, fix, text, li, ma, ro, fixed_at, text_at}
use Rattle.schema.specs.Walk.{Typed, TypedAll, type_at, types_at, next_at, HasField, field_at}
use Rattle.layout.specs.Reading.{type_along as type_on}
use Rattle.table.specs.Words.{Lined, place_in, width_in, count_in}
use Rattle.table.specs.Tables.{Table, schema_of, pos_of}
use Rattle.reading.specs.declared.TypeParts.{TypeParts}
use Rattle.std.specs.Prelude.{Some, None}
use Rattle.std.specs.Prelude as P

-- No type of an accepted schema is more than eight deep, and what one holds is at most seven deep: the type at a place that another holds,
abbrev pub held_ty : List ℕ → ℕ → Ty
held_ty t c = type_at (schema_of t) (pos_of t c) 7

-- that of a map's values, whose keys' type stands at a place,
abbrev pub values_ty : List ℕ → ℕ → Ty
values_ty t c = type_at (schema_of t) (next_at (schema_of t) (pos_of t c) 7) 7

-- and the type that was taken apart, by its kind
unfoldable pub open_ty : List ℕ → TypeParts → Ty
open_ty t x =
    pick (ltb x.kind STRING) (fix (fixed_at x.kind))
    (pick (ltb x.kind LIST) (text (text_at x.kind))
    (pick (eqb x.kind LIST) (li (held_ty t x.first))
    (pick (eqb x.kind MAP) (ma (held_ty t x.first) (values_ty t x.first))
    (ro (types_at (schema_of t) (pos_of t x.first) 7 (count_in x.entry))))))

-- its kind is that of its entry; a map's array is a list with the map's entry, whose bytes vary too
pub record Kinded (x : TypeParts) : Type 0 where
  pub lined : Lined x.entry
  pub few : x.kind < 12
  pub own : (x.kind ≡ LIST → ⊥) → place_in x.entry ≡ x.kind
  pub varies : x.kind ≡ LIST → width_in x.entry ≡ 0

-- the types of a map, and the fields of a struct, stand in the table
pub record Both (t : List ℕ) (c : ℕ) : Type 0 where
  pub keys : Typed (schema_of t) (pos_of t c) 7
  pub values : Typed (schema_of t) (next_at (schema_of t) (pos_of t c) 7) 7

pub record Fields (t : List ℕ) (c n : ℕ) : Type 0 where
  pub types : TypedAll (schema_of t) (pos_of t c) 7 n
  pub low : 1 ≤ n
  pub high : n ≤ 128

-- what it holds stands in the table
pub record OpenIs (t : List ℕ) (x : TypeParts) : Type 0 where
  pub table : Table t
  pub kinded : Kinded x
  pub list : x.kind ≡ LIST → Typed (schema_of t) (pos_of t x.first) 7
  pub map : x.kind ≡ MAP → Both t x.first
  pub struct : x.kind ≡ STRUCT → Fields t x.first (count_in x.entry)

-- the type at a place, taken apart
pub record Opens (t : List ℕ) (c : ℕ) (r : TypeParts) : Type 0 where
  pub is : OpenIs t r
  pub same : open_ty t r ≡ type_at (schema_of t) (pos_of t c) 8

-- there is a field i behind the first
pub record FieldIn (t : List ℕ) (first i : ℕ) : Type 0 where
  pub table : Table t
  pub has : HasField (schema_of t) (pos_of t first) 7 i

-- c is the place of field i
abbrev pub IsField : List ℕ → ℕ → ℕ → ℕ → Type 0
IsField t first i c = pos_of t c ≡ field_at (schema_of t) (pos_of t first) 7 i

-- a for 0, b for all else
abbrev pub either_of : ℕ → ℕ → ℕ → ℕ
either_of i a b = pick (eqb i 0) a b

-- c is the place of the keys' type, which stands first, for 0, and else of the values' type
abbrev pub IsEither : List ℕ → ℕ → ℕ → ℕ → Type 0
IsEither t first i c = pos_of t c ≡ either_of i (pos_of t first) (next_at (schema_of t) (pos_of t first) 7)

-- ---- a step by the schema alone

abbrev pub lot_as : List ℕ → P.Option TypeParts → Option Ty
lot_as t None = none
lot_as t (Some x) = some (open_ty t x)

abbrev pub LotIs : List ℕ → P.Option TypeParts → Type 0
LotIs t None = Unit {0}
LotIs t (Some x) = OpenIs t x

-- what was found is the type o
pub record Lots (t : List ℕ) (r : P.Option TypeParts) (o : Option Ty) : Type 0 where
  pub means : lot_as t r ≡ o
  pub is : LotIs t r

-- it is the type that step i leads to from x
pub record Kin (t : List ℕ) (x : TypeParts) (i : ℕ) (r : TypeParts) : Type 0 where
  pub is : OpenIs t r
  pub same : some (open_ty t r) ≡ type_on (i ∷ []) (open_ty t x)

-- step i can be taken from a list, a map, a struct
pub record OfKind (t : List ℕ) (k : ℕ) (x : TypeParts) : Type 0 where
  pub is : OpenIs t x
  pub kind : x.kind ≡ k

pub record OfMap (t : List ℕ) (x : TypeParts) (i : ℕ) : Type 0 where
  pub of : OfKind t 10 x
  pub within : i < 2

pub record OfStruct (t : List ℕ) (x : TypeParts) (i : ℕ) : Type 0 where
  pub of : OfKind t 11 x
  pub within : i < count_in x.entry
