-- What the functions of `listing` ask of the bytes that they list. Assumes nothing: these are definitions.
use Rattle.std.specs.Prelude.{◌≡◌, true, cond, List, ℕ, ◌+◌, ◌/◌, ◌%◌, ◌^◌, ◌≤◌, ◌<◌, ltb, length}
use Rattle.std.proofs.Math.Option.{Option, none, some}
use Rattle.words.specs.Bytes.{Bytes, num, part}
use Rattle.schema.specs.Marks.{line, STRING, LIST, MAP}
use Rattle.schema.specs.Types.{Ty, fix, text, li, ro, fixed_at, text_at}
use Rattle.schema.specs.Kinds.{place_at}
use Rattle.schema.specs.Walk.{TypedAll, fields_of}
use Rattle.table.specs.Words.{place_in, Lined}
use Rattle.table.specs.Tables.{schema_of, pos_of, Table, InTable, type_of, types_of}
use Rattle.layout.specs.Layout.{slot_of, codec, Lays, decode}
use Rattle.layout.specs.Setting.{is_some}
use Rattle.listing.specs.Lines.{cell_of, lines, item_lines, field_lines, own_bytes, own_lines}

-- the leaf at place k of the table of types
unfoldable pub leaf_at : ℕ → Ty
leaf_at k = cond (ltb k 7) (fix (fixed_at k)) (text (text_at k))

-- the bytes stand for contents of the type, and are few enough for a row
pub record Holds (t : Ty) (b : List ℕ) : Type 0 where
  pub bytes : Bytes b
  pub small : length b ≤ 16384
  pub lays : Lays t (cell_of t b) b

-- a number of the type that w says, from the byte of b numbered at on, is written at pos
pub record NumberRoom (b : List ℕ) (at w pos : ℕ) : Type 0 where
  pub lined : Lined w
  pub bytes : Bytes b
  pub fixed : place_in w < STRING
  pub within : at + (line (place_in w)).width ≤ length b
  pub room : pos ≤ 65536

-- bytes are written at pos as a leaf of the type that w says
pub record TextRoom (text : List ℕ) (w pos : ℕ) : Type 0 where
  pub lined : Lined w
  pub small : length text ≤ 16384
  pub room : pos ≤ 65536

-- a value elsewhere lies in its container
abbrev pub Within : Option ℕ → List ℕ → ℕ → Type 0
Within (some v) b slot = Unit {0}
Within none b slot = num (part b slot 8) / 2 ^ 32 + num (part b slot 8) % 2 ^ 32 ≤ length b

pub record Elsewhere (b : List ℕ) (slot : ℕ) : Type 0 where
  pub small : length b ≤ 16384
  pub slot-room : slot + 8 ≤ length b
  pub within : Within none b slot

-- a child that is not null, of the type, whose slot is at a position of b
pub record Own (t : Ty) (b : List ℕ) (slot : ℕ) : Type 0 where
  pub within : Within (codec t).wide b slot
  pub holds : Holds t (own_bytes (codec t).wide b slot)

-- it is listed at pos
pub record Present (t : Ty) (b : List ℕ) (slot pos : ℕ) : Type 0 where
  pub bytes : Bytes b
  pub small : length b ≤ 16384
  pub slot-room : slot + slot_of (codec t).wide ≤ length b
  pub own : Own t b slot
  pub room : pos + length (own_lines t b slot) ≤ 65536

pub record Leaf (w : ℕ) (b : List ℕ) (slot pos : ℕ) : Type 0 where
  pub lined : Lined w
  pub low : place_in w < LIST
  pub child : Present (leaf_at (place_in w)) b slot pos

-- a container, whose type stands at a place of a table
pub record Container (t : List ℕ) (at d : ℕ) (b : List ℕ) (pos : ℕ) : Type 0 where
  pub stands : InTable t at d
  pub high : LIST ≤ place_at (schema_of t) (pos_of t at)
  pub holds : Holds (type_of t at d) b
  pub room : pos + length (lines (type_of t at d) b) ≤ 65536

-- a map
pub record Pair (t : List ℕ) (at d : ℕ) (b : List ℕ) (pos : ℕ) : Type 0 where
  pub container : Container t at d b pos
  pub map : place_at (schema_of t) (pos_of t at) ≡ MAP

-- the elements of a list of the type
pub record Items (t : Ty) (b : List ℕ) (pos : ℕ) : Type 0 where
  pub holds : Holds (li t) b
  pub room : pos + length (item_lines t b) ≤ 65536

pub record Leaves (w : ℕ) (b : List ℕ) (pos : ℕ) : Type 0 where
  pub lined : Lined w
  pub low : place_in w < LIST
  pub items : Items (leaf_at (place_in w)) b pos

-- a list of the type at a place of a table
pub record Elements (t : List ℕ) (at d : ℕ) (b : List ℕ) (pos : ℕ) : Type 0 where
  pub stands : InTable t at d
  pub items : Items (type_of t at d) b pos

-- a struct of n fields, whose types stand from a place of a table on
pub record Fields (t : List ℕ) (first n d : ℕ) (b : List ℕ) (pos : ℕ) : Type 0 where
  pub table : Table t
  pub typed : TypedAll (schema_of t) (pos_of t first) d n
  pub high : n ≤ 128
  pub holds : Holds (ro (types_of t first d n)) b
  pub room : pos + length (field_lines (types_of t first d n) b) ≤ 65536

-- a schema's table, and a row that was checked against the schema
pub record Checked (t row : List ℕ) : Type 0 where
  pub table : Table t
  pub short : length row ≤ 16384
  pub sound : is_some (decode (ro (fields_of (schema_of t))) row) ≡ true
