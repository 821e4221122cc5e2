-- A place of the row as the code holds it, its own rules as a test, and what is known of it. Assumes nothing: these are definitions.
use Rattle.std.specs.Prelude.{◌≡◌, Bool, true, false, List, [], ◌∷◌, ℕ, zero, suc, ◌+◌, ◌%◌, ◌≤◌, ◌<◌, eqb, leb, ltb, length, take}
use Rattle.std.proofs.Math.Option.{Option, some}
use Rattle.words.specs.Bytes.{num, part}
use Rattle.words.specs.Tests.{is_yes}
use Rattle.schema.specs.Marks.{line, STRING, LIST}
use Rattle.schema.specs.Kinds.{pick}
use Rattle.schema.specs.Types.{Ty, fix, text, li, ma, ro, count}
use Rattle.layout.specs.Layout.{spells?, slot_of, front, limit, codec}
use Rattle.layout.specs.Refusals.{numbered, broken_at}
use Rattle.layout.specs.Walk as W
use Rattle.layout.specs.Walk.{stop, to_null, into, step_in}
use Rattle.layout.specs.Reading.{type_along as type_on}
use Rattle.table.specs.Words.{width_in}
use Rattle.reading.specs.Children.{seat_as, SeatIn, ChildIn, child_as}
use Rattle.reading.specs.Opening.{open_ty, OpenIs}
use Rattle.reading.specs.declared.TypeParts.{TypeParts}
use Rattle.reading.specs.declared.Child.{Child}
use Rattle.reading.specs.declared.Seat.{Seat}
use Rattle.reading.specs.declared.Place.{Place}
use Rattle.reading.specs.declared.Found.{Found}
use Rattle.reading.specs.declared.Found.TheVariants.{Null, At}
use Rattle.std.specs.Prelude.{Result, Ok, Err}
use Rattle.answers.specs.declared.Refusal.{Refusal}
use Rattle.answers.specs.Meaning.{refusal_means}

-- the bytes of a slot in an array, for those of a type, 0 where they vary
unfoldable pub slot_width : ℕ → ℕ
slot_width zero = 8
slot_width (suc v) = suc v

-- ---- a type's own rules as a test

unfoldable pub list_holds : ℕ → List ℕ → Bool
list_holds w b = pick (leb 8 (length b)) (leb (front 8 w (num (take 8 b))) (length b)) false

unfoldable pub map_holds : List ℕ → Bool
map_holds b = pick (leb 8 (length b)) (pick (eqb (num (take 8 b) % 8) 0) (leb (8 + num (take 8 b)) (length b)) false) false

unfoldable pub struct_holds : ℕ → ℕ → Bool
struct_holds n size = leb (front 0 8 n) size

unfoldable pub holds_of : Ty → List ℕ → Bool
holds_of (fix f) b = ltb (num b) (limit f)
holds_of (text t) b = is_yes (spells? t b)
holds_of (li t) b = list_holds (slot_of (codec t).wide) b
holds_of (ma k v) b = map_holds b
holds_of (ro ts) b = struct_holds (count ts) (length b)

-- where a type is broken whose own rules do not hold, on the bytes b that start at the row's byte o, in the seat s: a string that is no text
-- at its slot
unfoldable pub broken_in : Ty → W.Seat → ℕ → List ℕ → ℕ
broken_in (fix f) s o b = o
broken_in (text t) s o b = s.slot
broken_in (li t) s o b = pick (leb 8 (length b)) o s.slot
broken_in (ma k v) s o b = pick (leb 8 (length b)) o s.slot
broken_in (ro ts) s o b = s.slot

abbrev pub by_size : ℕ → ℕ → ℕ → ℕ
by_size size slot header = pick (ltb size 8) slot header

-- what these tests ask of the code's numbers: the bytes lie in the row, and a leaf's are the table's
pub record Row (row : List ℕ) (base size : ℕ) : Type 0 where
  pub within : base + size ≤ length row
  pub short : length row ≤ 16384

pub record Leaf (row : List ℕ) (k base size : ℕ) : Type 0 where
  pub within : base + size ≤ length row
  pub leaf : k < STRING
  pub sized : size ≡ (line k).width

-- ---- a place

abbrev pub place_ty : List ℕ → Place → Ty
place_ty t p = open_ty t p.opened

abbrev pub bytes_of : List ℕ → Place → List ℕ
bytes_of row p = part row p.start p.len

-- a leaf of a fixed width has the table's bytes; a leaf's seat lies in the row, and has room for it
abbrev pub Sized : TypeParts → ℕ → Type 0
Sized x n = x.kind < STRING → n ≡ width_in x.entry

abbrev pub Seated : List ℕ → TypeParts → Seat → Type 0
Seated row x z = x.kind < LIST → SeatIn row (width_in x.entry) z

-- its types stand in the table, its bytes and a leaf's seat in the row; its own rules are not yet judged
pub record Rests (t row : List ℕ) (p : Place) : Type 0 where
  pub is : OpenIs t p.opened
  pub within : p.start + p.len ≤ length row
  pub short : length row ≤ 16384
  pub sized : Sized p.opened p.len
  pub seated : Seated row p.opened p.seat

-- and its own rules hold
pub record PlaceHolds (t row : List ℕ) (p : Place) : Type 0 where
  pub rests : Rests t row p
  pub holds : holds_of (place_ty t p) (bytes_of row p) ≡ true

-- where it is broken, by any table and row that it rests in
abbrev pub Breaks : Place → ℕ → Type 0
Breaks p q = (t row : List ℕ) → Rests t row p → q ≡ broken_in (place_ty t p) (seat_as p.seat) p.start (bytes_of row p)

-- ---- a step in the row

unfoldable pub next_as : List ℕ → List ℕ → Result Found Refusal → W.Step
next_as t row (Err r) = stop (refusal_means r)
next_as t row (Ok (Null x z)) = to_null (seat_as z)
next_as t row (Ok (At p)) = into (place_ty t p) (seat_as p.seat) p.start (bytes_of row p)

-- a null's type stands in the table, its seat in the row
pub record NullIn (t row : List ℕ) (x : TypeParts) (z : Seat) : Type 0 where
  pub is : OpenIs t x
  pub seated : SeatIn row (width_in x.entry) z

abbrev pub Lands : List ℕ → List ℕ → Result Found Refusal → Type 0
Lands t row (Err r) = Unit {0}
Lands t row (Ok (Null x z)) = NullIn t row x z
Lands t row (Ok (At p)) = Rests t row p

-- the type of the null or of the place is o
abbrev pub Tells : List ℕ → Result Found Refusal → Option Ty → Type 0
Tells t (Err r) o = Unit {0}
Tells t (Ok (Null x z)) o = some (open_ty t x) ≡ o
Tells t (Ok (At p)) o = some (place_ty t p) ≡ o

-- the code's answer is the step z to the type o
pub record Moves (t row : List ℕ) (r : Result Found Refusal) (z : W.Step) (o : Option Ty) : Type 0 where
  pub means : next_as t row r ≡ z
  pub lands : Lands t row r
  pub tells : Tells t r o

-- a child that was found, of the type y, by any table and row that they stand in
pub record Enters (t row : List ℕ) (y : TypeParts) (c : Child) : Type 0 where
  pub is : OpenIs t y
  pub short : length row ≤ 16384
  pub lands : ChildIn row (width_in y.entry) (Ok c)

abbrev pub Entered : TypeParts → Child → Found → Type 0
Entered y c r = (t row : List ℕ) → Enters t row y c → Moves t row (Ok r) (child_as (open_ty t y) row (Ok c)) (some (open_ty t y))

-- step i from a place
abbrev pub Steps : List ℕ → List ℕ → Place → ℕ → Result Found Refusal → Type 0
Steps t row p i r = Moves t row r (step_in (place_ty t p) i (seat_as p.seat) p.start (bytes_of row p)) (type_on (i ∷ []) (place_ty t p))

-- a place of the kind k, from which a step may be taken
pub record From (t row : List ℕ) (k : ℕ) (p : Place) : Type 0 where
  pub stands : PlaceHolds t row p
  pub kind : p.opened.kind ≡ k

-- an array of a map, as a place
abbrev pub array_place : TypeParts → ℕ → ℕ → Place
array_place y o n = record { opened = y; seat = record { bits = 0; number = 0; slot = o; wide = 0 }; start = o; len = n }

abbrev pub array_at : TypeParts → ℕ → ℕ → Found
array_at y o n = At (array_place y o n)
