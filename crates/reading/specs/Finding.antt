-- What a walk along a path comes to, and what that means. Assumes nothing: these are definitions.
use Rattle.std.specs.Prelude.{◌≡◌, Bool, List, ℕ, ◌≤◌, length, drop, Result, Ok, Err}
use Rattle.std.proofs.Math.Option.{Option, none, some}
use Rattle.schema.specs.Kinds.{pick}
use Rattle.schema.specs.Types.{Ty, ro}
use Rattle.schema.specs.Walk.{fields_of}
use Rattle.layout.specs.Refusals.{numbered}
use Rattle.layout.specs.Walk.{Seen, bad, null_at, seen, root_seat, walk}
use Rattle.layout.specs.Reading.{type_along as type_on, placed}
use Rattle.layout.specs.Setting.{is_some}
use Rattle.answers.specs.declared.Path.{Path}
use Rattle.answers.specs.Paths.{path_of}
use Rattle.table.specs.Tables.{Table, schema_of}
use Rattle.reading.specs.Children.{seat_as}
use Rattle.reading.specs.Opening.{open_ty, OpenIs}
use Rattle.reading.specs.Places.{place_ty, bytes_of, NullIn, Rests, PlaceHolds}
use Rattle.reading.specs.declared.TypeParts.{TypeParts}
use Rattle.reading.specs.declared.Place.{Place}
use Rattle.reading.specs.declared.Found.{Found}
use Rattle.reading.specs.declared.Found.TheVariants.{Null, At}
use Rattle.answers.specs.declared.Refusal.{Refusal}
use Rattle.answers.specs.declared.Refusal.TheVariants.{NoPlace}
use Rattle.answers.specs.Meaning.{refusal_means}

-- ---- what was found

-- as the walk sees it
unfoldable pub found_as : List ℕ → Result Found Refusal → Seen
found_as row (Err r) = bad (refusal_means r)
found_as row (Ok (Null x z)) = null_at (seat_as z)
found_as row (Ok (At p)) = seen (seat_as p.seat) p.start (bytes_of row p)

-- the type of the null or of the place is o
abbrev pub FoundTells : List ℕ → Result Found Refusal → Option Ty → Type 0
FoundTells t (Err r) o = Unit {0}
FoundTells t (Ok (Null x z)) o = some (open_ty t x) ≡ o
FoundTells t (Ok (At p)) o = some (place_ty t p) ≡ o

-- it lies in the row, and its own rules hold
abbrev pub FoundLands : List ℕ → List ℕ → Result Found Refusal → Type 0
FoundLands t row (Err r) = Unit {0}
FoundLands t row (Ok (Null x z)) = NullIn t row x z
FoundLands t row (Ok (At p)) = PlaceHolds t row p

-- ---- what is asked

-- a schema's table, and a row of at most 16,384 bytes
pub record Open (t row : List ℕ) : Type 0 where
  pub table : Table t
  pub short : length row ≤ 16384

-- a path of at most 16 steps, of which the first are done, from a type on
pub record Asked (t : List ℕ) (x : TypeParts) (path : Path) : Type 0 where
  pub is : OpenIs t x
  pub few : path.len ≤ 16

-- a path from a place whose own rules are not yet judged
pub record Asks (t row : List ℕ) (p : Place) (path : Path) : Type 0 where
  pub rests : Rests t row p
  pub few : path.len ≤ 16

-- ---- what is answered

-- what the schema alone shows comes before all that the row shows: whether the rest of a path is a place from a type on
abbrev pub is_on : List ℕ → TypeParts → Path → ℕ → Bool
is_on t x path done = is_some (type_on (drop done (path_of path)) (open_ty t x))

-- and r, or that there is no such place
abbrev pub or_no_place : Bool → Refusal → Refusal
or_no_place b r = pick b r NoPlace

-- 5 for what the schema alone shows; then the walk
abbrev pub seen_in : Option Ty → Seen → Seen
seen_in none w = bad (numbered 5)
seen_in (some t) w = w

-- the path p from a place
pub record Goes (t row : List ℕ) (from : Place) (p : List ℕ) (r : Result Found Refusal) : Type 0 where
  pub means : found_as row r ≡ seen_in (type_on p (place_ty t from)) (walk p (place_ty t from) (seat_as from.seat) from.start (bytes_of row from))
  pub tells : FoundTells t r (type_on p (place_ty t from))
  pub lands : FoundLands t row r

-- and from the root of the schema that the table says
abbrev pub root_ty : List ℕ → Ty
root_ty t = ro (fields_of (schema_of t))

pub record Finds (t row p : List ℕ) (r : Result Found Refusal) : Type 0 where
  pub means : found_as row r ≡ seen_in (placed p (root_ty t)) (walk p (root_ty t) root_seat 0 row)
  pub tells : FoundTells t r (placed p (root_ty t))
  pub lands : FoundLands t row r
