-- What a setting comes to at a leaf, and what it leaves in the row. Assumes nothing: these are definitions.
use Rattle.std.specs.Prelude.{◌≡◌, false, List, ℕ, ◌+◌, ◌/◌, ◌^◌, ◌≤◌, ◌<◌, length}
use Rattle.std.proofs.Math.Option.{Option, none, some}
use Rattle.std.proofs.lemmas.List.Edits.{sets}
use Rattle.words.specs.Bytes.{le, zeros}
use Rattle.schema.specs.Marks.{STRING}
use Rattle.schema.specs.Types.{Fixed, Text, Ty, fix, ro, width}
use Rattle.schema.specs.Walk.{fields_of}
use Rattle.table.specs.Words.{Lined, place_in, width_in}
use Rattle.table.specs.Tables.{Table, schema_of}
use Rattle.layout.specs.Refusals.{Refusal}
use Rattle.layout.specs.Layout.{fault_at}
use Rattle.layout.specs.Walk as W
use Rattle.layout.specs.Reading.{answer_of}
use Rattle.layout.specs.Setting as S
use Rattle.layout.specs.Setting.{Setting, is_null, in_bytes, suits, fits_text, keeps_size, keeps, unless, ◌or◌, text_of, write_fixed, write}
use Rattle.layout.specs.Entries.{set_verdict, row_after}
use Rattle.answers.specs.Meaning.{Outcome}
use Rattle.answers.specs.Meaning.{outcome_means}
use Rattle.reading.specs.Children.{SeatIn}
use Rattle.reading.specs.Opening.{Kinded}
use Rattle.reading.specs.Places.{Seated}
use Rattle.reading.specs.declared.TypeParts.{TypeParts}
use Rattle.reading.specs.declared.Seat.{Seat}
use Rattle.reading.specs.declared.Place.{Place}
use Rattle.std.specs.Prelude as P
use Rattle.std.specs.Prelude.{Some, None}
use Rattle.setting.specs.declared.Leaf.{Leaf}
use Rattle.setting.specs.declared.Leaf.TheVariants as L

-- ---- a leaf of a fixed width

-- the setting writes the bytes of v
pub record HasBits (f : Fixed) (x : Setting) (v : ℕ) : Type 0 where
  pub bytes : in_bytes f x ≡ some (le (width f) v)
  pub below : v < 256 ^ width f
  pub given : is_null x ≡ false

abbrev pub LeafIs : Fixed → Setting → P.Option Leaf → Type 0
LeafIs f x None = suits (fix f) x ≡ false
LeafIs f x (Some L.Null) = x ≡ S.null
LeafIs f x (Some (L.Bits v)) = HasBits f x v

-- a seat's bit and slot lie in the row
pub record Sits (row : List ℕ) (s : Seat) : Type 0 where
  pub flag : s.bits + s.number / 8 < length row
  pub room : s.slot + s.wide ≤ length row

-- ---- the outcome

-- the answer and the row after it are those of the outcome o
pub record SetAs (o : S.Outcome) (row row' : List ℕ) (r : Outcome) : Type 0 where
  pub answers : outcome_means r ≡ set_verdict o
  pub after : row' ≡ row_after o row

-- refused, or the row that is written
unfoldable pub decided : Option Refusal → List ℕ → S.Outcome
decided none w = S.becomes w
decided (some r) w = S.refuses r

-- at a place of type t that the walk found: 8, then 9, then what is written
unfoldable pub leaf_outcome : Ty → Setting → W.Seen → List ℕ → S.Outcome
leaf_outcome t x w row = decided (unless (suits t x) 8 or unless (keeps t (answer_of t w) x) 9) (write t x w row)

-- at a leaf of a fixed width
unfoldable pub fixed_outcome : Fixed → Setting → W.Seat → List ℕ → S.Outcome
fixed_outcome f x s row = decided (unless (suits (fix f) x) 8) (write_fixed f x s row)

-- at a present string or binary of n bytes from o on, and at a null one
unfoldable pub text_outcome : Text → Setting → ℕ → ℕ → List ℕ → S.Outcome
text_outcome t x o n row = decided (unless (fits_text t x) 8 or unless (keeps_size n x) 9) (sets row o (text_of x))

unfoldable pub no_text_outcome : Text → Setting → W.Seat → List ℕ → S.Outcome
no_text_outcome t x s row = decided (unless (fits_text t x) 8 or unless (is_null x) 9) (sets row s.slot (zeros s.wide))

-- the entry of a leaf of a fixed width, and its seat
pub record FixedIn (w : ℕ) : Type 0 where
  pub lined : Lined w
  pub fixed : place_in w < STRING

pub record FixedSeat (row : List ℕ) (w : ℕ) (s : Seat) : Type 0 where
  pub leaf : FixedIn w
  pub seat : SeatIn row (width_in w) s

-- a null of a type that was taken apart, in its seat
pub record NullThere (row : List ℕ) (x : TypeParts) (s : Seat) : Type 0 where
  pub known : Kinded x
  pub seated : SeatIn row (width_in x.entry) s

-- a place
pub record PlaceThere (row : List ℕ) (p : Place) : Type 0 where
  pub known : Kinded p.opened
  pub within : p.start + p.len ≤ length row
  pub seated : Seated row p.opened p.seat

-- a schema's table, and a row of at most 16,384 bytes that stands for contents of the schema
pub record Checked (t row : List ℕ) : Type 0 where
  pub table : Table t
  pub short : length row ≤ 16384
  pub sound : fault_at (ro (fields_of (schema_of t))) row ≡ none
