-- Where the values of a row stand, when that is in field order, and which bytes lie under a null. Assumes nothing: these are definitions.
use Rattle.std.specs.Prelude.{◌≡◌, List, ℕ, ◌+◌, ◌≤◌, ◌<◌}
use Rattle.std.proofs.Math.Option.{some}
use Rattle.schema.specs.Types.{Ty, ro, Tys}
use Rattle.layout.specs.Cells.{Cell}
use Rattle.layout.specs.Layout.{content}
use Rattle.layout.specs.Walk.{Seat, Seen, null_at, root_seat, walk}
use Rattle.layout.specs.Reading as R
use Rattle.layout.specs.Reading.{Answer, type_along, answer_of}

-- where the range of an answer starts; 0 for what has none
unfoldable pub start_of : Answer → ℕ
start_of R.null = 0
start_of (R.bool v) = 0
start_of (R.signed z) = 0
start_of (R.float32 n) = 0
start_of (R.float64 n) = 0
start_of (R.bytes o n) = o
start_of (R.container o n k) = o
start_of (R.refused n) = 0

abbrev pub starts : Ty → Seen → ℕ
starts t r = start_of (answer_of t r)

-- at every path the value starts at the same byte in both
abbrev pub SamePlaces : Ty → List ℕ → List ℕ → Type 0
SamePlaces t b b' = (p : List ℕ) (u : Ty) → type_along p t ≡ some u → starts u (walk p t root_seat 0 b) ≡ starts u (walk p t root_seat 0 b')

-- bytes that stand for c have their values in field order: each where writing, which keeps field order, puts it
abbrev pub FieldOrder : Ty → Cell → List ℕ → Type 0
FieldOrder t c b = SamePlaces t b (content t c)

-- byte i of the row lies under a null: in the slot, or the element, of a child whose bit is set
pub record UnderNull (ts : Tys) (row : List ℕ) (i : ℕ) : Type 0 where
  pub path : List ℕ
  pub seat : Seat
  pub null : walk path (ro ts) root_seat 0 row ≡ null_at seat
  pub from : seat.slot ≤ i
  pub to : i < seat.slot + seat.wide
