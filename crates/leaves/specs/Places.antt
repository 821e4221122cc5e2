-- What one place of an accepted row adds to the card, and what the walk asks. Assumes nothing: these are definitions.
use Rattle.std.specs.Prelude.{◌≡◌, Bool, true, false, cond, List, [], ℕ, ◌+◌, ◌≤◌, length}
use Rattle.std.proofs.Math.Option.{Option, none, some}
use Rattle.schema.specs.Types.{Ty, ro, mark}
use Rattle.schema.specs.Walk.{fields_of}
use Rattle.layout.specs.Reading as R
use Rattle.layout.specs.Reading.{Answer, placed}
use Rattle.layout.specs.Entries.{read_of}
use Rattle.table.specs.Words.{Lined, place_in}
use Rattle.answers.specs.declared.Path.{Path}
use Rattle.reading.specs.declared.TypeParts.{TypeParts}
use Rattle.reading.specs.Finding.{Open}
use Rattle.lettering.specs.Text.{Puts}
use Rattle.leaves.specs.Lines.{line}
use Rattle.leaves.specs.declared.Shown.{Shown}

-- ---- what a place shows

-- a leaf or a null has a line; a container that is present has none of its own
unfoldable pub has_line : Answer → Bool
has_line R.null = true
has_line (R.bool v) = true
has_line (R.signed z) = true
has_line (R.float32 n) = true
has_line (R.float64 n) = true
has_line (R.bytes o n) = true
has_line (R.container o n k) = false
has_line (R.refused r) = false

-- how many places are right below
unfoldable pub below : Answer → ℕ
below R.null = 0
below (R.bool v) = 0
below (R.signed z) = 0
below (R.float32 n) = 0
below (R.float64 n) = 0
below (R.bytes o n) = 0
below (R.container o n k) = k
below (R.refused r) = 0

-- the mark of the type that the schema shows at a path
unfoldable pub mark_in : Option Ty → List ℕ
mark_in none = []
mark_in (some t) = mark t

-- the line of the path p, where it has one
unfoldable pub text_at : List ℕ → List ℕ → List ℕ → List ℕ
text_at s row p = cond (has_line (read_of s row p)) (line p (mark_in (placed p (ro (fields_of s)))) row (read_of s row p)) []

-- the text of the place is put at the place at of out, and r says where it ends and how many places are right below: no more than
-- the bitmap of a row has bits
pub record Shows (s row p out : List ℕ) (at : ℕ) (r : Shown) (out' : List ℕ) : Type 0 where
  pub text : Puts out at (text_at s row p) r.next out'
  pub count : r.count ≡ below (read_of s row p)
  pub few : r.count ≤ 131072
  pub most : r.next ≤ at + 33110

-- ---- the mark of a type taken apart

-- an entry that says its kind
pub record Says (x : TypeParts) (w : ℕ) : Type 0 where
  pub lined : Lined w
  pub kind : place_in w ≡ x.kind

-- ---- what is asked

pub record ShowRoom (t row : List ℕ) (p : Path) (out : List ℕ) (at : ℕ) : Type 0 where
  pub opened : Open t row
  pub few : p.len ≤ 16
  pub room : at + 33110 ≤ length out
