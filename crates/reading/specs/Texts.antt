-- What a place shows as an answer, and a text with its stand-in. Assumes nothing: these are definitions.
use Rattle.std.specs.Prelude.{◌≡◌, List, ℕ, ◌+◌, ◌≤◌, ◌<◌, eqb, ltb, length}
use Rattle.std.specs.Borrow.{Bor}
use Rattle.words.specs.Bytes.{num, part}
use Rattle.schema.specs.Marks.{STRING, LIST, MAP}
use Rattle.schema.specs.Kinds.{pick}
use Rattle.schema.specs.Types.{fixed_at}
use Rattle.layout.specs.Reading as R
use Rattle.layout.specs.Reading.{value_of}
use Rattle.layout.specs.Entries.{read_of}
use Rattle.answers.specs.Meaning.{Read, read_means}
use Rattle.table.specs.Words.{count_in}
use Rattle.reading.specs.Places.{Leaf}
use Rattle.reading.specs.declared.TypeParts.{TypeParts}
use Rattle.reading.specs.declared.Place.{Place}

-- a list's header is there
abbrev pub Counts : List ℕ → TypeParts → ℕ → Type 0
Counts row x o = x.kind ≡ LIST → o + 8 ≤ length row

-- how many a container holds: a list's elements, 2 for a map, a struct's fields
unfoldable pub count_of : List ℕ → TypeParts → ℕ → ℕ
count_of row x o = pick (eqb x.kind LIST) (num (part row o 8)) (pick (eqb x.kind MAP) 2 (count_in x.entry))

-- the bytes that an answer is made of are there: a leaf's by the table, a list's header
pub record Showable (row : List ℕ) (p : Place) : Type 0 where
  pub leaf : p.opened.kind < STRING → Leaf row p.opened.kind p.start p.len
  pub counts : Counts row p.opened p.start

-- a place as an answer
unfoldable pub show_of : List ℕ → Place → R.Answer
show_of row p =
    pick (ltb p.opened.kind STRING) (value_of (fixed_at p.opened.kind) (part row p.start p.len))
    (pick (ltb p.opened.kind LIST) (R.bytes p.start p.len) (R.container p.start p.len (count_of row p.opened p.start)))

-- a byte range lies in the row
abbrev pub InRow : List ℕ → R.Answer → Type 0
InRow row R.null = Unit {0}
InRow row (R.bool v) = Unit {0}
InRow row (R.signed z) = Unit {0}
InRow row (R.float32 n) = Unit {0}
InRow row (R.float64 n) = Unit {0}
InRow row (R.bytes o n) = o + n ≤ length row
InRow row (R.container o n k) = Unit {0}
InRow row (R.refused r) = Unit {0}

-- the answer, and that its byte range lies in the row
pub record Reads (s row p : List ℕ) (r : Read) : Type 0 where
  pub means : read_means r ≡ read_of s row p
  pub within : InRow row (read_of s row p)

-- r is the part of the row itself: it points into the row, n bytes from the byte o on
pub record PartOf (row r : Bor (List ℕ)) (o n : ℕ) : Type 0 where
  pub block : r.ref_ptr.0 ≡ row.ref_ptr.0
  pub place : r.ref_ptr.1 ≡ o + row.ref_ptr.1
  pub bytes : r.now ≡ part row.now o n

-- A text with its stand-in: the part of the row itself for a present string or binary, and otherwise the whole stand-in itself.
abbrev pub TextOf : R.Answer → Bor (List ℕ) → Bor (List ℕ) → Bor (List ℕ) → Type 0
TextOf R.null row other r = r ≡ other
TextOf (R.bool v) row other r = r ≡ other
TextOf (R.signed z) row other r = r ≡ other
TextOf (R.float32 n) row other r = r ≡ other
TextOf (R.float64 n) row other r = r ≡ other
TextOf (R.bytes o n) row other r = PartOf row r o n
TextOf (R.container o n k) row other r = r ≡ other
TextOf (R.refused q) row other r = r ≡ other
