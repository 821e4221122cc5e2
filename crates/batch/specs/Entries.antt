-- What each entry answers, as a function of the lent bytes: its refusals in the document's order, and then the result; and what the lent
-- bytes hold after. Assumes nothing: these are definitions.
use Rattle.std.proofs.Math.Option.{Option, none, some}
use Rattle.std.specs.Prelude.{List, [], ◌∷◌, ℕ, suc, ◌+◌, ltb, length, take, get_or}
use Rattle.std.proofs.lemmas.List.Edits.{sets}
use Rattle.layout.specs.Reader.{◌>>=◌, cut}
use Rattle.layout.specs.Refusals.{Refusal, numbered}
use Rattle.layout.specs.Reading.{Answer}
use Rattle.layout.specs.Setting.{Setting, is_some, unless, ◌or◌, Outcome, refuses, becomes}
use Rattle.layout.specs.Entries as E
use Rattle.layout.specs.Entries.{Sized, takes, refused_with, schema_bad, row_long, layout_bad, read_after, set_after, sized_after}
use Rattle.batch.specs.Frames.{frame, framing, framed}

-- ---- the rows, and their numbers from 0

abbrev pub or_none : Option (List (List ℕ)) → List (List ℕ)
or_none none = []
or_none (some rows) = rows

abbrev pub rows_of : List ℕ → List (List ℕ)
rows_of b = or_none (framed b)

abbrev pub row_of : List ℕ → ℕ → List ℕ
row_of b k = get_or (rows_of b) k []

-- the byte of the batch that row k starts at, behind its size
abbrev pub start_of : List ℕ → ℕ → ℕ
start_of b k = length (framing (take k (rows_of b))) + 4

-- 10: the batch ends inside a size or a row
abbrev pub batch_bad : Option (List (List ℕ)) → Option Refusal
batch_bad rows = unless (is_some rows) 10

-- 5: no row of that number
abbrev pub row_missing : List ℕ → ℕ → Option Refusal
row_missing b k = unless (ltb k (length (rows_of b))) 5

-- 1, 10 and 5, for an entry that asks of row k
abbrev pub no_row : List ℕ → List ℕ → ℕ → Option Refusal
no_row s b k = schema_bad s or batch_bad (framed b) or row_missing b k

-- 3 and 7 of a row: a 7's place counts from that row's first byte
abbrev pub row_bad : List ℕ → List ℕ → Option Refusal
row_bad s row = row_long row or layout_bad s row

-- ---- counting

-- the number of rows, or a refusal
abbrev pub counted : Option (List (List ℕ)) → Sized
counted none = refused_with (numbered 10) 0
counted (some rows) = takes (length rows)

unfoldable pub count_of : List ℕ → Sized
count_of b = counted (framed b)

-- ---- fetching

-- a row's own bytes, by their start and their length; or a refusal
pub data Fetching : Type 0 where
  range : ℕ → ℕ → Fetching
  refused : Refusal → Fetching

abbrev pub fetch_after : Option Refusal → ℕ → ℕ → Fetching
fetch_after none start len = range start len
fetch_after (some r) start len = refused r

unfoldable pub fetch_of : List ℕ → List ℕ → ℕ → Fetching
fetch_of s b k = fetch_after (no_row s b k or row_bad s (row_of b k)) (start_of b k) (length (row_of b k))

-- ---- checking all

-- done; a refusal; or the number of a row, and its refusal
pub data Checking : Type 0 where
  done : Checking
  refused : Refusal → Checking
  refused_row : ℕ → Refusal → Checking

abbrev pub check_after : Option Refusal → Checking → Checking
check_after none c = c
check_after (some r) c = refused r

abbrev pub in_turn : ℕ → Option Refusal → Checking → Checking
in_turn k none c = c
in_turn k (some r) c = refused_row k r

-- rows in turn, the first of them row k
unfoldable pub check_rows : List ℕ → ℕ → List (List ℕ) → Checking
check_rows s k [] = done
check_rows s k (row ∷ rows) = in_turn k (row_bad s row) (check_rows s (suc k) rows)

unfoldable pub check_of : List ℕ → List ℕ → Checking
check_of s b = check_after (schema_bad s or batch_bad (framed b)) (check_rows s 0 (rows_of b))

-- ---- appending

-- the rows of the batch that the first bytes of a lent room are; a batch that says it is longer than the room ends inside a row
unfoldable pub lent_rows : List ℕ → ℕ → Option (List (List ℕ))
lent_rows room used = do
  (b, rest) ← cut used room
  framed b

unfoldable pub append_of : List ℕ → List ℕ → ℕ → List ℕ → Sized
append_of s room used row = sized_after (schema_bad s or batch_bad (lent_rows room used) or row_bad s row) (used + length (frame row)) (length room)

-- the row in its frame behind the batch, all else as it was; after a refusal all as it was
abbrev pub framed_at : Sized → List ℕ → ℕ → List ℕ → List ℕ
framed_at (takes n) room used row = sets room used (frame row)
framed_at (refused_with r k) room used row = room

unfoldable pub appended_of : List ℕ → List ℕ → ℕ → List ℕ → List ℕ
appended_of s room used row = framed_at (append_of s room used row) room used row

-- ---- one place of row k: ranges and places count from that row's first byte

unfoldable pub read_of : List ℕ → List ℕ → ℕ → List ℕ → Answer
read_of s b k p = read_after (no_row s b k) (E.read_of s (row_of b k) p)

-- the batch with a row's bytes in the place of those from `at` on
abbrev pub within : List ℕ → ℕ → Outcome → Outcome
within b at (refuses r) = refuses r
within b at (becomes row) = becomes (sets b at row)

unfoldable pub set_of : List ℕ → List ℕ → ℕ → List ℕ → Setting → Outcome
set_of s b k p x = set_after (no_row s b k) (within b (start_of b k) (E.set_of s (row_of b k) p x))
