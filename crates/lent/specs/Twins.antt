-- The twins, one statement: by the table that its schema gives an entry answers and leaves what it does with the schema, and by any other
-- it refuses with 1 and leaves every lent byte. Assumes nothing: these are definitions.
use Rattle.std.specs.Prelude.{◌≡◌, List, ℕ, length}
use Rattle.layout.specs.Refusals.{numbered}
use Rattle.layout.specs.Reading as R
use Rattle.layout.specs.Reading.{Answer}
use Rattle.layout.specs.Setting as S
use Rattle.layout.specs.Setting.{Setting, Outcome}
use Rattle.layout.specs.Entries as E
use Rattle.layout.specs.Entries.{Verdict, Sized, row_after}
use Rattle.table.specs.Tables.{table_of}
use Rattle.compare.specs.Lent.{schema_by}
use Rattle.batch.specs.Entries as B
use Rattle.batch.specs.Entries.{Fetching, Checking}

-- what is asked of an entry, beside the schema: of a row, and of a batch. `ask` and `text_or` ask what `read` does.
pub data Asked : Type 0 where
  judge : Asked
  check : (row : List ℕ) → Asked
  write : (l out : List ℕ) → Asked
  list : (row out : List ℕ) → Asked
  read : (row p : List ℕ) → Asked
  set : (row p : List ℕ) (x : Setting) → Asked
  fetch_in : (b : List ℕ) (k : ℕ) → Asked
  check_in : (b : List ℕ) → Asked
  append_in : (room : List ℕ) (used : ℕ) (row : List ℕ) → Asked
  read_in : (b : List ℕ) (k : ℕ) (p : List ℕ) → Asked
  set_in : (b : List ℕ) (k : ℕ) (p : List ℕ) (x : Setting) → Asked

-- what an entry ends with: its answer, and the lent bytes after where it is lent some to write
abbrev pub Ended : Asked → Type 0
Ended judge = Verdict
Ended (check row) = Verdict
Ended (write l out) = Sized × List ℕ
Ended (list row out) = Sized × List ℕ
Ended (read row p) = Answer
Ended (set row p x) = Outcome × List ℕ
Ended (fetch_in b k) = Fetching
Ended (check_in b) = Checking
Ended (append_in room used row) = Sized × List ℕ
Ended (read_in b k p) = Answer
Ended (set_in b k p x) = Outcome × List ℕ

-- what each entry answers and leaves with the schema s
abbrev pub ends : (s : List ℕ) (q : Asked) → Ended q
ends s judge = E.judge_of s
ends s (check row) = E.check_of s row
ends s (write l out) = (E.write_of s l (length out), E.written_of s l out)
ends s (list row out) = (E.list_of s row (length out), E.listed_of s row out)
ends s (read row p) = E.read_of s row p
ends s (set row p x) = (E.set_of s row p x, row_after (E.set_of s row p x) row)
ends s (fetch_in b k) = B.fetch_of s b k
ends s (check_in b) = B.check_of s b
ends s (append_in room used row) = (B.append_of s room used row, B.appended_of s room used row)
ends s (read_in b k p) = B.read_of s b k p
ends s (set_in b k p x) = (B.set_of s b k p x, row_after (B.set_of s b k p x) b)

-- 1, and the lent bytes as they were
abbrev pub refused : (q : Asked) → Ended q
refused judge = E.refused (numbered 1)
refused (check row) = E.refused (numbered 1)
refused (write l out) = (E.refused_with (numbered 1) 0, out)
refused (list row out) = (E.refused_with (numbered 1) 0, out)
refused (read row p) = R.refused (numbered 1)
refused (set row p x) = (S.refuses (numbered 1), row)
refused (fetch_in b k) = B.refused (numbered 1)
refused (check_in b) = B.refused (numbered 1)
refused (append_in room used row) = (E.refused_with (numbered 1) 0, room)
refused (read_in b k p) = R.refused (numbered 1)
refused (set_in b k p x) = (S.refuses (numbered 1), b)

-- what the twin of each entry answers and leaves, as their statements say: what the entry does with the schema that counts
abbrev pub ends_by : (s t : List ℕ) (q : Asked) → Ended q
ends_by s t q = ends (schema_by s t) q

pub record Twins : Type 0 where
  pub own : (s t : List ℕ) (q : Asked) → t ≡ table_of s → ends_by s t q ≡ ends s q
  pub other : (s t : List ℕ) (q : Asked) → (t ≡ table_of s → ⊥) → ends_by s t q ≡ refused q
