-- What holds of catalogues, as it is read. Assumes nothing: these are definitions.
use Rattle.std.specs.Prelude.{◌≡◌, true, false, List, [], ◌∷◌, map, ℕ, ◌<◌, length}
use Rattle.std.proofs.Math.Option.{some}
use Rattle.words.specs.Bytes.{Bytes}
use Rattle.schema.specs.Reading.{judged}
use Rattle.schema.specs.declared.Judged.TheVariants.{Accepted, Refused}
use Rattle.layout.specs.Refusals.{Refusal, numbered}
use Rattle.layout.specs.Reading as R
use Rattle.layout.specs.Reading.{Answer}
use Rattle.layout.specs.Setting as S
use Rattle.layout.specs.Setting.{Setting, Outcome}
use Rattle.layout.specs.Entries as E
use Rattle.layout.specs.Entries.{Verdict, Sized, row_after}
use Rattle.table.specs.Tables.{table_of}
use Rattle.compare.specs.Lent.{schema_by}
use Rattle.shelf.specs.Catalogue.{count_in, schema_in, schemas_in, among, is_catalogue}
use Rattle.shelf.specs.Holding.{Holds}
use Rattle.shelf.specs.Places.{Ungiven}
use Rattle.catalogue.specs.Entries.{given, refused, add_of, added_of, number_bad}
use Rattle.catalogue.specs.Entries.{check_at, read_at, set_at, list_at, listed_at, write_at, written_at}

-- ---- all entries by number, as one

-- what is asked of an entry, beside the catalogue and the number
pub data Asked : Type 0 where
  check : (row : List ℕ) → Asked
  write : (l out : List ℕ) → Asked
  list : (row out : List ℕ) → Asked
  read : (row p : List ℕ) → Asked
  set : (row p : List ℕ) (x : Setting) → Asked

-- what an entry ends with: its answer, and the lent bytes after where it is lent some to write
abbrev pub Ended : Asked → Type 0
Ended (check row) = Verdict
Ended (write l out) = Sized × List ℕ
Ended (list row out) = Sized × List ℕ
Ended (read row p) = Answer
Ended (set row p x) = Outcome × List ℕ

-- what each entry answers and leaves with the schema itself, and by number
abbrev pub ends : (s : List ℕ) (q : Asked) → Ended q
ends s (check row) = E.check_of s row
ends s (write l out) = (E.write_of s l (length out), E.written_of s l out)
ends s (list row out) = (E.list_of s row (length out), E.listed_of s row out)
ends s (read row p) = E.read_of s row p
ends s (set row p x) = (E.set_of s row p x, row_after (E.set_of s row p x) row)

abbrev pub ends_at : (t : List ℕ) (k : ℕ) (q : Asked) → Ended q
ends_at t k (check row) = check_at t k row
ends_at t k (write l out) = (write_at t k l (length out), written_at t k l out)
ends_at t k (list row out) = (list_at t k row (length out), listed_at t k row out)
ends_at t k (read row p) = read_at t k row p
ends_at t k (set row p x) = (set_at t k row p x, row_after (set_at t k row p x) row)

-- a refusal, and the lent bytes as they were
abbrev pub refusing : (r : Refusal) (q : Asked) → Ended q
refusing r (check row) = E.refused r
refusing r (write l out) = (E.refused_with r 0, out)
refusing r (list row out) = (E.refused_with r 0, out)
refusing r (read row p) = R.refused r
refusing r (set row p x) = (S.refuses r, row)

-- ---- runs of adding

-- a table with no schema in it
pub record Empty (t : List ℕ) : Type 0 where
  pub size : length t ≡ 16417
  pub nothing : count_in t ≡ 0

-- what a run of adding leaves, schema after schema; one that is refused leaves all as it was
unfoldable pub after : List ℕ → List (List ℕ) → List ℕ
after t [] = t
after t (s ∷ ss) = after (added_of t s) ss

-- a run from an empty table leaves these bytes
pub record Left (t : List ℕ) : Type 0 where
  pub from : List ℕ
  pub run : List (List ℕ)
  pub empty : Empty from
  pub leaves : after from run ≡ t

-- the reporter's writer and the scopist's desk, each adding a schema when it will
pub data Party : Type 0 where
  writer : Party
  desk : Party

pub record Adding : Type 0 where
  pub by : Party
  pub schema : List ℕ

abbrev pub schemas_of : List Adding → List (List ℕ)
schemas_of run = map (λ a. a.schema) run

-- somewhere in a run from the table t on, party p added s and was told the number n
pub data Told (p : Party) (s : List ℕ) (n : ℕ) : List ℕ → List Adding → Type 0 where
  here : {t : List ℕ} {a : Adding} {run : List Adding} → a.by ≡ p → a.schema ≡ s → add_of t s ≡ given n → Told p s n t (a ∷ run)
  later : {t : List ℕ} {a : Adding} {run : List Adding} → Told p s n (added_of t a.schema) run → Told p s n t (a ∷ run)

-- ---- adding

-- the schema stands at the number
pub record StandsAt (t s : List ℕ) (n : ℕ) : Type 0 where
  pub sound : is_catalogue t ≡ true
  pub given : n < count_in t
  pub is : schema_in t n ≡ s

-- all 16 are used, and the schema, which is one, is not among them
pub record Full (t s : List ℕ) : Type 0 where
  pub sound : is_catalogue t ≡ true
  pub schema : judged s ≡ Accepted
  pub all : count_in t ≡ 16
  pub new : among s (schemas_in t) ≡ false

pub record Kept : Type 0 where
  -- the lent bytes that are a catalogue hold a list of at most 16 different schemas, and no others hold one
  pub holds : (t : List ℕ) → Bytes t → is_catalogue t ≡ true → Holds t (schemas_in t)
  pub held : (t : List ℕ) (ss : List (List ℕ)) → Holds t ss → (is_catalogue t ≡ true) × (schemas_in t ≡ ss)
  -- they are exactly those that some run of adding leaves
  pub left : (t : List ℕ) → Bytes t → is_catalogue t ≡ true → Left t
  pub leaves : (t : List ℕ) (run : List (List ℕ)) → Empty t → is_catalogue (after t run) ≡ true
  -- adding gives the number at which the schema then stands: the old one, or the next
  pub stands : (t s : List ℕ) (n : ℕ) → Bytes t → add_of t s ≡ given n → StandsAt (added_of t s) s n
  pub next : (t s : List ℕ) (n : ℕ) → add_of t s ≡ given n → among s (schemas_in t) ≡ false → n ≡ count_in t
  -- the same bytes give the old number and change no byte, in a full table too; so adding twice is adding once
  pub old : (t : List ℕ) (k : ℕ) → Bytes t → is_catalogue t ≡ true → k < count_in t
      → (add_of t (schema_in t k) ≡ given k) × (added_of t (schema_in t k) ≡ t)
  pub again : (t s : List ℕ) (n : ℕ) → Bytes t → add_of t s ≡ given n → (add_of (added_of t s) s ≡ given n) × (added_of (added_of t s) s ≡ added_of t s)
  -- by number every entry answers and leaves what it does with the schema itself
  pub by_number : (t : List ℕ) (k : ℕ) (q : Asked) → is_catalogue t ≡ true → k < count_in t → ends_at t k q ≡ ends (schema_in t k) q
  -- and so adding changes no answer for a number given before
  pub keeps : (t s : List ℕ) (k : ℕ) (q : Asked) → Bytes t → is_catalogue t ≡ true → k < count_in t → ends_at (added_of t s) k q ≡ ends_at t k q
  -- 1, and directly after it 12 and 13, exactly then
  pub one : (t s : List ℕ) → is_catalogue t ≡ false → add_of t s ≡ refused (numbered 1)
  pub one-schema : (t s : List ℕ) → judged s ≡ Refused → add_of t s ≡ refused (numbered 1)
  pub no-catalogue : (t : List ℕ) (k : ℕ) (q : Asked) → is_catalogue t ≡ false → ends_at t k q ≡ refusing (numbered 1) q
  pub twelve : (t s : List ℕ) → Full t s → add_of t s ≡ refused (numbered 12)
  pub twelve-then : (t s : List ℕ) → add_of t s ≡ refused (numbered 12) → Full t s
  pub thirteen : (t : List ℕ) (k : ℕ) (q : Asked) → Ungiven t k → ends_at t k q ≡ refusing (numbered 13) q
  pub thirteen-then : (t : List ℕ) (k : ℕ) → number_bad t k ≡ some (numbered 13) → Ungiven t k
  -- a schema added by the table that it gives is the schema added, and by any other it is refused with 1
  pub by-own : (t s table : List ℕ) → table ≡ table_of s → (add_of t (schema_by s table) ≡ add_of t s) × (added_of t (schema_by s table) ≡ added_of t s)
  pub by-other : (t s table : List ℕ) → (table ≡ table_of s → ⊥)
      → (add_of t (schema_by s table) ≡ refused (numbered 1)) × (added_of t (schema_by s table) ≡ t)
  -- of two parties that add in turn, in whatever order, each number that either was told means its schema at the end
  pub parties : (t : List ℕ) (run : List Adding) (p : Party) (s : List ℕ) (n : ℕ) (q : Asked) → Bytes t → Told p s n t run
      → ends_at (after t (schemas_of run)) n q ≡ ends s q
