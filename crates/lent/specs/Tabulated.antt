-- What `table` answers and leaves in the lent output, both functions of the schema and the output. Assumes nothing: these are definitions.
use Rattle.std.specs.Prelude.{◌≡◌, List, ℕ, length}
use Rattle.layout.specs.Entries.{Sized, schema_bad, sized_after, filled}
use Rattle.answers.specs.Meaning.{Length, length_means}
use Rattle.table.specs.Tables.{table_of}

-- how many words the table has; or 1; or 4, with the words needed
unfoldable pub tabulate_of : List ℕ → ℕ → Sized
tabulate_of s room = sized_after (schema_bad s) (length (table_of s)) room

-- the table at the start of the output, the rest as it was; after a refusal all as it was
unfoldable pub tabled_of : List ℕ → List ℕ → List ℕ
tabled_of s out = filled (tabulate_of s (length out)) (table_of s) out

-- the answer r, and what the output out holds after
pub record TablesTo (s out : List ℕ) (r : Length) (out' : List ℕ) : Type 0 where
  pub answers : length_means r ≡ tabulate_of s (length out)
  pub leaves : out' ≡ tabled_of s out
