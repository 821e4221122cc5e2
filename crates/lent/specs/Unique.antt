-- One outcome: whatever two answers, and contents of the lent words, the statement of `table` or of `open_by` allows for the same input are equal.
-- A twin's statement is its entry's, of the schema that counts by the table: row's and batch's records hold of every schema, so of that one.
-- Assumes nothing: these are definitions.
use Rattle.std.specs.Prelude.{◌≡◌, List, ℕ}
use Rattle.std.specs.Borrow.{Bor}
use Rattle.answers.specs.Meaning.{Length}
use Rattle.row.specs.Unique as R
use Rattle.row.specs.Unique.{Same}
use Rattle.batch.specs.Unique as B
use Rattle.lent.specs.declared.OpenedBy.{OpenedBy}
use Rattle.lent.specs.Tabulated.{TablesTo}

pub record Unique : Type 0 where
  pub table : (s out : List ℕ) (r r' : Length) (b b' : List ℕ) → TablesTo s out r b → TablesTo s out r' b' → Same r r' b b'
  pub opened : (schema table row : Bor (List ℕ)) (r r' : OpenedBy) → (r.schema ≡ schema) × (r.table ≡ table) × (r.row ≡ row)
      → (r'.schema ≡ schema) × (r'.table ≡ table) × (r'.row ≡ row) → r ≡ r'
  pub rows : R.Unique
  pub batches : B.Unique
