-- A table that is lent beside its schema. Assumes nothing: these are definitions.
use Rattle.std.specs.Prelude.{◌≡◌, ℕ, Bool, true, false, cond, List, [], ◌∷◌, ◌==◌}
use Rattle.schema.specs.Reading.{judged}
use Rattle.schema.specs.declared.Judged.TheVariants.{Accepted}
use Rattle.table.specs.Tables.{table_of}

-- whether two tables are one, word by word
unfoldable pub same : List ℕ → List ℕ → Bool
same [] [] = true
same [] (y ∷ u) = false
same (x ∷ t) [] = false
same (x ∷ t) (y ∷ u) = cond (x == y) (same t u) false

-- The schema that s counts as by the table t: itself where t is the table that it gives, and otherwise the schema of no bytes, which every
-- entry refuses with 1.
unfoldable pub schema_by : List ℕ → List ℕ → List ℕ
schema_by s t = cond (same t (table_of s)) s []

-- the schema is accepted, and the table is the one that it gives
pub record Own (s t : List ℕ) : Type 0 where
  pub accepted : judged s ≡ Accepted
  pub given : t ≡ table_of s

abbrev pub Gives : List ℕ → List ℕ → Bool → Type 0
Gives s t true = Own s t
Gives s t false = Own s t → ⊥
