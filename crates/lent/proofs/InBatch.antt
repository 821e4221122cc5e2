-- What the twins of a batch's entries cite beside those of a row's: where the table is another's all is refused with 1, and where it is the
-- schema's own every other refusal stands. Assumes nothing.
use Rattle.std.specs.Prelude.{Err}
use mathlib.Core.Path.{◌≡◌, refl, sym, ap, subst}
use mathlib.Core.List.{List}
use Prim.Native.Nat.{ℕ}
use Rattle.schema.specs.Reading.{judged}
use Rattle.schema.specs.declared.Judged.{Judged}
use Rattle.schema.specs.declared.Judged.TheVariants.{Refused}
use Rattle.table.specs.Tables.{schema_of}
use Rattle.compare.specs.Lent.{schema_by, Own}
use Rattle.compare.proofs.Lent.{own-says, own-accepted}
use Rattle.answers.specs.declared.Refusal.{Refusal}
use Rattle.answers.specs.declared.Refusal.TheVariants as F
use Rattle.batch.specs.Entries.{Checking, check_of, append_of, appended_of}
use Rattle.batch.specs.Meaning.{Appends, after_schema}
use Rattle.batch.specs.Places.{Finds}
use Rattle.batch.proofs.Orders.{NoRow, none-found}

-- ---- another's table: 1, before all else

module _ {s : List ℕ} (a : judged s ≡ Refused) where
  pub no_row : (b : List ℕ) (k : ℕ) → NoRow s b k F.Schema
  no_row b k = record { is = rw a }

  pub append-no : (room : List ℕ) (used : ℕ) (row : List ℕ) → Appends s room used row (Err F.Schema) room
  unfolding append_of appended_of
  append-no room used row = record { answers = rw a; leaves = rw a }

-- ---- its own

module _ {s t : List ℕ} (o : Own s t) where
  -- the schema that counts is accepted, so each other refusal stands
  pub not-one : (r : Refusal) → r ≡ after_schema (judged (schema_by s t)) r
  not-one r = sym (ap (λ (j : Judged). after_schema j r) (own-accepted o))

  -- as the one of a row that is not there
  pub missing : {b : List ℕ} {k : ℕ} (r : Refusal) → Finds b k (Err r) → NoRow (schema_by s t) b k r
  missing {b} {k} r h = subst (NoRow (schema_by s t) b k) (sym (not-one r)) (none-found refl h)

  pub rows-by : {v : Checking} (b : List ℕ) → v ≡ check_of (schema_of t) b → v ≡ check_of (schema_by s t) b
  rows-by {v} b e = subst (λ (u : List ℕ). v ≡ check_of u b) (own-says o) e
