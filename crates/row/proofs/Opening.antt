-- An entry whose schema is refused, and one that goes on by the table that was built. Assumes nothing.
use Rattle.std.specs.Prelude.{Err}
use mathlib.Core.Path.{◌≡◌, refl, subst}
use Rattle.std.specs.Prelude as P
use Rattle.std.specs.Prelude.{IfSome}
use Rattle.std.specs.Option.{IsNone, ok_or}
use denote.Ref.{Bor}
use Rattle.answers.specs.Meaning.{outcome_means}
use Rattle.table.specs.Steps.{GivesAt}
use mathlib.Core.List.{List}
use Prim.Native.Nat.{ℕ}
use Rattle.schema.specs.Reading.{judged}
use Rattle.schema.specs.declared.Judged.TheVariants.{Accepted, Refused}
use Rattle.layout.specs.Refusals.{numbered}
use Rattle.layout.specs.Setting.{Setting}
use Rattle.layout.specs.Entries.{Verdict, done, refused, judge_of, check_of, read_of, set_of, write_of, written_of, list_of, listed_of}
use Rattle.answers.specs.declared.Refusal.TheVariants as F
use Rattle.answers.specs.Meaning.{Outcome}
use Rattle.answers.specs.Meaning.{Length, Read}
use Rattle.table.specs.Tables.{schema_of, TableFor}
use Rattle.reading.specs.Texts.{Reads}
use Rattle.setting.specs.Writes.{SetAs}
use Rattle.engine.specs.Lists.{ListsTo}
use Rattle.row.specs.Outcomes.{WritesTo}

-- a schema that is accepted
pub judge-yes : (s : List ℕ) → judged s ≡ Accepted → done ≡ judge_of s
unfolding judge_of
judge-yes s e = rw e

-- what an entry does by a table of the schema is what it does with the schema
module _ {s t : List ℕ} (f : TableFor s t) where
  pub check-by : {v : Verdict} (row : List ℕ) → v ≡ check_of (schema_of t) row → v ≡ check_of s row
  check-by {v} row h = subst (λ (u : List ℕ). v ≡ check_of u row) f.says h

  pub write-by : {l out out' : List ℕ} {r : Length} → WritesTo (schema_of t) l out r out' → WritesTo s l out r out'
  write-by {l} {out} {out'} {r} h = subst (λ (u : List ℕ). WritesTo u l out r out') f.says h

  pub list-by : {row out out' : List ℕ} {r : Length} → ListsTo (schema_of t) row out r out' → ListsTo s row out r out'
  list-by {row} {out} {out'} {r} h = subst (λ (u : List ℕ). ListsTo u row out r out') f.says h

  pub read_by : {row p : List ℕ} {r : Read} → Reads (schema_of t) row p r → Reads s row p r
  read_by {row} {p} {r} h = subst (λ (u : List ℕ). Reads u row p r) f.says h

  pub set-by : {row row' : List ℕ} {r : Outcome} (p : List ℕ) (x : Setting)
      → SetAs (set_of (schema_of t) row p x) row row' r → SetAs (set_of s row p x) row row' r
  set-by {row} {row'} {r} p x h = subst (λ (u : List ℕ). SetAs (set_of u row p x) row row' r) f.says h

-- an entry whose schema is refused
module _ (s : List ℕ) (e : judged s ≡ Refused) where
  pub judge-no : refused (numbered 1) ≡ judge_of s
  unfolding judge_of
  judge-no = rw e

  pub check-no : (row : List ℕ) → refused (numbered 1) ≡ check_of s row
  unfolding check_of
  check-no row = rw e

  pub write-no : (l out : List ℕ) → WritesTo s l out (Err F.Schema) out
  unfolding write_of written_of
  write-no l out = record { answers = rw e; leaves = rw e }

  pub list-no : (row out : List ℕ) → ListsTo s row out (Err F.Schema) out
  unfolding list_of listed_of
  list-no row out = record { answers = rw e; leaves = rw e }

  pub read_no : (row p : List ℕ) → Reads s row p (Err F.Schema)
  unfolding read_of
  read_no row p = record { means = rw e; within = rw e tt }

-- judging by the table alone
pub judge-with : (s : List ℕ) (post : Bor (List ℕ) → Unit {0} → Type 0) (o : P.Option (Unit {0})) → IfSome o (λ u. GivesAt post s u)
    → (IsNone o → judged s ≡ Refused) → outcome_means (ok_or o F.Schema) ≡ judge_of s
judge-with s post P.None m n = judge-no s (n refl)
judge-with s post (P.Some u) m n = let (t, f, c) = m in judge-yes s (subst (λ (x : List ℕ). judged x ≡ Accepted) f.says f.table.accepted)
