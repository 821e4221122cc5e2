-- The table of a schema, copied to the lent output. Assumes nothing.
use Rattle.std.specs.Prelude.{Ok, Err}
use Rattle.std.proofs.Common.{◌≡◌, ℕ, ◌≤◌, ◌<◌, true, false, leb, List, ◌++◌, length, drop, sym, arith, le-leb}
use native.Mathlib.Nat.{zero-add}
use lib.Seq.{sets, sets-eq}
use borrow.Author.Tests.{lt-leb}
use Rattle.schema.specs.Reading.{judged}
use Rattle.schema.specs.declared.Judged.TheVariants.{Refused}
use Rattle.answers.specs.declared.Refusal.TheVariants as F
use Rattle.table.specs.Tables.{Table, schema_of}
use Rattle.lent.specs.Tabulated.{tabulate_of, tabled_of, TablesTo}

-- a schema that is refused
pub table-no : (s out : List ℕ) → judged s ≡ Refused → TablesTo s out (Err F.Schema) out
unfolding tabulate_of tabled_of
table-no s out e = record { answers = rw e; leaves = rw e }

-- a table that was built
module _ {t : List ℕ} (f : Table t) (out : List ℕ) where
  pub copy-short : length out < length t → TablesTo (schema_of t) out (Err (F.Room (length t))) out
  unfolding tabulate_of tabled_of
  copy-short h =
      let e : leb (length t) (length out) ≡ false = lt-leb (length t) (length out) h in
      record { answers = rw (f.accepted, ← f.given, e); leaves = rw (f.accepted, ← f.given, e) }

  pub copy-fits : length t ≤ length out → {u : List ℕ} → u ≡ t → TablesTo (schema_of t) out (Ok (length t)) (u ++ drop (length t) out)
  unfolding tabulate_of tabled_of
  copy-fits h q =
      let e : leb (length t) (length out) ≡ true = le-leb (length t) (length out) h in
      let z : sets out 0 t ≡ t ++ drop (length t) out = rw (zero-add (length t)) at (sets-eq t out 0 (omega arith)) in
      record { answers = rw (f.accepted, ← f.given, e); leaves = rw (f.accepted, ← f.given, e, q) (sym z) }
