-- The code of a table's length: a schema of at most 1,024 bytes gives at most 512 words. Assumes nothing.
use mathlib.Core.Path.{◌≡◌, refl}
use mathlib.Core.Bool.{Bool, true, false, cond}
use mathlib.Core.List.{List}
use Prim.Native.Nat.{ℕ, ◌≤◌}
use native.Mathlib.Omega.{arith}
use lib.Dec.{leb}
use lib.ListN.{length}
use Rattle.schema.specs.Reading.{judged}
use Rattle.schema.specs.declared.Judged.{Judged}
use Rattle.schema.specs.declared.Judged.TheVariants.{Accepted, Refused}
use Rattle.layout.specs.Refusals.{numbered}
use Rattle.layout.specs.Entries.{Sized, takes, refused_with, is_accepted, schema_bad}
use Rattle.table.specs.Tables.{table_of}
use Rattle.table.proofs.Places.{table-of, table-short}
use Rattle.row.specs.Outcomes.{length_in, LowSized}
use Rattle.row.proofs.Low.{low-unless, sized-low}
use Rattle.lent.specs.Tabulated.{tabulate_of}
use Rattle.codes.specs.Codes.{Halved}
use Rattle.codes.proofs.Codes.{halved}

sized-below : (n : ℕ) → n ≤ 512 → (b : Bool) → length_in (cond b (takes n) (refused_with (numbered 4) n)) ≤ 49152
sized-below n h true = omega arith
sized-below n h false = omega arith

module _ (s : List ℕ) (room : ℕ) where
  below : length_in (tabulate_of s room) ≤ 49152
  unfolding tabulate_of
  below = go (judged s) refl
    where
      go : (j : Judged) → judged s ≡ j → length_in (tabulate_of s room) ≤ 49152
      go Accepted e = rw e (sized-below (length (table_of s)) (table-short (table_of s) (table-of s e)) (leb (length (table_of s)) room))
      go Refused e = rw e (omega arith)

  low : LowSized 16384 (tabulate_of s room)
  unfolding tabulate_of
  low = sized-low 16384 (schema_bad s) (length (table_of s)) room (low-unless 16384 (is_accepted (judged s)) 1)

  pub table-halved : (z : Sized) → z ≡ tabulate_of s room → Halved z
  table-halved z e = halved z (tabulate_of s room) e below low
