-- Demand 1 for the twins: what it says of each entry, with the schema that counts by the table; and for `table`. Assumes nothing.
use mathlib.Core.List.{List}
use Prim.Native.Nat.{ℕ}
use native.Mathlib.Omega.{arith}
use lib.ListN.{length}
use Rattle.schema.specs.Reading.{judged}
use Rattle.layout.specs.Entries.{is_accepted}
use Rattle.table.specs.Tables.{table_of}
use Rattle.row.specs.Demand1.{here}
use Rattle.row.proofs.Demand1 as Row
use Rattle.batch.proofs.Numbers as Batch
use Rattle.compare.specs.Lent.{schema_by}
use Rattle.lent.specs.Twins.{Asked, judge, check, write, list, read, set, fetch_in, check_in, append_in, read_in, set_in, ends}
use Rattle.lent.specs.Tabulated.{tabulate_of, tabled_of}
use Rattle.lent.specs.Demand1.{Well, Demand1}

with-schema : (s : List ℕ) (q : Asked) → Well q (ends s q)
with-schema s judge = (Row.demand1).judge s
with-schema s (check row) = ((Row.demand1).check s row, (Row.demand1).check-place s row)
with-schema s (write l out) = ((Row.demand1).write s l (length out), (Row.demand1).write-leaves s l out)
with-schema s (list row out) =
    ((Row.demand1).list s row (length out), (Row.demand1).list-place s row (length out), (Row.demand1).list-leaves s row out)
with-schema s (read row p) = ((Row.demand1).read s row p, (Row.demand1).read-place s row p)
with-schema s (set row p x) = ((Row.demand1).set s row p x, (Row.demand1).set-place s row p x, (Row.demand1).set-leaves s row p x)
with-schema s (fetch_in b k) = (Batch.demand1).fetch s b k
with-schema s (check_in b) = (Batch.demand1).check s b
with-schema s (append_in room used row) = ((Batch.demand1).append s room used row, (Batch.demand1).append-leaves s room used row)
with-schema s (read_in b k p) = (Batch.demand1).read s b k p
with-schema s (set_in b k p x) = ((Batch.demand1).set s b k p x, (Batch.demand1).set-leaves s b k p x)

pub demand1 : Demand1
unfolding tabulate_of tabled_of
demand1 = record {
  all = λ s t q. with-schema (schema_by s t) q;
  table = λ s room. Row.fills _ (length (table_of s)) room (Row.unless-among (is_accepted (judged s)) 1 here (λ e. omega arith));
  table-leaves = λ s out r k e. rw e;
}
