-- The laws of batches hold. Assumes nothing.
use mathlib.Core.Path.{◌≡◌}
use mathlib.Core.List.{List, []}
use Prim.Native.Nat.{ℕ, ◌<◌}
use lib.ListN.{length, get_or}
use Rattle.words.specs.Bytes.{Bytes}
use Rattle.layout.proofs.Demand2.{demand2}
use Rattle.layout.proofs.Demand3.{demand3}
use Rattle.batch.specs.Entries.{rows_of, row_of, check_of}
use Rattle.batch.specs.Entries as B
use Rattle.batch.specs.Batches.{RowDemands, Batches}
use Rattle.batch.proofs.Framing.{framed-back, framed-forth}
use Rattle.batch.proofs.Accepting.{sound, done, checked-at}
use Rattle.batch.proofs.Appending.{append-rows, again}
use Rattle.batch.proofs.Settings.{fetches, sets-row, others, unmoved, either_order, row-bytes, still}

module _ (s : List ℕ) where
  each_row : (b : List ℕ) (k : ℕ) → Bytes b → check_of s b ≡ B.done → k < length (rows_of b) → RowDemands s (row_of b k)
  each_row b k hb e l =
      let v = sound s b e in
      let l' : k < length v.rows = rw v.is at l in
      let bytes = row-bytes s b v.rows k hb v.is l' in
      let checks = checked-at s k v.checked l' in
      let row = get_or v.rows k [] in
      rw v.is (record { bytes = bytes; checks = checks; lists = demand2.list-write s row bytes checks; sets = demand3 s row bytes checks })

  pub batches : Batches s
  batches = record {
    apart = λ b rows hb e. (framed-forth hb e).whole;
    together = λ rows f. framed-back f;
    accepted = λ b. (sound s b, done s b);
    again = again s;
    append = append-rows s;
    fetch = fetches s;
    each = each_row;
    set = sets-row s;
    still = still s;
    others = others s;
    either_order = either_order s;
    unmoved = unmoved s;
  }
