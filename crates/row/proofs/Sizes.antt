-- The lengths in answers are small. Assumes nothing.
use mathlib.Core.Path.{◌≡◌, refl}
use mathlib.Core.Bool.{Bool, true, false, cond}
use mathlib.Core.Option.{Option, none, some}
use mathlib.Core.List.{List}
use Prim.Native.Nat.{ℕ, ◌≤◌}
use native.Mathlib.Omega.{arith}
use lib.ListN.{length}
use lib.Dec.{leb}
use borrow.Author.Tests.{leb-true}
use Rattle.words.specs.Bytes.{Bytes}
use Rattle.schema.specs.Types.{ro}
use Rattle.schema.specs.Reading.{judged}
use Rattle.schema.specs.Walk.{fields_of}
use Rattle.schema.specs.declared.Judged.{Judged}
use Rattle.schema.specs.declared.Judged.TheVariants.{Accepted, Refused}
use Rattle.layout.specs.Cells.{Cell}
use Rattle.layout.specs.Faults.{Read, fault, got, yielded, fault_in}
use Rattle.layout.specs.Refusals.{numbered}
use Rattle.layout.specs.Layout.{codec}
use Rattle.layout.proofs.Faults.{got-some}
use Rattle.layout.specs.Entries.{takes, refused_with, write_of, image_of, list_of, listing_of}
use Rattle.row.specs.Outcomes.{length_in}
use Rattle.layout.proofs.Demand2.{listing-below}

either : (b : Bool) (n : ℕ) → length_in (cond b (takes n) (refused_with (numbered 4) n)) ≡ n
either true n = refl
either false n = refl

-- a listing is at most three times its row
pub list-below : (s row : List ℕ) (room : ℕ) → Bytes row → length_in (list_of s row room) ≤ 49152
unfolding list_of listing_of fault_in yielded
list-below s row room hb = by-schema (judged s) refl
  where
    by_row : judged s ≡ Accepted → leb (length row) 16384 ≡ true → (m : Read Cell) → (codec (ro (fields_of s))).get row ≡ m → length_in (list_of s row room) ≤ 49152
    by_row a h (fault p) d = rw (a, h, d) (omega arith)
    by_row a h (got c) d =
        let short = leb-true (length row) 16384 h in
        let z = listing-below s row a (record { bytes = hb; size = short; tree = c; reads = got-some d }) in
        rw (a, h, d, either) (omega (arith, z, short))

    by_length : judged s ≡ Accepted → (v : Bool) → leb (length row) 16384 ≡ v → length_in (list_of s row room) ≤ 49152
    by_length a true h = by_row a h ((codec (ro (fields_of s))).get row) refl
    by_length a false h = rw (a, h) (omega arith)

    by-schema : (j : Judged) → judged s ≡ j → length_in (list_of s row room) ≤ 49152
    by-schema Accepted a = by_length a (leb (length row) 16384) refl
    by-schema Refused a = rw a (omega arith)

-- a row that is written is within its limit
pub write-below : (s l : List ℕ) (room : ℕ) → length_in (write_of s l room) ≤ 49152
unfolding write_of
write-below s l room = by-schema (judged s) refl
  where
    by_length : judged s ≡ Accepted → (row : List ℕ) → image_of s l ≡ some row → (v : Bool) → leb (length row) 16384 ≡ v → length_in (write_of s l room) ≤ 49152
    by_length a row e true h = rw (a, e, h, either) (omega (arith, leb-true (length row) 16384 h))
    by_length a row e false h = rw (a, e, h) (omega arith)

    by-image : judged s ≡ Accepted → (o : Option (List ℕ)) → image_of s l ≡ o → length_in (write_of s l room) ≤ 49152
    by-image a none e = rw (a, e) (omega arith)
    by-image a (some row) e = by_length a row e (leb (length row) 16384) refl

    by-schema : (j : Judged) → judged s ≡ j → length_in (write_of s l room) ≤ 49152
    by-schema Accepted a = by-image a (image_of s l) refl
    by-schema Refused a = rw a (omega arith)
