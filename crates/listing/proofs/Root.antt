-- A row that was checked: what the lister of a container asks of it, and that its records are the row's listing. Assumes nothing.
use mathlib.Core.Path.{◌≡◌, refl}
use mathlib.Core.Bool.{true}
use mathlib.Core.Option.{Option, none, some}
use mathlib.Core.List.{List}
use Prim.Native.Nat.{ℕ, ◌*◌, ◌≤◌}
use native.Mathlib.Omega.{arith}
use lib.ListN.{length}
use Rattle.words.specs.Bytes.{Bytes}
use Rattle.schema.specs.Types.{Ty, ro, Tys, count}
use Rattle.schema.specs.Walk.{fields_of}
use Rattle.schema.proofs.Judging.{Root, accepted-root}
use Rattle.table.specs.Tables.{schema_of, type_of}
use Rattle.layout.specs.Reader.{◌>>=◌}
use Rattle.layout.specs.Cells.{Cell}
use Rattle.layout.specs.Layout.{decode}
use Rattle.layout.specs.Listing.{listing}
use Rattle.layout.specs.Setting.{is_some, or_empty}
use Rattle.layout.specs.Entries.{listing_of}
use Rattle.layout.proofs.Containers.{lays-fits, lays-size}
use Rattle.layout.proofs.Listed.{root-short}
use Rattle.table.proofs.Places.{root_stands, root-whole, root-place}
use Rattle.listing.specs.Lines.{cell_of, lines}
use Rattle.listing.specs.Room.{Holds, Container, Checked}
use Rattle.listing.proofs.Held.{holds-sound}

-- a listing is at most three times as long as its row
root-lines : (ts : Tys) (b : List ℕ) → 1 ≤ count ts → Holds (ro ts) b → length (lines (ro ts) b) ≤ 3 * length b
unfolding lines
root-lines ts b h r = omega (arith, root-short ts _ h (lays-fits (ro ts) _ b r.lays), lays-size (ro ts) _ b r.lays)

sound-lines : (t : Ty) (b : List ℕ) (o : Option Cell) → decode t b ≡ o → is_some o ≡ true → lines t b ≡ or_empty (o >>= λ c. some (listing t c))
unfolding lines cell_of
sound-lines t b none q s = absurd (let z : ◌≡◌ {A = ℕ} 0 1 = cc in omega arith)
sound-lines t b (some c) q s = rw q

module _ {t row : List ℕ} (r : Checked t row) where
  abbrev s : List ℕ
  s = schema_of t

  root : Root s
  root = accepted-root s r.table.accepted

  pub row-lines : lines (type_of t 0 8) row ≡ or_empty (listing_of s row)
  unfolding listing_of
  row-lines = rw (root-whole r.table) (sound-lines (ro (fields_of s)) row _ refl r.sound)

  holds : Bytes row → Holds (ro (fields_of s)) row
  holds hb = holds-sound (ro (fields_of s)) row hb r.short r.sound

  pub row-container : Bytes row → Container t 0 8 row 0
  row-container hb = record {
    stands = root_stands r.table;
    high = omega (arith, root-place r.table);
    holds = rw (root-whole r.table) (holds hb);
    room = rw (root-whole r.table) (omega (arith, root-lines (fields_of s) row root.low (holds hb), r.short));
  }

  -- three times the row's length is room enough
  pub row-short : Bytes row → length (or_empty (listing_of s row)) ≤ 3 * length row
  row-short hb = rw (← row-lines, root-whole r.table) (root-lines (fields_of s) row root.low (holds hb))
