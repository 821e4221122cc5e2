-- The refusals of `list` and its answer, each where the document gives it. Assumes nothing.
use Rattle.std.specs.Prelude.{Ok, Err}
use mathlib.Core.Path.{◌≡◌, sym, ◌∙◌}
use mathlib.Core.Bool.{Bool, true, false, cond}
use mathlib.Core.Option.{some}
use mathlib.Core.List.{List}
use Prim.Native.Nat.{ℕ, ◌≤◌, ◌<◌}
use lib.ListN.{length}
use lib.Dec.{leb}
use borrow.Author.Tests.{le-leb, lt-leb}
use Rattle.schema.specs.Types.{ro}
use Rattle.schema.specs.Reading.{judged}
use Rattle.schema.specs.Walk.{fields_of}
use Rattle.schema.specs.declared.Judged.TheVariants.{Accepted}
use Rattle.layout.specs.Refusals.{numbered}
use Rattle.layout.specs.Layout.{fault_at}
use Rattle.layout.specs.Setting.{or_empty}
use Rattle.layout.specs.Entries.{list_of, listed_of, listing_of, takes, refused_with}
use Rattle.answers.specs.declared.Refusal.TheVariants as F
use Rattle.listing.specs.Lines.{Answered}
use Rattle.engine.specs.Lists.{ListsTo}
use Rattle.engine.proofs.Checked.{Passed}

module _ (s row out : List ℕ) (a : judged s ≡ Accepted) where
  pub list-long : 16384 < length row → ListsTo s row out (Err F.TooLong) out
  unfolding list_of listed_of
  list-long h = record { answers = rw (a, lt-leb (length row) 16384 h); leaves = rw (a, lt-leb (length row) 16384 h) }

  pub list-bad : (j : ℕ) → length row ≤ 16384 → fault_at (ro (fields_of s)) row ≡ some j → ListsTo s row out (Err (F.Layout j)) out
  unfolding list_of listed_of
  list-bad j h e = record { answers = rw (a, le-leb (length row) 16384 h, e); leaves = rw (a, le-leb (length row) 16384 h, e) }

  module _ (p : Passed s row) (out' : List ℕ) (r : ℕ) (z : Answered out (or_empty (listing_of s row)) out' r) where
    asked : (v : Bool) → leb (length (or_empty (listing_of s row))) (length out) ≡ v
        → list_of s row (length out) ≡ cond v (takes r) (refused_with (numbered 4) r)
    unfolding list_of
    asked v q = rw (a, le-leb (length row) 16384 p.short, p.sound, q, z.need)

    pub list-roomless : length out < r → ListsTo s row out (Err (F.Room r)) out'
    unfolding listed_of
    list-roomless k =
        let q : leb (length (or_empty (listing_of s row))) (length out) ≡ false = lt-leb (length (or_empty (listing_of s row))) (length out)
        (rw (← z.need) k) in
        let n = asked false q in
        record { answers = sym n; leaves = rw n (z.bytes ∙ rw q) }

    pub list_done : r ≤ length out → ListsTo s row out (Ok r) out'
    unfolding listed_of
    list_done k =
        let q : leb (length (or_empty (listing_of s row))) (length out) ≡ true = le-leb (length (or_empty (listing_of s row))) (length out)
        (rw (← z.need) k) in
        let n = asked true q in
        record { answers = sym n; leaves = rw n (z.bytes ∙ rw q) }
