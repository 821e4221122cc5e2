-- The numbers with which a row and a log are refused, none of which has a length. Assumes nothing.
use Rattle.std.proofs.Common.{◌≡◌, ℕ, Bool, true, false, leb, List, [], ◌∷◌, length, sym, refl, arith}
use mathlib.Core.Option.{Option, some}
use Rattle.schema.specs.Types.{ro}
use Rattle.schema.specs.Walk.{fields_of}
use Rattle.layout.specs.Refusals as N
use Rattle.layout.specs.Layout.{fault_at}
use Rattle.layout.specs.Setting.{is_some, ◌or◌}
use Rattle.layout.specs.Entries.{verdict, row_long, layout_bad}
use Rattle.layout.specs.Entries as E
use Rattle.answers.specs.declared.Refusal.{Refusal}
use Rattle.answers.specs.Meaning.{refusal_means, length_of}
use Rattle.answers.proofs.Unique.{no_length}
use Rattle.row.specs.Demand1.{OneOf, here, there, number, place}
use Rattle.row.proofs.Among.{lacks, not-among}
use Rattle.row.proofs.Demand1.{Among, nothing, one, among-or, unless-among, broken-among}
use Rattle.batch.specs.Entries.{or_none, batch_bad}
use Rattle.batch.proofs.Taken.{from-refused}
use Rattle.chords.specs.Chords.{schema, no_stroke, no_number, stroke_start, null_bad, nulls_bad, row_bad}
use Rattle.strokes.specs.Log.{rows_bad, log_bad}

module _ {ns : List ℕ} where
  null-among : (v : Bool) (p : ℕ) → OneOf ns 7 → Among ns (null_bad v p)
  null-among true p o = one (place o)
  null-among false p o = nothing

  nulls-among : (row : List ℕ) → OneOf ns 7 → Among ns (nulls_bad row)
  unfolding nulls_bad
  nulls-among row o =
      among-or (null_bad (no_stroke row 0) 0) _ (null-among (no_stroke row 0) 0 o)
      (among-or (null_bad (no_number row 0 0) (stroke_start row 0)) _ (null-among (no_number row 0 0) (stroke_start row 0) o)
      (among-or (null_bad (no_number row 0 1) (stroke_start row 0)) _ (null-among (no_number row 0 1) (stroke_start row 0) o)
      (among-or (null_bad (no_number row 1 0) (stroke_start row 1)) _ (null-among (no_number row 1 0) (stroke_start row 1) o)
      (null-among (no_number row 1 1) (stroke_start row 1) o))))

  pub row-among : (row : List ℕ) → OneOf ns 3 → OneOf ns 7 → Among ns (row_bad row)
  unfolding row_bad
  row-among row o₃ o₇ =
      among-or (row_long row) _ (unless-among (leb (length row) 16384) 3 o₃ (λ e. omega arith))
      (among-or (layout_bad schema row) (nulls_bad row) (broken-among (fault_at (ro (fields_of schema)) row) o₇) (nulls-among row o₇))

  rows-among : (rows : List (List ℕ)) → OneOf ns 3 → OneOf ns 7 → Among ns (rows_bad rows)
  unfolding rows_bad
  rows-among [] o₃ o₇ = nothing
  rows-among (row ∷ rows) o₃ o₇ = among-or (row_bad row) (rows_bad rows) (row-among row o₃ o₇) (rows-among rows o₃ o₇)

  pub log-among : (m : Option (List (List ℕ))) → OneOf ns 10 → OneOf ns 3 → OneOf ns 7 → Among ns (log_bad m)
  log-among m o₁₀ o₃ o₇ =
      among-or (batch_bad m) (rows_bad (or_none m)) (unless-among (is_some m) 10 o₁₀ (λ e. omega arith)) (rows-among (or_none m) o₃ o₇)

-- a refusal among numbers that lack 4 has no length
pub among-length : {ns : List ℕ} {m : Option N.Refusal} (r : Refusal) → Among ns m → lacks 4 ns ≡ true → m ≡ some (refusal_means r) → length_of r ≡ 0
among-length r nothing l e = let z : ◌≡◌ {A = ℕ} 0 1 = cc in absurd (omega arith)
among-length r (one (number {n = n} o h)) l e = no_length r (λ q. let z : n ≡ 4 = cc in not-among 4 o l z)
among-length r (one (place o)) l e = no_length r (λ q. let z : ◌≡◌ {A = ℕ} 0 1 = cc in absurd (omega arith))

pub row-length : (row : List ℕ) (r : Refusal) → E.refused (refusal_means r) ≡ verdict (row_bad row) → length_of r ≡ 0
row-length row r e = among-length r (row-among {ns = 3 ∷ 7 ∷ []} row here (there here)) refl (from-refused (row_bad row) _ (sym e))
