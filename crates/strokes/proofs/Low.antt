-- A place in an answer is within the limit of a row: 0, or where a stroke starts. Assumes nothing.
use Rattle.std.proofs.Common.{◌≡◌, ℕ, ◌≤◌, Bool, true, false, cond, ltb, leb, List, [], ◌∷◌, length, get_or, arith}
use mathlib.Core.Option.{Option, none, some}
use Rattle.layout.specs.Refusals.{Refusal, numbered}
use Rattle.layout.specs.Setting.{is_some, ◌or◌}
use Rattle.layout.specs.Entries.{takes, refused_with, layout_bad}
use Rattle.row.specs.Outcomes.{Low, LowIn, LowSized}
use Rattle.row.proofs.Low.{low_or, low-unless, low-long, layout-low, read-start}
use Rattle.batch.specs.Frames.{framed}
use Rattle.batch.specs.Entries.{or_none, rows_of, batch_bad, lent_rows}
use Rattle.chords.specs.declared.Chord.{Chord}
use Rattle.chords.specs.Chords.{chord, schema, no_stroke, no_number, stroke_start, null_bad, nulls_bad, row_bad}
use Rattle.strokes.specs.Log.{chords_of, rows_bad, log_bad, window_bad}
use Rattle.strokes.specs.Entries as S
use Rattle.strokes.specs.Entries.{held_after, log_with, add_of, numbers_in, read_of, chord_after, chord_missing, chord_of}

null-low : (v : Bool) (place : ℕ) → place ≤ 16384 → LowIn 16384 (null_bad v place)
null-low true place h = h
null-low false place h = tt

module _ (row : List ℕ) (h : length row ≤ 16384) where
  start-low : (i : ℕ) → stroke_start row i ≤ 16384
  unfolding stroke_start
  start-low i = omega (arith, read-start schema row (i ∷ []))

  number-low : (i j : ℕ) → LowIn 16384 (null_bad (no_number row i j) (stroke_start row i))
  number-low i j = null-low (no_number row i j) (stroke_start row i) (start-low i)

  nulls-low : LowIn 16384 (nulls_bad row)
  unfolding nulls_bad
  nulls-low =
      low_or 16384 (null_bad (no_stroke row 0) 0) _ (null-low (no_stroke row 0) 0 (omega arith))
      (low_or 16384 (null_bad (no_number row 0 0) (stroke_start row 0)) _ (number-low 0 0)
      (low_or 16384 (null_bad (no_number row 0 1) (stroke_start row 0)) _ (number-low 0 1)
      (low_or 16384 (null_bad (no_number row 1 0) (stroke_start row 1)) _ (number-low 1 0) (number-low 1 1))))

row_low : (row : List ℕ) → LowIn 16384 (row_bad row)
unfolding row_bad
row_low row =
    low-long 16384 row (layout_bad schema row or nulls_bad row)
    (λ h. low_or 16384 (layout_bad schema row) (nulls_bad row) (layout-low 16384 schema row (λ h. h) h) (nulls-low row h))

rows-low : (rows : List (List ℕ)) → LowIn 16384 (rows_bad rows)
unfolding rows_bad
rows-low [] = tt
rows-low (row ∷ rows) = low_or 16384 (row_bad row) (rows_bad rows) (row_low row) (rows-low rows)

log-low : (m : Option (List (List ℕ))) → LowIn 16384 (log_bad m)
log-low m = low_or 16384 (batch_bad m) (rows_bad (or_none m)) (low-unless 16384 (is_some m) 10) (rows-low (or_none m))

held_low : (m : Option Refusal) (need room : ℕ) → LowIn 16384 m → LowSized 16384 (held_after m need room)
held_low (some r) need room l = l
held_low none need room l = go (leb need room)
  where
    go : (v : Bool) → LowSized 16384 (cond v (takes need) (refused_with (numbered 11) 0))
    go true = tt
    go false = tt

pub add_low : (room : List ℕ) (used : ℕ) (c : Chord) (window : ℕ) → LowSized 16384 (add_of room used c window)
unfolding add_of
add_low room used c window =
    held_low (log_bad (lent_rows room used) or window_bad window) (length (log_with room used c window)) (length room)
    (low_or 16384 (log_bad (lent_rows room used)) (window_bad window) (log-low (lent_rows room used)) (low-unless 16384 (leb window 1000) 11))

pub read_low : (log : List ℕ) (room : ℕ) → LowSized 16384 (read_of log room)
unfolding read_of
read_low log room = held_low (log_bad (framed log)) (length (numbers_in log)) room (log-low (framed log))

pub chord-low : (log : List ℕ) (n : ℕ) {r : Refusal} → S.refused r ≡ chord_of log n → Low 16384 r
unfolding chord_of
chord-low log n {r} e =
    go (log_bad (framed log) or chord_missing log n)
    (low_or 16384 (log_bad (framed log)) (chord_missing log n) (log-low (framed log)) (low-unless 16384 (ltb n (length (chords_of (rows_of log)))) 5)) e
  where
    go : (m : Option Refusal) → LowIn 16384 m → S.refused r ≡ chord_after m (get_or (chords_of (rows_of log)) n (chord 0 0)) → Low 16384 r
    go none l q = let z : ◌≡◌ {A = ℕ} 0 1 = cc in absurd (omega arith)
    go (some s) l q = let z : s ≡ r = cc in rw (← z) l
