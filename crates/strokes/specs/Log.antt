-- A log: a batch of rows of one or two chords. Assumes nothing: these are definitions.
use Rattle.std.specs.Prelude.{ℕ, ◌+◌, ◌-◌, ◌%◌, ◌^◌, Bool, true, false, cond, ◌&&◌, List, [], ◌∷◌, ◌++◌, nat_le}
use Rattle.std.proofs.Math.Option.{Option, none, some}
use Rattle.layout.specs.Refusals.{Refusal}
use Rattle.layout.specs.Setting.{unless, ◌or◌}
use Rattle.batch.specs.Entries.{or_none, batch_bad}
use Rattle.chords.specs.declared.Chord.{Chord}
use Rattle.chords.specs.Chords.{row_for, no_stroke, chord_at, row_bad}

-- ---- its chords

abbrev pub with_second : Bool → Chord → Chord → List Chord
with_second true c d = c ∷ []
with_second false c d = c ∷ d ∷ []

-- of a row: the first stroke's, and the second's where it is not null
unfoldable pub chords_in : List ℕ → List Chord
chords_in row = with_second (no_stroke row 1) (chord_at row 0) (chord_at row 1)

-- of rows in turn
unfoldable pub chords_of : List (List ℕ) → List Chord
chords_of [] = []
chords_of (row ∷ rows) = chords_in row ++ chords_of rows

-- ---- which logs are accepted

-- each row in turn
unfoldable pub rows_bad : List (List ℕ) → Option Refusal
rows_bad [] = none
rows_bad (row ∷ rows) = row_bad row or rows_bad rows

-- what judges a log: 10, and then 3 and 7 of each row in turn
abbrev pub log_bad : Option (List (List ℕ)) → Option Refusal
log_bad rows = batch_bad rows or rows_bad (or_none rows)

-- ---- adding a chord

-- the difference of two ticks modulo 2^32: the counter starts again at zero
unfoldable pub gap : ℕ → ℕ → ℕ
gap later earlier = (later + 2 ^ 32 - earlier) % 2 ^ 32

-- the row takes a chord of that tick into its second place: that is null, and the gap from its first chord is at most the window
unfoldable pub joins : List ℕ → ℕ → ℕ → Bool
joins row tick window = no_stroke row 1 && nat_le (gap tick (chord_at row 0).tick) window

-- the rows with the chord added to the last one, or behind it in a row of its own
unfoldable pub added : List (List ℕ) → Chord → ℕ → List (List ℕ)
added [] c window = row_for c none ∷ []
added (row ∷ []) c window = cond (joins row c.tick window) (row_for (chord_at row 0) (some c) ∷ []) (row ∷ row_for c none ∷ [])
added (row ∷ (next ∷ rows)) c window = row ∷ added (next ∷ rows) c window

-- 11: the window is over 1,000
abbrev pub window_bad : ℕ → Option Refusal
window_bad window = unless (nat_le window 1000) 11
