-- What the functions of `strokes` hand on of a log. Assumes nothing: these are definitions.
use Rattle.std.specs.Prelude.{Result, Ok, Err, ◌≡◌, ℕ, ◌+◌, ◌*◌, ◌≤◌, List, [], ◌∷◌, length}
use Rattle.std.proofs.Math.Option.{none, some}
use Rattle.words.specs.Bytes.{Bytes}
use Rattle.layout.specs.Entries.{filled}
use Rattle.answers.specs.declared.Refusal.{Refusal}
use Rattle.answers.specs.Meaning.{Length, refusal_means, length_of, length_means}
use Rattle.batch.specs.Frames.{frame, framing, framed}
use Rattle.batch.specs.Entries.{rows_of, framed_at}
use Rattle.batch.specs.Places.{Passed}
use Rattle.chords.specs.declared.Chord.{Chord}
use Rattle.strokes.specs.declared.Judged.{Judged}
use Rattle.strokes.specs.Log.{chords_of, rows_bad, log_bad, added}
use Rattle.strokes.specs.Entries.{held_after}

-- a row put in its frame from the byte numbered at on: the answer r, which is 11 where the room can't hold it, and what the room holds after
pub record PutsFrame (room : List ℕ) (at : ℕ) (row : List ℕ) (r : Length) (room' : List ℕ) : Type 0 where
  pub answers : length_means r ≡ held_after none (at + length (frame row)) (length room)
  pub leaves : room' ≡ framed_at (held_after none (at + length (frame row)) (length room)) room at row

-- all rows but the last
unfoldable pub but_last : List (List ℕ) → List (List ℕ)
but_last [] = []
but_last (row ∷ []) = []
but_last (row ∷ (next ∷ rows)) = row ∷ but_last (next ∷ rows)

-- a log that is accepted
pub record Sound (log : List ℕ) : Type 0 where
  pub bytes : Bytes log
  pub rows : List (List ℕ)
  pub is : framed log ≡ some rows
  pub sound : rows_bad rows ≡ none

-- and the frame of its last row starts at the byte numbered last
pub record Ends (log : List ℕ) (last : ℕ) : Type 0 where
  pub sound : Sound log
  pub begins : length (framing (but_last sound.rows)) ≡ last

-- and it has count chords
pub record InOrder (log : List ℕ) (last count : ℕ) : Type 0 where
  pub ends : Ends log last
  pub counts : length (chords_of (rows_of log)) ≡ count
  pub few : 2 * count ≤ length log

-- what judging a log comes to
pub data JudgedAs (log : List ℕ) : Result Judged Refusal → Type 0 where
  is_sound : {j : Judged} → InOrder log j.last j.count → JudgedAs log (Ok j)
  is_refused : {r : Refusal} → log_bad (framed log) ≡ some (refusal_means r) → length_of r ≡ 0 → JudgedAs log (Err r)

-- n frames end at the byte numbered end, the rows before the last are as a log may have them, and the last is refused with r
pub record RefusedAt (log : List ℕ) (end n : ℕ) (r : Refusal) : Type 0 where
  pub passed : Passed log end n
  pub refused : rows_bad passed.rows ≡ some (refusal_means r)
  pub none : length_of r ≡ 0

-- a chord added to the log that the first used bytes of a room are: the answer r, and what the room holds after
pub record AddsTo (room : List ℕ) (rows : List (List ℕ)) (c : Chord) (window : ℕ) (r : Length) (room' : List ℕ) : Type 0 where
  pub answers : length_means r ≡ held_after none (length (framing (added rows c window))) (length room)
  pub leaves : room' ≡ filled (held_after none (length (framing (added rows c window))) (length room)) (framing (added rows c window)) room
