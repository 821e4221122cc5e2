-- What the entries' answers mean, by the document's numbers. Assumes nothing: these are definitions.
use Rattle.std.specs.Prelude.{Ok, Err, ◌≡◌, ℕ, List, length, Result}
use Rattle.answers.specs.Meaning.{Length, refusal_means, length_means}
use Rattle.answers.specs.declared.Refusal.{Refusal}
use Rattle.chords.specs.declared.Chord.{Chord}
use Rattle.strokes.specs.Entries.{add_of, added_of, read_of, read_into, Reading}
use Rattle.strokes.specs.Entries as S

-- add: the answer r, and what the room holds after
pub record Adds (room : List ℕ) (used : ℕ) (c : Chord) (window : ℕ) (r : Length) (room' : List ℕ) : Type 0 where
  pub answers : length_means r ≡ add_of room used c window
  pub leaves : room' ≡ added_of room used c window

-- read: the answer r, and what the lent numbers hold after
pub record ReadsAll (log out : List ℕ) (r : Length) (out' : List ℕ) : Type 0 where
  pub answers : length_means r ≡ read_of log (length out)
  pub leaves : out' ≡ read_into log out

-- chord: a chord, or a refusal
abbrev pub chord_means : Result Chord Refusal → Reading
chord_means (Ok c) = S.is c
chord_means (Err r) = S.refused (refusal_means r)
