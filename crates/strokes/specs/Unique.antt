-- One outcome: whatever two answers, and contents of the lent bytes, an entry's statement allows for the same input are equal.
-- Assumes nothing: these are definitions.
use Rattle.std.specs.Prelude.{◌≡◌, ℕ, List, Result}
use Rattle.answers.specs.Meaning.{Length}
use Rattle.row.specs.Unique.{Same}
use Rattle.chords.specs.declared.Chord.{Chord}
use Rattle.answers.specs.declared.Refusal.{Refusal}
use Rattle.strokes.specs.Entries.{chord_of}
use Rattle.strokes.specs.Meaning.{Adds, ReadsAll, chord_means}

pub record Unique : Type 0 where
  pub add : (room : List ℕ) (used : ℕ) (c : Chord) (window : ℕ) (r r' : Length) (b b' : List ℕ) → Adds room used c window r b
      → Adds room used c window r' b' → Same r r' b b'
  pub read : (log out : List ℕ) (r r' : Length) (u u' : List ℕ) → ReadsAll log out r u → ReadsAll log out r' u' → Same r r' u u'
  pub chord : (log : List ℕ) (n : ℕ) (r r' : Result Chord Refusal) → chord_means r ≡ chord_of log n → chord_means r' ≡ chord_of log n → r ≡ r'
