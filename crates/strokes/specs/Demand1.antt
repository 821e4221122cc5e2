-- Demand 1 for logs, as it is read: every answer is a result or one of the numbers that the document gives its entry, and a refusal leaves
-- every lent byte. Assumes nothing: these are definitions.
use Rattle.std.specs.Prelude.{◌≡◌, ℕ, ◌≤◌, List, [], ◌∷◌, length}
use Rattle.layout.specs.Refusals.{Refusal}
use Rattle.layout.specs.Entries.{Sized, takes, refused_with}
use Rattle.row.specs.Demand1.{Told}
use Rattle.chords.specs.declared.Chord.{Chord}
use Rattle.strokes.specs.Entries.{add_of, added_of, read_of, read_into, Reading, is, refused, chord_of}

-- a length within the room; or one of the numbers, with no length
pub data Fills (ns : List ℕ) (room : ℕ) : Sized → Type 0 where
  fills : {n : ℕ} → n ≤ room → Fills ns room (takes n)
  refuses : {r : Refusal} → Told ns r → Fills ns room (refused_with r 0)

-- a chord, or one of the numbers
pub data Strikes (ns : List ℕ) : Reading → Type 0 where
  strikes : {c : Chord} → Strikes ns (is c)
  refuses : {r : Refusal} → Told ns r → Strikes ns (refused r)

abbrev pub filling : List ℕ
filling = 10 ∷ 3 ∷ 7 ∷ 11 ∷ []

pub record Demand1 : Type 0 where
  pub add : (room : List ℕ) (used : ℕ) (c : Chord) (window : ℕ) → Fills filling (length room) (add_of room used c window)
  pub read : (log : List ℕ) (room : ℕ) → Fills filling room (read_of log room)
  pub chord : (log : List ℕ) (n : ℕ) → Strikes (10 ∷ 3 ∷ 7 ∷ 5 ∷ []) (chord_of log n)
  -- a refusal leaves every lent byte
  pub add-leaves : (room : List ℕ) (used : ℕ) (c : Chord) (window : ℕ) (r : Refusal) (k : ℕ) → add_of room used c window ≡ refused_with r k
      → added_of room used c window ≡ room
  pub read-leaves : (log out : List ℕ) (r : Refusal) (k : ℕ) → read_of log (length out) ≡ refused_with r k → read_into log out ≡ out
