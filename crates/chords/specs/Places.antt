-- What the functions of `chords` hand on of a row. Assumes nothing: these are definitions.
use Rattle.std.specs.Prelude.{◌≡◌, Bool, ◌||◌, List, ◌++◌, ℕ}
use Rattle.std.proofs.Math.Option.{none}
use Rattle.words.specs.Bytes.{Bytes, le}
use Rattle.words.specs.Bits.{bit}
use Rattle.layout.specs.Entries.{done, check_of}
use Rattle.chords.specs.declared.Chord.{Chord}
use Rattle.chords.specs.Chords.{schema, row_bad}

-- a row that a check accepts
pub record Checked (row : List ℕ) : Type 0 where
  pub bytes : Bytes row
  pub done : check_of schema row ≡ done

-- a row that a log may have
pub record Keeps (row : List ℕ) : Type 0 where
  pub bytes : Bytes row
  pub sound : row_bad row ≡ none

-- the tick or the keys of the stroke that starts at the byte numbered at is null
abbrev pub lacks : List ℕ → ℕ → Bool
lacks row at = bit row at 0 || bit row at 1

-- a stroke as it lies in a row: no bit of its bitmap, then its tick and its keys, each at the start of its slot
abbrev pub stroke_bytes : Chord → List ℕ
stroke_bytes c = le 8 0 ++ (le 8 c.tick ++ le 8 c.keys)
