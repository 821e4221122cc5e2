-- What holds of logs, as it is read. Assumes nothing: these are definitions.
use Rattle.std.specs.Prelude.{◌≡◌, ℕ, ◌+◌, ◌*◌, ◌%◌, ◌^◌, ◌<◌, ◌≤◌, List, [], ◌∷◌, ◌++◌, map, length, take, drop, slice_index, slice_index_or}
use Rattle.std.proofs.Math.Option.{none, some}
use Rattle.words.specs.Bytes.{Bytes}
use Rattle.layout.specs.Refusals.{Refusal, numbered}
use Rattle.layout.specs.Entries.{takes, refused_with}
use Rattle.layout.specs.Demand2.{Writes}
use Rattle.batch.specs.Frames.{framing, framed}
use Rattle.batch.specs.Entries as B
use Rattle.chords.specs.declared.Chord.{Chord}
use Rattle.chords.specs.Chords.{chord, Proper, schema, listed, row_for}
use Rattle.strokes.specs.Log.{log_bad, gap}
use Rattle.strokes.specs.Entries.{add_of, added_of, numbers_of, read_of, read_into, is, refused, chord_of}
use Rattle.strokes.specs.Places.{but_last}

-- a chord, and the window that was given with it
pub record Given : Type 0 where
  pub chord : Chord
  pub window : ℕ

abbrev pub chords_of_all : List Given → List Chord
chords_of_all gs = map (λ g. g.chord) gs

pub data AllProper : List Given → Type 0 where
  nothing : AllProper []
  another : {g : Given} {gs : List Given} → Proper g.chord → AllProper gs → AllProper (g ∷ gs)

-- Chords added in turn to the log that the first used bytes of a room are leave a log of used' bytes in room': those that were accepted, in
-- order. One that is refused, wherever in the run, is none of them.
pub data Run : List ℕ → ℕ → List Given → List ℕ → ℕ → Type 0 where
  stay : {room : List ℕ} {used : ℕ} → Run room used [] room used
  next : {room room' : List ℕ} {used n used' : ℕ} {g : Given} {gs : List Given} → add_of room used g.chord g.window ≡ takes n
      → Run (added_of room used g.chord g.window) n gs room' used' → Run room used (g ∷ gs) room' used'
  turned : {room room' : List ℕ} {used used' k : ℕ} {r : Refusal} {gs : List Given} (g : Given) → add_of room used g.chord g.window ≡ refused_with r k
      → Run (added_of room used g.chord g.window) used gs room' used' → Run room used gs room' used'

-- Reading the log gives these chords, each once, in order: all of them, into any numbers that are enough, and each by its number.
pub record Gives (log : List ℕ) (cs : List Chord) : Type 0 where
  pub all : (out : List ℕ) → 2 * length cs ≤ length out → read_of log (length out) ≡ takes (2 * length cs)
  pub numbers : (out : List ℕ) → 2 * length cs ≤ length out → read_into log out ≡ numbers_of cs ++ drop (2 * length cs) out
  pub each : (n : ℕ) → n < length cs → chord_of log n ≡ is (slice_index_or cs n (chord 0 0))
  pub past : (n : ℕ) → length cs ≤ n → chord_of log n ≡ refused (numbered 5)

-- Rows that hold the chords of a run in order, each what writing gives for one of them or for two, of which the second's gap from the first
-- is at most the window that was given with it.
pub data Made : List Given → List (List ℕ) → Type 0 where
  no_rows : Made [] []
  one : {g : Given} {gs : List Given} {rows : List (List ℕ)} → Made gs rows → Made (g ∷ gs) (row_for g.chord none ∷ rows)
  two : {g h : Given} {gs : List Given} {rows : List (List ℕ)} → gap h.chord.tick g.chord.tick ≤ h.window → Made gs rows
      → Made (g ∷ h ∷ gs) (row_for g.chord (some h.chord) ∷ rows)

-- the log that a run made
pub record MadeOf (log : List ℕ) (gs : List Given) : Type 0 where
  pub rows : List (List ℕ)
  pub is : framed log ≡ some rows
  pub made : Made gs rows

-- A chord added to a log: it was accepted, and reads as before with the chord behind. Nothing ahead of its last row, and nothing behind the
-- new end, has changed.
pub record Appended (room : List ℕ) (used : ℕ) (c : Chord) (n : ℕ) (room' : List ℕ) : Type 0 where
  pub before : List Chord
  pub was : Gives (take used room) before
  pub now : Gives (take n room') (before ++ (c ∷ []))
  pub ahead : (i : ℕ) → i < length (framing (but_last (B.rows_of (take used room)))) → slice_index room' i ≡ slice_index room i
  pub behind : (i : ℕ) → n ≤ i → slice_index room' i ≡ slice_index room i

pub record Kept : Type 0 where
  -- for any run of accepted chords from the empty log, whatever their windows, reading gives those chords, each once, in order
  pub run : (room : List ℕ) (gs : List Given) (room' : List ℕ) (used' : ℕ) → Bytes room → AllProper gs → Run room 0 gs room' used'
      → Gives (take used' room') (chords_of_all gs)
  -- its rows are what writing gives, and a row's two chords lie within the window that was given
  pub rows : (room : List ℕ) (gs : List Given) (room' : List ℕ) (used' : ℕ) → Bytes room → AllProper gs → Run room 0 gs room' used'
      → MadeOf (take used' room') gs
  pub writes_one : (c : Chord) → Proper c → Writes schema (listed c none) (row_for c none)
  pub writes-two : (c d : Chord) → Proper c → Proper d → Writes schema (listed c (some d)) (row_for c (some d))
  -- adding to any accepted log appends that chord to what it reads, wherever the log comes from
  pub adds : (room : List ℕ) (used : ℕ) (c : Chord) (window n : ℕ) → Bytes room → Proper c → add_of room used c window ≡ takes n
      → Appended room used c n (added_of room used c window)
  -- an accepted log is an accepted batch of its schema
  pub batch : (log : List ℕ) → log_bad (framed log) ≡ none → B.check_of schema log ≡ B.done
  -- a gap is the difference modulo 2^32
  pub gap_below : (later earlier : ℕ) → gap later earlier < 2 ^ 32
  pub gap_back : (later earlier : ℕ) → later < 2 ^ 32 → earlier < 2 ^ 32 → (gap later earlier + earlier) % 2 ^ 32 ≡ later
