-- What each entry answers, as a function of the lent bytes: its refusals in the document's order, and then the result; and what the lent
-- room holds after. Assumes nothing: these are definitions.
use Rattle.std.specs.Prelude.{ℕ, cond, List, [], ◌∷◌, length, nat_le, nat_lt, slice_index_or}
use Rattle.std.proofs.Math.Option.{Option, none, some}
use Rattle.layout.specs.Refusals.{Refusal, numbered}
use Rattle.layout.specs.Setting.{unless, ◌or◌}
use Rattle.layout.specs.Entries.{Sized, takes, refused_with, filled}
use Rattle.batch.specs.Frames.{framing, framed}
use Rattle.batch.specs.Entries.{or_none, rows_of, lent_rows}
use Rattle.chords.specs.declared.Chord.{Chord}
use Rattle.chords.specs.Chords.{chord}
use Rattle.strokes.specs.Log.{chords_of, log_bad, added, window_bad}

-- 11: the lent room can't hold the result. No refusal of a log has a length.
abbrev pub held_after : Option Refusal → ℕ → ℕ → Sized
held_after (some r) need room = refused_with r 0
held_after none need room = cond (nat_le need room) (takes need) (refused_with (numbered 11) 0)

-- ---- adding a chord to the log that the first `used` bytes of a lent room are

-- the log with the chord
unfoldable pub log_with : List ℕ → ℕ → Chord → ℕ → List ℕ
log_with room used c window = framing (added (or_none (lent_rows room used)) c window)

unfoldable pub add_of : List ℕ → ℕ → Chord → ℕ → Sized
add_of room used c window = held_after (log_bad (lent_rows room used) or window_bad window) (length (log_with room used c window)) (length room)

-- the room begins with the new log, and its rest stays; after a refusal all as it was
unfoldable pub added_of : List ℕ → ℕ → Chord → ℕ → List ℕ
added_of room used c window = filled (add_of room used c window) (log_with room used c window) room

-- ---- reading all chords: tick, keys, tick, keys ..

unfoldable pub numbers_of : List Chord → List ℕ
numbers_of [] = []
numbers_of (c ∷ cs) = c.tick ∷ c.keys ∷ numbers_of cs

-- the numbers that the log holds
abbrev pub numbers_in : List ℕ → List ℕ
numbers_in log = numbers_of (chords_of (rows_of log))

unfoldable pub read_of : List ℕ → ℕ → Sized
read_of log room = held_after (log_bad (framed log)) (length (numbers_in log)) room

unfoldable pub read_into : List ℕ → List ℕ → List ℕ
read_into log out = filled (read_of log (length out)) (numbers_in log) out

-- ---- reading chord n

-- a chord, or a refusal
pub data Reading : Type 0 where
  is : Chord → Reading
  refused : Refusal → Reading

abbrev pub chord_after : Option Refusal → Chord → Reading
chord_after none c = is c
chord_after (some r) c = refused r

-- 5: no chord of that number
abbrev pub chord_missing : List ℕ → ℕ → Option Refusal
chord_missing log n = unless (nat_lt n (length (chords_of (rows_of log)))) 5

unfoldable pub chord_of : List ℕ → ℕ → Reading
chord_of log n = chord_after (log_bad (framed log) or chord_missing log n) (slice_index_or (chords_of (rows_of log)) n (chord 0 0))
