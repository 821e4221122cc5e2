-- Worked logs: the counter starts again at zero between two chords. Assumes nothing: these are definitions.
use Rattle.std.specs.Prelude.{◌≡◌, ℕ, List, [], ◌∷◌, ◌++◌}
use Rattle.words.specs.Bytes.{zeros}
use Rattle.layout.specs.Refusals.{numbered, broken_at}
use Rattle.layout.specs.Entries.{takes, refused_with}
use Rattle.chords.specs.declared.Chord.{Chord}
use Rattle.chords.specs.Chords.{chord}
use Rattle.strokes.specs.Entries.{add_of, added_of, read_of, read_into, is, refused, chord_of}

abbrev last : Chord
last = chord 0xffffffff 5

abbrev first : Chord
first = chord 0 6

-- the size of a frame, the fixed part of a row with its bitmap's first byte and its second slot, and a stroke with its bitmap's first byte
abbrev size : ℕ → List ℕ
size n = 0 ∷ 0 ∷ 0 ∷ n ∷ []

abbrev slot_at : ℕ → List ℕ
slot_at o = 24 ∷ 0 ∷ 0 ∷ 0 ∷ o ∷ 0 ∷ 0 ∷ 0 ∷ []

abbrev last_stroke : ℕ → List ℕ
last_stroke bits = (bits ∷ zeros 7) ++ ((255 ∷ 255 ∷ 255 ∷ 255 ∷ zeros 4) ++ (5 ∷ zeros 7))

abbrev first_stroke : List ℕ
first_stroke = zeros 16 ++ (6 ∷ zeros 7)

-- a row of one chord, of the bits and the bytes under the null that are said; and of both
abbrev one_of : ℕ → ℕ → List ℕ → List ℕ
one_of row_bits bits under = (row_bits ∷ zeros 7) ++ (slot_at 24 ++ (under ++ last_stroke bits))

abbrev one : List ℕ
one = size 48 ++ one_of 2 0 (zeros 8)

abbrev both : List ℕ
both = size 72 ++ (zeros 8 ++ (slot_at 24 ++ (slot_at 48 ++ (last_stroke 0 ++ first_stroke))))

-- the same chords, the second one's stroke first
abbrev crossed : List ℕ
crossed = size 72 ++ (zeros 8 ++ (slot_at 48 ++ (slot_at 24 ++ (first_stroke ++ last_stroke 0))))

-- a row whose first stroke is null, and its second is not
abbrev headless : List ℕ
headless = size 48 ++ ((1 ∷ zeros 7) ++ (zeros 8 ++ (slot_at 24 ++ last_stroke 0)))

pub record Table : Type 0 where
  -- a row of its own; bytes behind stay
  pub starts : (add_of (7 ∷ zeros 52) 0 last 1000 ≡ takes 52) × (added_of (7 ∷ zeros 52) 0 last 1000 ≡ one ++ (0 ∷ []))
  -- the gap from FFFFFFFF to 0 is 1: within a window of 1, not of 0
  pub joins : (add_of (one ++ zeros 25) 52 first 1 ≡ takes 76) × (added_of (one ++ zeros 25) 52 first 1 ≡ both ++ (0 ∷ []))
  pub parts : (add_of (one ++ zeros 52) 52 first 0 ≡ takes 104) × (add_of (both ++ zeros 52) 76 first 1000 ≡ takes 128)
  -- a room that is one byte short, of either kind; a window over 1,000; 10 comes before
  pub short : (add_of (one ++ zeros 23) 52 first 1 ≡ refused_with (numbered 11) 0) × (add_of (zeros 51) 0 last 1 ≡ refused_with (numbered 11) 0)
      × (add_of (zeros 52) 0 last 1001 ≡ refused_with (numbered 11) 0) × (add_of (zeros 52) 3 last 1001 ≡ refused_with (numbered 10) 0)
  pub reads : (read_of both 4 ≡ takes 4) × (read_into both (9 ∷ 9 ∷ 9 ∷ 9 ∷ 9 ∷ []) ≡ 0xffffffff ∷ 5 ∷ 0 ∷ 6 ∷ 9 ∷ [])
      × (read_of both 3 ≡ refused_with (numbered 11) 0) × (read_of [] 0 ≡ takes 0)
  pub asks : (chord_of both 0 ≡ is last) × (chord_of both 1 ≡ is first) × (chord_of both 2 ≡ refused (numbered 5)) × (chord_of crossed 1 ≡ is first)
  -- what lies under the null is not looked at
  pub under : chord_of (size 48 ++ one_of 2 0 (1 ∷ 2 ∷ 3 ∷ 4 ∷ 5 ∷ 6 ∷ 7 ∷ 8 ∷ [])) 0 ≡ is last
  -- 7 where a bit says null, at the byte that has it
  pub nulls : (chord_of headless 0 ≡ refused (broken_at 0)) × (chord_of (size 48 ++ one_of 2 1 (zeros 8)) 0 ≡ refused (broken_at 24))
      × (read_of (one ++ (size 48 ++ one_of 2 2 (zeros 8))) 9 ≡ refused_with (broken_at 24) 0)
