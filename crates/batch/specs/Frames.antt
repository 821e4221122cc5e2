-- A batch: frames back to back, each a row's size as 4 bytes, big endian, and the row. Assumes nothing: these are definitions.
use Rattle.std.proofs.Math.Option.{Option, none, some}
use Rattle.std.specs.Prelude.{List, [], ◌∷◌, ◌++◌, reverse, ℕ, zero, suc, ◌^◌, ◌<◌, length}
use Rattle.words.specs.Bytes.{le, num}
use Rattle.layout.specs.Reader.{◌>>=◌, cut}

-- x as w big-endian bytes, the highest first
unfoldable pub be : ℕ → ℕ → List ℕ
be w x = reverse (le w x)

-- the number that big-endian bytes stand for
unfoldable pub big : List ℕ → ℕ
big b = num (reverse b)

-- ---- rows to bytes

-- a row in its frame
unfoldable pub frame : List ℕ → List ℕ
frame row = be 4 (length row) ++ row

-- rows in their frames, back to back
unfoldable pub framing : List (List ℕ) → List ℕ
framing [] = []
framing (row ∷ rows) = frame row ++ framing rows

-- a size of 4 bytes can say how long each row is
pub data Framable : List (List ℕ) → Type 0 where
  no_rows : Framable []
  another : {u : List ℕ} {us : List (List ℕ)} → length u < 256 ^ 4 → Framable us → Framable (u ∷ us)

-- ---- bytes to rows

-- the row of the first frame, and what stands behind it; none where the bytes end inside the size or the row
unfoldable pub first : List ℕ → Option (List ℕ × List ℕ)
first b = do
  (size, rest) ← cut 4 b
  cut (big size) rest

-- the frames that make up the bytes, those behind the first taken apart by f
unfoldable pub frames : (List ℕ → Option (List (List ℕ))) → List ℕ → Option (List (List ℕ))
frames f [] = some []
frames f (x ∷ b) = do
  (row, rest) ← first (x ∷ b)
  rows ← f rest
  some (row ∷ rows)

-- in at most n turns
unfoldable pub frames_in : ℕ → List ℕ → Option (List (List ℕ))
frames_in zero b = none
frames_in (suc n) b = frames (frames_in n) b

-- the rows of a batch; none where it ends inside a size or a row. A frame has at least 4 bytes, so the turns are enough.
unfoldable pub framed : List ℕ → Option (List (List ℕ))
framed b = frames_in (suc (length b)) b
