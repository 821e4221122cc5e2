-- A row's words, and the plain form of a stroke. Assumes nothing: these are definitions.
use Rattle.std.specs.Prelude.{◌≡◌, ◌⊎◌, Bool, true, List, ℕ, ◌+◌, ◌*◌, ◌^◌, ◌<◌}
use Rattle.words.specs.Bytes.{num, part}

-- the little-endian word from the byte numbered at on
unfoldable pub word_at : List ℕ → ℕ → ℕ
word_at row at = num (part row at 8)

-- a stroke without a null, and nothing behind its numbers
pub record StrokeAt (row : List ℕ) (at : ℕ) : Type 0 where
  pub none : word_at row at ≡ 0
  pub tick : word_at row (at + 8) < 2 ^ 32
  pub keys : word_at row (at + 16) < 2 ^ 32

-- r says exactly whether one stands there
pub record SeesStroke (row : List ℕ) (at : ℕ) (r : Bool) : Type 0 where
  pub there : r ≡ true → StrokeAt row at
  pub seen : StrokeAt row at → r ≡ true

-- the slots of two strokes, of which the first or the second lies first
abbrev pub TwoSlots : ℕ → ℕ → Type 0
TwoSlots x y = ((x ≡ 24 * 2 ^ 32 + 24) × (y ≡ 48 * 2 ^ 32 + 24)) ⊎ ((x ≡ 48 * 2 ^ 32 + 24) × (y ≡ 24 * 2 ^ 32 + 24))
