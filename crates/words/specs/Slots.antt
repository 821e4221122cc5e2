-- What the slot at a position says: the offset in its upper 32 bits, the size in its lower 32. Assumes nothing: these are definitions.
use Rattle.std.specs.Prelude.{◌≡◌, List, ℕ, ◌/◌, ◌%◌, ◌^◌, ◌<◌}
use Rattle.words.specs.Bytes.{num, part}

pub record Offset (b : List ℕ) (at r : ℕ) : Type 0 where
  pub is : r ≡ num (part b at 8) / 2 ^ 32
  pub below : r < 2 ^ 32

pub record Size (b : List ℕ) (at r : ℕ) : Type 0 where
  pub is : r ≡ num (part b at 8) % 2 ^ 32
  pub below : r < 2 ^ 32
