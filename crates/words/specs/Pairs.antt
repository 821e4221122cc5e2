-- Two numbers in one word. Assumes nothing: these are definitions.
use Rattle.std.specs.Prelude.{◌≡◌, ℕ, ◌/◌, ◌%◌, ◌^◌}

unfoldable pub low_in : ℕ → ℕ
low_in r = r % 2 ^ 32

unfoldable pub high_in : ℕ → ℕ
high_in r = r / 2 ^ 32

pub record Paired (low high r : ℕ) : Type 0 where
  pub low-is : low_in r ≡ low
  pub high_is : high_in r ≡ high
