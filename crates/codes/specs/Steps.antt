-- The path that lent steps stand for. Assumes nothing: these are definitions.
use Rattle.std.specs.Prelude.{◌≡◌, List, ℕ, ◌<◌, ◌≤◌, length, get_or}
use Rattle.answers.specs.declared.Path.{Path}

-- the path is as long as the steps, of its sixteen the first are theirs, and spare ones are 0; one that is longer leads to no place
pub record Taken (l : List ℕ) (p : Path) : Type 0 where
  pub long : p.len ≡ length l
  pub room : length p.steps ≡ 16
  pub same : (i : ℕ) → i < 16 → i < length l → get_or p.steps i 0 ≡ get_or l i 0
  pub spare : (i : ℕ) → i < 16 → length l ≤ i → get_or p.steps i 0 ≡ 0
