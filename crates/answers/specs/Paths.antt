-- The steps of a path. Assumes nothing: these are definitions.
use Rattle.std.specs.Prelude.{List, ℕ, ◌<◌, take}
use Rattle.words.specs.Bytes.{fill}
use Rattle.answers.specs.declared.Path.{Path}

-- its first len numbers; a path of over 16 steps is as long as it says, with zeros behind the sixteen
unfoldable pub path_of : Path → List ℕ
unfolding fill
path_of p = fill p.len (take p.len p.steps)

-- step k is one of the sixteen, and of the path
pub record Reached (p : Path) (k : ℕ) : Type 0 where
  pub held : k < 16
  pub counts : k < p.len
