-- What `list` answers and leaves in the lent output, both functions of the lent bytes. Assumes nothing: these are definitions.
use Rattle.std.specs.Prelude.{◌≡◌, List, ℕ, length}
use Rattle.layout.specs.Entries.{list_of, listed_of}
use Rattle.answers.specs.Meaning.{Length}
use Rattle.answers.specs.Meaning.{length_means}

-- the answer r, and what the output out holds after
pub record ListsTo (s row out : List ℕ) (r : Length) (out' : List ℕ) : Type 0 where
  pub answers : length_means r ≡ list_of s row (length out)
  pub leaves : out' ≡ listed_of s row out
