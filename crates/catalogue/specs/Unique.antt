-- One outcome: whatever two answers, and contents of the lent bytes, an entry's statement allows for the same input are equal.
-- Assumes nothing: these are definitions.
use Rattle.std.specs.Prelude.{◌≡◌, List, ℕ}
use Rattle.layout.specs.Setting.{Setting}
use Rattle.answers.specs.Meaning.{Outcome, outcome_means, Length, Read, read_means}
use Rattle.setting.specs.Writes.{SetAs}
use Rattle.row.specs.Unique.{Same}
use Rattle.catalogue.specs.Entries.{check_at, read_at, set_at}
use Rattle.catalogue.specs.Meaning.{Adds, ListsAt, WritesAt}

pub record Unique : Type 0 where
  pub add : (t s : List ℕ) (r r' : Length) (b b' : List ℕ) → Adds t s r b → Adds t s r' b' → Same r r' b b'
  pub check : (t : List ℕ) (k : ℕ) (row : List ℕ) (r r' : Outcome) → outcome_means r ≡ check_at t k row → outcome_means r' ≡ check_at t k row → r ≡ r'
  pub write : (t : List ℕ) (k : ℕ) (l out : List ℕ) (r r' : Length) (b b' : List ℕ) → WritesAt t k l out r b → WritesAt t k l out r' b'
      → Same r r' b b'
  pub list : (t : List ℕ) (k : ℕ) (row out : List ℕ) (r r' : Length) (b b' : List ℕ) → ListsAt t k row out r b → ListsAt t k row out r' b'
      → Same r r' b b'
  pub read : (t : List ℕ) (k : ℕ) (row p : List ℕ) (r r' : Read) → read_means r ≡ read_at t k row p → read_means r' ≡ read_at t k row p → r ≡ r'
  pub set : (t : List ℕ) (k : ℕ) (row p : List ℕ) (x : Setting) (r r' : Outcome) (b b' : List ℕ) → SetAs (set_at t k row p x) row b r
      → SetAs (set_at t k row p x) row b' r' → Same r r' b b'
