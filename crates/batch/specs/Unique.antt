-- One outcome: whatever two answers, and contents of the lent bytes, an entry's statement allows for the same input are equal.
-- Assumes nothing: these are definitions.
use Rattle.std.specs.Prelude.{◌≡◌, List, ℕ, Result}
use Rattle.layout.specs.Setting.{Setting}
use Rattle.answers.specs.Meaning.{Outcome, Length, Read, read_means}
use Rattle.setting.specs.Writes.{SetAs}
use Rattle.row.specs.Unique.{Same}
use Rattle.answers.specs.declared.Refusal.{Refusal}
use Rattle.batch.specs.declared.Fetched.{Fetched}
use Rattle.batch.specs.declared.Fault.{Fault}
use Rattle.batch.specs.Entries.{count_of, fetch_of, check_of, read_of, set_of}
use Rattle.batch.specs.Meaning.{count_means, fetch_means, check_means, Appends}

pub record Unique : Type 0 where
  pub count : (b : List ℕ) (r r' : Length) → count_means r ≡ count_of b → count_means r' ≡ count_of b → r ≡ r'
  pub fetch : (s b : List ℕ) (k : ℕ) (r r' : Result Fetched Refusal) → fetch_means r ≡ fetch_of s b k → fetch_means r' ≡ fetch_of s b k → r ≡ r'
  pub check : (s b : List ℕ) (r r' : Result (Unit {0}) Fault) → check_means r ≡ check_of s b → check_means r' ≡ check_of s b → r ≡ r'
  pub append : (s room : List ℕ) (used : ℕ) (row : List ℕ) (r r' : Length) (b b' : List ℕ) → Appends s room used row r b
      → Appends s room used row r' b' → Same r r' b b'
  pub read : (s b : List ℕ) (k : ℕ) (p : List ℕ) (r r' : Read) → read_means r ≡ read_of s b k p → read_means r' ≡ read_of s b k p → r ≡ r'
  pub set : (s b : List ℕ) (k : ℕ) (p : List ℕ) (x : Setting) (r r' : Outcome) (u u' : List ℕ) → SetAs (set_of s b k p x) b u r
      → SetAs (set_of s b k p x) b u' r' → Same r r' u u'
