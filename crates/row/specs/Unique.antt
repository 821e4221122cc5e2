-- One outcome: whatever two answers, and contents of the lent bytes, an entry's statement allows for the same input are equal.
-- Assumes nothing: these are definitions.
use Rattle.std.specs.Prelude.{◌≡◌, List, ℕ}
use Rattle.std.specs.Borrow.{Bor}
use Rattle.layout.specs.Setting.{Setting}
use Rattle.layout.specs.Entries.{judge_of, check_of, read_of, set_of}
use Rattle.answers.specs.Meaning.{Outcome}
use Rattle.answers.specs.Meaning.{Length}
use Rattle.answers.specs.Meaning.{outcome_means, Read, read_means}
use Rattle.reading.specs.Texts.{TextOf}
use Rattle.setting.specs.Writes.{SetAs}
use Rattle.engine.specs.Lists.{ListsTo}
use Rattle.row.specs.declared.Opened.{Opened}
use Rattle.row.specs.Outcomes.{WritesTo}

-- an answer, and what the lent bytes hold after
pub record Same {A : Type 0} (r r' : A) (b b' : List ℕ) : Type 0 where
  pub answer : r ≡ r'
  pub bytes : b ≡ b'

-- the same place in memory with the same bytes: all that a program sees of a slice
pub record SamePlace (r r' : Bor (List ℕ)) : Type 0 where
  pub block : r.ref_ptr.0 ≡ r'.ref_ptr.0
  pub place : r.ref_ptr.1 ≡ r'.ref_ptr.1
  pub bytes : r.now ≡ r'.now

pub record Unique : Type 0 where
  pub judge : (s : List ℕ) (r r' : Outcome) → outcome_means r ≡ judge_of s → outcome_means r' ≡ judge_of s → r ≡ r'
  pub check : (s row : List ℕ) (r r' : Outcome) → outcome_means r ≡ check_of s row → outcome_means r' ≡ check_of s row → r ≡ r'
  pub write : (s l out : List ℕ) (r r' : Length) (b b' : List ℕ) → WritesTo s l out r b → WritesTo s l out r' b' → Same r r' b b'
  pub list : (s row out : List ℕ) (r r' : Length) (b b' : List ℕ) → ListsTo s row out r b → ListsTo s row out r' b' → Same r r' b b'
  -- and so does `ask`, whose statement is the same
  pub read : (s row p : List ℕ) (r r' : Read) → read_means r ≡ read_of s row p → read_means r' ≡ read_of s row p → r ≡ r'
  pub set : (s row p : List ℕ) (x : Setting) (r r' : Outcome) (b b' : List ℕ) → SetAs (set_of s row p x) row b r → SetAs (set_of s row p x) row b' r'
      → Same r r' b b'
  pub text-or : (s p : List ℕ) (row other r r' : Bor (List ℕ)) → TextOf (read_of s row.now p) row other r → TextOf (read_of s row.now p) row other r'
      → SamePlace r r'
  pub opened : (schema row : Bor (List ℕ)) (r r' : Opened) → (r.schema ≡ schema) × (r.row ≡ row) → (r'.schema ≡ schema) × (r'.row ≡ row) → r ≡ r'
