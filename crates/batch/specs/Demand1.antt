-- Demand 1 for batches, as it is read: every answer is a result or one of the numbers that the document gives its entry, and a refusal
-- leaves every lent byte. Assumes nothing: these are definitions.
use Rattle.std.specs.Prelude.{◌≡◌, List, [], ◌∷◌, ℕ, length}
use Rattle.layout.specs.Refusals.{Refusal, numbered}
use Rattle.layout.specs.Setting as S
use Rattle.layout.specs.Setting.{Setting}
use Rattle.layout.specs.Entries as E
use Rattle.row.specs.Demand1.{Told, Fills, Gives, Sets}
use Rattle.batch.specs.Entries as B
use Rattle.batch.specs.Entries.{Fetching, Checking, count_of, fetch_of, check_of, append_of, appended_of, read_of, set_of}

-- a number of rows, or 10
pub data Counts : E.Sized → Type 0 where
  rows : {n : ℕ} → Counts (E.takes n)
  broken : Counts (E.refused_with (numbered 10) 0)

-- a range, or one of the numbers
pub data Finds (ns : List ℕ) : Fetching → Type 0 where
  range : {start len : ℕ} → Finds ns (B.range start len)
  refused : {r : Refusal} → Told ns r → Finds ns (B.refused r)

-- done, one of the numbers ns, or one of the numbers ms with a row's number
pub data Checks (ns ms : List ℕ) : Checking → Type 0 where
  done : Checks ns ms B.done
  refused : {r : Refusal} → Told ns r → Checks ns ms (B.refused r)
  refused_row : {k : ℕ} {r : Refusal} → Told ms r → Checks ns ms (B.refused_row k r)

abbrev pub fetch_numbers : List ℕ
fetch_numbers = 1 ∷ 10 ∷ 5 ∷ 3 ∷ 7 ∷ []

abbrev pub read_numbers : List ℕ
read_numbers = 1 ∷ 10 ∷ 5 ∷ 3 ∷ 6 ∷ 7 ∷ []

abbrev pub set_numbers : List ℕ
set_numbers = 1 ∷ 10 ∷ 5 ∷ 3 ∷ 7 ∷ 6 ∷ 8 ∷ 9 ∷ []

pub record Demand1 : Type 0 where
  pub count : (b : List ℕ) → Counts (count_of b)
  pub fetch : (s b : List ℕ) (k : ℕ) → Finds fetch_numbers (fetch_of s b k)
  pub check : (s b : List ℕ) → Checks (1 ∷ 10 ∷ []) (3 ∷ 7 ∷ []) (check_of s b)
  pub append : (s room : List ℕ) (used : ℕ) (row : List ℕ) → Fills (1 ∷ 10 ∷ 3 ∷ 7 ∷ []) (length room) (append_of s room used row)
  pub read : (s b : List ℕ) (k : ℕ) (p : List ℕ) → Gives read_numbers (read_of s b k p)
  pub set : (s b : List ℕ) (k : ℕ) (p : List ℕ) (x : Setting) → Sets set_numbers (set_of s b k p x)
  -- a refusal leaves every lent byte
  pub append-leaves : (s room : List ℕ) (used : ℕ) (row : List ℕ) (r : Refusal) (k : ℕ) → append_of s room used row ≡ E.refused_with r k
      → appended_of s room used row ≡ room
  pub set-leaves : (s b : List ℕ) (k : ℕ) (p : List ℕ) (x : Setting) (r : Refusal) → set_of s b k p x ≡ S.refuses r → E.row_after (set_of s b k p x) b ≡ b
