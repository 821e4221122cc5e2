-- Demand 1 for catalogues, as it is read: every answer is a result or one of the numbers that the document gives its entry, and a refusal
-- leaves every lent byte. Assumes nothing: these are definitions.
use Rattle.std.specs.Prelude.{◌≡◌, List, [], ◌∷◌, ℕ, ◌≤◌, ◌<◌, length}
use Rattle.layout.specs.Refusals.{Refusal, broken_at}
use Rattle.layout.specs.Reading as R
use Rattle.layout.specs.Setting as S
use Rattle.layout.specs.Setting.{Setting}
use Rattle.layout.specs.Entries as E
use Rattle.layout.specs.Entries.{row_after}
use Rattle.row.specs.Demand1.{Told, Ends, Fills, Gives, Sets}
use Rattle.catalogue.specs.Entries.{Numbering, given, refused, add_of, added_of, check_at, read_at, set_at, list_at, listed_at, write_at, written_at}

-- a number below 16, or one of the numbers
pub data Numbers (ns : List ℕ) : Numbering → Type 0 where
  numbers : {n : ℕ} → n < 16 → Numbers ns (given n)
  refuses : {r : Refusal} → Told ns r → Numbers ns (refused r)

pub record Demand1 : Type 0 where
  pub add : (t s : List ℕ) → Numbers (1 ∷ 12 ∷ []) (add_of t s)
  pub check : (t : List ℕ) (k : ℕ) (row : List ℕ) → Ends (13 ∷ 1 ∷ 3 ∷ 7 ∷ []) (check_at t k row)
  pub write : (t : List ℕ) (k : ℕ) (l : List ℕ) (room : ℕ) → Fills (13 ∷ 1 ∷ 2 ∷ 3 ∷ []) room (write_at t k l room)
  pub list : (t : List ℕ) (k : ℕ) (row : List ℕ) (room : ℕ) → Fills (13 ∷ 1 ∷ 3 ∷ 7 ∷ []) room (list_at t k row room)
  pub read : (t : List ℕ) (k : ℕ) (row p : List ℕ) → Gives (13 ∷ 1 ∷ 3 ∷ 5 ∷ 6 ∷ 7 ∷ []) (read_at t k row p)
  pub set : (t : List ℕ) (k : ℕ) (row p : List ℕ) (x : Setting) → Sets (13 ∷ 1 ∷ 3 ∷ 7 ∷ 5 ∷ 6 ∷ 8 ∷ 9 ∷ []) (set_at t k row p x)
  -- the place of a 7 is a byte of the row, or its end
  pub check-place : (t : List ℕ) (k : ℕ) (row : List ℕ) (q : ℕ) → check_at t k row ≡ E.refused (broken_at q) → q ≤ length row
  pub list-place : (t : List ℕ) (k : ℕ) (row : List ℕ) (room q n : ℕ) → list_at t k row room ≡ E.refused_with (broken_at q) n → q ≤ length row
  pub read-place : (t : List ℕ) (k : ℕ) (row p : List ℕ) (q : ℕ) → read_at t k row p ≡ R.refused (broken_at q) → q ≤ length row
  pub set-place : (t : List ℕ) (k : ℕ) (row p : List ℕ) (x : Setting) (q : ℕ) → set_at t k row p x ≡ S.refuses (broken_at q) → q ≤ length row
  -- a refusal leaves every lent byte
  pub add-leaves : (t s : List ℕ) (r : Refusal) → add_of t s ≡ refused r → added_of t s ≡ t
  pub write-leaves : (t : List ℕ) (k : ℕ) (l out : List ℕ) (r : Refusal) (n : ℕ) → write_at t k l (length out) ≡ E.refused_with r n
      → written_at t k l out ≡ out
  pub list-leaves : (t : List ℕ) (k : ℕ) (row out : List ℕ) (r : Refusal) (n : ℕ) → list_at t k row (length out) ≡ E.refused_with r n
      → listed_at t k row out ≡ out
  pub set-leaves : (t : List ℕ) (k : ℕ) (row p : List ℕ) (x : Setting) (r : Refusal) → set_at t k row p x ≡ S.refuses r
      → row_after (set_at t k row p x) row ≡ row
