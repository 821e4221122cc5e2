-- Demand 1, as it is read: every answer is a result or one of the numbers that the document gives its entry, and a refusal leaves every
-- lent byte. Assumes nothing: these are definitions.
use Rattle.std.specs.Prelude.{◌≡◌, ◌≢◌, Bool, List, [], ◌∷◌, ℕ, ◌≤◌, ◌<◌, ℤ, length}
use Rattle.layout.specs.Refusals.{Refusal, numbered, broken_at}
use Rattle.layout.specs.Reading as R
use Rattle.layout.specs.Reading.{Answer}
use Rattle.layout.specs.Setting as S
use Rattle.layout.specs.Setting.{Setting, Outcome}
use Rattle.layout.specs.Entries as E
use Rattle.layout.specs.Entries.{Verdict, Sized, judge_of, check_of, write_of, written_of, list_of, listed_of, read_of, set_of, row_after}

pub data OneOf : List ℕ → ℕ → Type 0 where
  here : {n : ℕ} {ns : List ℕ} → OneOf (n ∷ ns) n
  there : {m n : ℕ} {ns : List ℕ} → OneOf ns n → OneOf (m ∷ ns) n

-- one of the numbers; 7 comes with its place, and no other has one
pub data Told (ns : List ℕ) : Refusal → Type 0 where
  number : {n : ℕ} → OneOf ns n → n ≢ 7 → Told ns (numbered n)
  place : {p : ℕ} → OneOf ns 7 → Told ns (broken_at p)

-- done, or one of the numbers
pub data Ends (ns : List ℕ) : Verdict → Type 0 where
  done : Ends ns E.done
  refused : {r : Refusal} → Told ns r → Ends ns (E.refused r)

-- a length within the room; or one of the numbers, with the length 0; or 4, with the length needed, which is over the room
pub data Fills (ns : List ℕ) (room : ℕ) : Sized → Type 0 where
  takes : {n : ℕ} → n ≤ room → Fills ns room (E.takes n)
  refused : {r : Refusal} → Told ns r → Fills ns room (E.refused_with r 0)
  short : {n : ℕ} → room < n → Fills ns room (E.refused_with (numbered 4) n)

-- a value, or one of the numbers
pub data Gives (ns : List ℕ) : Answer → Type 0 where
  null : Gives ns R.null
  bool : {v : Bool} → Gives ns (R.bool v)
  signed : {z : ℤ} → Gives ns (R.signed z)
  float32 : {n : ℕ} → Gives ns (R.float32 n)
  float64 : {n : ℕ} → Gives ns (R.float64 n)
  bytes : {o n : ℕ} → Gives ns (R.bytes o n)
  container : {o n k : ℕ} → Gives ns (R.container o n k)
  refused : {r : Refusal} → Told ns r → Gives ns (R.refused r)

-- a row, or one of the numbers
pub data Sets (ns : List ℕ) : Outcome → Type 0 where
  becomes : {row' : List ℕ} → Sets ns (S.becomes row')
  refused : {r : Refusal} → Told ns r → Sets ns (S.refuses r)

-- what reading gives
abbrev pub ReadGives : Answer → Type 0
ReadGives = Gives (1 ∷ 3 ∷ 5 ∷ 6 ∷ 7 ∷ [])

pub record Demand1 : Type 0 where
  pub judge : (s : List ℕ) → Ends (1 ∷ []) (judge_of s)
  pub check : (s row : List ℕ) → Ends (1 ∷ 3 ∷ 7 ∷ []) (check_of s row)
  pub write : (s l : List ℕ) (room : ℕ) → Fills (1 ∷ 2 ∷ 3 ∷ []) room (write_of s l room)
  pub list : (s row : List ℕ) (room : ℕ) → Fills (1 ∷ 3 ∷ 7 ∷ []) room (list_of s row room)
  pub read : (s row p : List ℕ) → ReadGives (read_of s row p)
  pub set : (s row p : List ℕ) (x : Setting) → Sets (1 ∷ 3 ∷ 7 ∷ 5 ∷ 6 ∷ 8 ∷ 9 ∷ []) (set_of s row p x)
  -- the place of a 7 is a byte of the row, or its end
  pub check-place : (s row : List ℕ) (q : ℕ) → check_of s row ≡ E.refused (broken_at q) → q ≤ length row
  pub list-place : (s row : List ℕ) (room q k : ℕ) → list_of s row room ≡ E.refused_with (broken_at q) k → q ≤ length row
  pub read-place : (s row p : List ℕ) (q : ℕ) → read_of s row p ≡ R.refused (broken_at q) → q ≤ length row
  pub set-place : (s row p : List ℕ) (x : Setting) (q : ℕ) → set_of s row p x ≡ S.refuses (broken_at q) → q ≤ length row
  -- a refusal leaves every lent byte
  pub write-leaves : (s l out : List ℕ) (r : Refusal) (k : ℕ) → write_of s l (length out) ≡ E.refused_with r k → written_of s l out ≡ out
  pub list-leaves : (s row out : List ℕ) (r : Refusal) (k : ℕ) → list_of s row (length out) ≡ E.refused_with r k → listed_of s row out ≡ out
  pub set-leaves : (s row p : List ℕ) (x : Setting) (r : Refusal) → set_of s row p x ≡ S.refuses r → row_after (set_of s row p x) row ≡ row
