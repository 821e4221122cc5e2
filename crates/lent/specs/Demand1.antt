-- Demand 1 for the twins and for `table`, as it is read: by any table each twin answers a result or one of the numbers of its entry, a place lies
-- in the row, and a refusal leaves every lent byte. Assumes nothing: these are definitions.
use Rattle.std.specs.Prelude.{◌≡◌, List, [], ◌∷◌, ℕ, ◌≤◌, length}
use Rattle.layout.specs.Refusals.{Refusal, broken_at}
use Rattle.layout.specs.Reading as R
use Rattle.layout.specs.Setting as S
use Rattle.layout.specs.Entries as E
use Rattle.row.specs.Demand1.{Ends, Fills, Gives, ReadGives, Sets}
use Rattle.batch.specs.Demand1.{Finds, Checks, fetch_numbers, read_numbers, set_numbers}
use Rattle.lent.specs.Tabulated.{tabulate_of, tabled_of}
use Rattle.lent.specs.Twins.{Asked, judge, check, write, list, read, set, fetch_in, check_in, append_in, read_in, set_in, Ended, ends_by}

-- what the entry that is asked may end with
abbrev pub Well : (q : Asked) → Ended q → Type 0
Well judge e = Ends (1 ∷ []) e
Well (check row) e = Ends (1 ∷ 3 ∷ 7 ∷ []) e × ((k : ℕ) → e ≡ E.refused (broken_at k) → k ≤ length row)
Well (write l out) e = Fills (1 ∷ 2 ∷ 3 ∷ []) (length out) e.0 × ((r : Refusal) (k : ℕ) → e.0 ≡ E.refused_with r k → e.1 ≡ out)
Well (list row out) e = Fills (1 ∷ 3 ∷ 7 ∷ []) (length out) e.0 × ((n k : ℕ) → e.0 ≡ E.refused_with (broken_at n) k → n ≤ length row)
    × ((r : Refusal) (k : ℕ) → e.0 ≡ E.refused_with r k → e.1 ≡ out)
Well (read row p) e = ReadGives e × ((k : ℕ) → e ≡ R.refused (broken_at k) → k ≤ length row)
Well (set row p x) e = Sets (1 ∷ 3 ∷ 7 ∷ 5 ∷ 6 ∷ 8 ∷ 9 ∷ []) e.0 × ((k : ℕ) → e.0 ≡ S.refuses (broken_at k) → k ≤ length row)
    × ((r : Refusal) → e.0 ≡ S.refuses r → e.1 ≡ row)
Well (fetch_in b k) e = Finds fetch_numbers e
Well (check_in b) e = Checks (1 ∷ 10 ∷ []) (3 ∷ 7 ∷ []) e
Well (append_in room used row) e = Fills (1 ∷ 10 ∷ 3 ∷ 7 ∷ []) (length room) e.0 × ((r : Refusal) (k : ℕ) → e.0 ≡ E.refused_with r k → e.1 ≡ room)
Well (read_in b k p) e = Gives read_numbers e
Well (set_in b k p x) e = Sets set_numbers e.0 × ((r : Refusal) → e.0 ≡ S.refuses r → e.1 ≡ b)

pub record Demand1 : Type 0 where
  pub all : (s t : List ℕ) (q : Asked) → Well q (ends_by s t q)
  pub table : (s : List ℕ) (room : ℕ) → Fills (1 ∷ []) room (tabulate_of s room)
  pub table-leaves : (s out : List ℕ) (r : Refusal) (k : ℕ) → tabulate_of s (length out) ≡ E.refused_with r k → tabled_of s out ≡ out
