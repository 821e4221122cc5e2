-- A place in an answer is within the limit of a row, as it is for a row by itself. Assumes nothing.
use mathlib.Core.Path.{◌≡◌}
use mathlib.Core.Option.{Option, none, some}
use mathlib.Core.List.{List, [], ◌∷◌}
use Prim.Native.Nat.{ℕ, suc, ◌+◌}
use native.Mathlib.Omega.{arith}
use lib.Dec.{ltb}
use lib.ListN.{length}
use Rattle.schema.specs.Reading.{judged}
use Rattle.layout.specs.Refusals.{Refusal, numbered}
use Rattle.layout.specs.Setting as S
use Rattle.layout.specs.Setting.{Setting, is_some, ◌or◌, refusal_in}
use Rattle.layout.specs.Entries.{refused_with, is_accepted, schema_bad, layout_bad, set_verdict, read_of as row_read, set_of as row_set}
use Rattle.row.specs.Outcomes.{Low, LowIn, LowVerdict, LowSized}
use Rattle.row.proofs.Low.{low_or, low-unless, low-long, layout-low, sized-low, after-low, read-after, read_low as row-read-low, set-low as row-set-low}
use Rattle.batch.specs.Frames.{frame, framed}
use Rattle.batch.specs.Entries as B
use Rattle.batch.specs.Entries.{rows_of, row_of, start_of, batch_bad, row_missing, no_row, row_bad, counted, count_of, fetch_after, fetch_of, Checking}
use Rattle.batch.specs.Entries.{check_after, in_turn, check_rows, check_of, lent_rows, append_of, read_of, within, set_of}

no-row-low : (s b : List ℕ) (k : ℕ) → LowIn 16384 (no_row s b k)
no-row-low s b k =
    low_or 16384 (schema_bad s) (batch_bad (framed b) or row_missing b k) (low-unless 16384 (is_accepted (judged s)) 1)
    (low_or 16384 (batch_bad (framed b)) (row_missing b k) (low-unless 16384 (is_some (framed b)) 10) (low-unless 16384 (ltb k (length (rows_of b))) 5))

row_low : (s row : List ℕ) → LowIn 16384 (row_bad s row)
row_low s row = low-long 16384 row (layout_bad s row) (λ h. layout-low 16384 s row (λ h. h) h)

pub count_low : (b : List ℕ) {r : Refusal} {k : ℕ} → refused_with r k ≡ count_of b → Low 16384 r
unfolding count_of
count_low b {r} {k} e = go (framed b) e
  where
    go : (m : Option (List (List ℕ))) → refused_with r k ≡ counted m → Low 16384 r
    go none q = let z : numbered 10 ≡ r = cc in rw (← z) tt
    go (some rows) q = let z : ◌≡◌ {A = ℕ} 0 1 = cc in absurd (omega arith)

pub fetch-low : (s b : List ℕ) (k : ℕ) {r : Refusal} → B.refused r ≡ fetch_of s b k → Low 16384 r
unfolding fetch_of
fetch-low s b k {r} e =
    go (no_row s b k or row_bad s (row_of b k)) (low_or 16384 (no_row s b k) (row_bad s (row_of b k)) (no-row-low s b k) (row_low s (row_of b k))) e
  where
    go : (m : Option Refusal) → LowIn 16384 m → B.refused r ≡ fetch_after m (start_of b k) (length (row_of b k)) → Low 16384 r
    go none l q = let z : ◌≡◌ {A = ℕ} 0 1 = cc in absurd (omega arith)
    go (some n) l q = let z : n ≡ r = cc in rw (← z) l

abbrev LowChecking : Checking → Type 0
LowChecking B.done = Unit {0}
LowChecking (B.refused r) = Low 16384 r
LowChecking (B.refused_row k r) = Low 16384 r

in-turn-low : (k : ℕ) (m : Option Refusal) (c : Checking) → LowIn 16384 m → LowChecking c → LowChecking (in_turn k m c)
in-turn-low k none c l h = h
in-turn-low k (some r) c l h = l

rows-low : (s : List ℕ) (k : ℕ) (rows : List (List ℕ)) → LowChecking (check_rows s k rows)
unfolding check_rows
rows-low s k [] = tt
rows-low s k (row ∷ rows) = in-turn-low k (row_bad s row) (check_rows s (suc k) rows) (row_low s row) (rows-low s (suc k) rows)

checking-low : (s b : List ℕ) → LowChecking (check_of s b)
unfolding check_of
checking-low s b =
    go (schema_bad s or batch_bad (framed b))
    (low_or 16384 (schema_bad s) (batch_bad (framed b)) (low-unless 16384 (is_accepted (judged s)) 1) (low-unless 16384 (is_some (framed b)) 10))
  where
    go : (m : Option Refusal) → LowIn 16384 m → LowChecking (check_after m (check_rows s 0 (rows_of b)))
    go none l = rows-low s 0 (rows_of b)
    go (some r) l = l

pub check-low : (s b : List ℕ) {r : Refusal} → B.refused r ≡ check_of s b → Low 16384 r
check-low s b e = rw (← e) at (checking-low s b)

pub check-row-low : (s b : List ℕ) {k : ℕ} {r : Refusal} → B.refused_row k r ≡ check_of s b → Low 16384 r
check-row-low s b e = rw (← e) at (checking-low s b)

pub append-low : (s room : List ℕ) (used : ℕ) (row : List ℕ) → LowSized 16384 (append_of s room used row)
unfolding append_of
append-low s room used row =
    sized-low 16384 (schema_bad s or batch_bad (lent_rows room used) or row_bad s row) (used + length (frame row)) (length room)
    (low_or 16384 (schema_bad s) (batch_bad (lent_rows room used) or row_bad s row) (low-unless 16384 (is_accepted (judged s)) 1)
    (low_or 16384 (batch_bad (lent_rows room used)) (row_bad s row) (low-unless 16384 (is_some (lent_rows room used)) 10) (row_low s row)))

pub read_low : (s b : List ℕ) (k : ℕ) (p : List ℕ) → LowIn 16384 (refusal_in (read_of s b k p))
unfolding read_of
read_low s b k p =
    rw (read-after (no_row s b k) (row_read s (row_of b k) p))
    (low_or 16384 (no_row s b k) (refusal_in (row_read s (row_of b k) p)) (no-row-low s b k) (row-read-low 16384 s (row_of b k) (λ h. h) p))

pub set-low : (s b : List ℕ) (k : ℕ) (p : List ℕ) (x : Setting) → LowVerdict 16384 (set_verdict (set_of s b k p x))
unfolding set_of
set-low s b k p x =
    after-low 16384 (no_row s b k) (within b (start_of b k) (row_set s (row_of b k) p x)) (no-row-low s b k)
    (go (row_set s (row_of b k) p x) (row-set-low 16384 s (row_of b k) (λ h. h) p x))
  where
    go : (o : S.Outcome) → LowVerdict 16384 (set_verdict o) → LowVerdict 16384 (set_verdict (within b (start_of b k) o))
    go (S.refuses r) l = l
    go (S.becomes row) l = tt
