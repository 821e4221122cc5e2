-- Demand 1 for batches: each entry's numbers, and that a refusal leaves every lent byte. Assumes nothing.
use mathlib.Core.Path.{◌≡◌, refl, sym, subst}
use mathlib.Core.Bool.{Bool, true, false}
use mathlib.Core.Option.{Option, none, some}
use mathlib.Core.List.{List, [], ◌∷◌}
use Prim.Native.Nat.{ℕ, suc, ◌+◌}
use native.Mathlib.Omega.{arith}
use lib.Dec.{eqb, leb, ltb}
use lib.ListN.{length}
use borrow.Author.Tests.{eqb-true}
use Rattle.schema.specs.Types.{ro}
use Rattle.schema.specs.Reading.{judged}
use Rattle.schema.specs.Walk.{fields_of}
use Rattle.layout.specs.Refusals as N
use Rattle.layout.specs.Layout.{fault_at}
use Rattle.layout.specs.Reading.{Answer}
use Rattle.layout.specs.Setting as S
use Rattle.layout.specs.Setting.{Setting, is_some, ◌or◌}
use Rattle.layout.specs.Entries.{schema_bad, row_long, is_accepted, read_after, set_after, read_of as row_read, set_of as row_set}
use Rattle.row.specs.Demand1.{OneOf, here, there, Told, number, place, Fills, Gives, Sets}
use Rattle.row.specs.Demand1 as D
use Rattle.row.proofs.Among.{Each, each, lacks}
use Rattle.row.proofs.Demand1.{Among, nothing, one, among-or, unless-among, broken-among, fills, demand1 as of-rows}
use Rattle.batch.specs.Frames.{frame, framed}
use Rattle.batch.specs.Entries.{rows_of, row_of, start_of, batch_bad, no_row, row_bad, counted, count_of, fetch_after, fetch_of, Checking, check_after, in_turn}
use Rattle.batch.specs.Entries.{check_rows, check_of, lent_rows, append_of, appended_of, read_of, within, set_of}
use Rattle.batch.specs.Demand1.{Counts, Finds, Checks, fetch_numbers, read_numbers, set_numbers, Demand1}
use Rattle.batch.specs.Demand1 as K

-- a number that a list is computed not to lack is one of it
one_of : (k : ℕ) (ns : List ℕ) → lacks k ns ≡ false → OneOf ns k
one_of k [] e = let z : ◌≡◌ {A = ℕ} 0 1 = cc in absurd (omega arith)
one_of k (n ∷ ns) e = go (eqb n k) refl (λ z. one_of k ns z)
  where
    go : (v : Bool) → eqb n k ≡ v → (lacks k ns ≡ false → OneOf ns k) → OneOf (n ∷ ns) k
    go true q f = subst (λ (m : ℕ). OneOf (m ∷ ns) k) (sym (eqb-true n k q)) here
    go false q f = let z : lacks k ns ≡ false = rw q at e in there (f z)

-- one of some numbers is one of more
told_more : {ns ms : List ℕ} {r : N.Refusal} → Each (OneOf ms) ns → Told ns r → Told ms r
told_more {ms = ms} q (number o h) = number (each (OneOf ms) o q) h
told_more {ms = ms} q (place o) = place (each (OneOf ms) o q)

-- 1, 10 and 5; 3 and 7
no-row-among : {ns : List ℕ} (s b : List ℕ) (k : ℕ) → OneOf ns 1 → OneOf ns 10 → OneOf ns 5 → Among ns (no_row s b k)
no-row-among s b k o₁ o₁₀ o₅ =
    among-or (schema_bad s) _ (unless-among (is_accepted (judged s)) 1 o₁ (λ e. omega arith))
    (among-or (batch_bad (framed b)) _ (unless-among (is_some (framed b)) 10 o₁₀ (λ e. omega arith))
    (unless-among (ltb k (length (rows_of b))) 5 o₅ (λ e. omega arith)))

row-among : {ns : List ℕ} (s row : List ℕ) → OneOf ns 3 → OneOf ns 7 → Among ns (row_bad s row)
row-among s row o₃ o₇ =
    among-or (row_long row) _ (unless-among (leb (length row) 16384) 3 o₃ (λ e. omega arith)) (broken-among (fault_at (ro (fields_of s)) row) o₇)

-- ---- counting, fetching, checking

counted-one : (m : Option (List (List ℕ))) → Counts (counted m)
counted-one none = K.broken
counted-one (some rows) = K.rows

count_gives : (b : List ℕ) → Counts (count_of b)
unfolding count_of
count_gives b = counted-one (framed b)

fetch-after : {ns : List ℕ} (m : Option N.Refusal) (o n : ℕ) → Among ns m → Finds ns (fetch_after m o n)
fetch-after m o n nothing = K.range
fetch-after m o n (one q) = K.refused q

fetch-gives : (s b : List ℕ) (k : ℕ) → Finds fetch_numbers (fetch_of s b k)
unfolding fetch_of
fetch-gives s b k =
    fetch-after (no_row s b k or row_bad s (row_of b k)) (start_of b k) (length (row_of b k))
    (among-or (no_row s b k) (row_bad s (row_of b k))
    (no-row-among s b k (one_of 1 _ refl) (one_of 10 _ refl) (one_of 5 _ refl))
    (row-among s (row_of b k) (one_of 3 _ refl) (one_of 7 _ refl)))

in-turn : {ns ms : List ℕ} (k : ℕ) (m : Option N.Refusal) (c : Checking) → Among ms m → Checks ns ms c → Checks ns ms (in_turn k m c)
in-turn k m c nothing q = q
in-turn k m c (one o) q = K.refused_row o

rows-give : {ns : List ℕ} (s : List ℕ) (k : ℕ) (rows : List (List ℕ)) → Checks ns (3 ∷ 7 ∷ []) (check_rows s k rows)
unfolding check_rows
rows-give s k [] = K.done
rows-give s k (row ∷ rows) = in-turn k (row_bad s row) _ (row-among s row (one_of 3 _ refl) (one_of 7 _ refl)) (rows-give s (suc k) rows)

check-after : {ns ms : List ℕ} (m : Option N.Refusal) (c : Checking) → Among ns m → Checks ns ms c → Checks ns ms (check_after m c)
check-after m c nothing q = q
check-after m c (one o) q = K.refused o

check-gives : (s b : List ℕ) → Checks (1 ∷ 10 ∷ []) (3 ∷ 7 ∷ []) (check_of s b)
unfolding check_of
check-gives s b =
    check-after _ (check_rows s 0 (rows_of b))
    (among-or (schema_bad s) (batch_bad (framed b)) (unless-among (is_accepted (judged s)) 1 (one_of 1 _ refl) (λ e. omega arith))
    (unless-among (is_some (framed b)) 10 (one_of 10 _ refl) (λ e. omega arith)))
    (rows-give s 0 (rows_of b))

-- ---- appending

append-gives : (s room : List ℕ) (used : ℕ) (row : List ℕ) → Fills (1 ∷ 10 ∷ 3 ∷ 7 ∷ []) (length room) (append_of s room used row)
unfolding append_of
append-gives s room used row =
    fills _ (used + length (frame row)) (length room)
    (among-or (schema_bad s) _ (unless-among (is_accepted (judged s)) 1 (one_of 1 _ refl) (λ e. omega arith))
    (among-or (batch_bad (lent_rows room used)) (row_bad s row)
    (unless-among (is_some (lent_rows room used)) 10 (one_of 10 _ refl) (λ e. omega arith)) (row-among s row (one_of 3 _ refl) (one_of 7 _ refl))))

-- ---- one place of a row: its own numbers are among those of the batch

gives_more : {ns ms : List ℕ} (a : Answer) → Each (OneOf ms) ns → Gives ns a → Gives ms a
gives_more a q D.null = D.null
gives_more a q D.bool = D.bool
gives_more a q D.signed = D.signed
gives_more a q D.float32 = D.float32
gives_more a q D.float64 = D.float64
gives_more a q D.bytes = D.bytes
gives_more a q D.container = D.container
gives_more a q (D.refused o) = D.refused (told_more q o)

read-after : {ns : List ℕ} (m : Option N.Refusal) (a : Answer) → Among ns m → Gives ns a → Gives ns (read_after m a)
read-after m a nothing q = q
read-after m a (one o) q = D.refused o

read-gives : (s b : List ℕ) (k : ℕ) (p : List ℕ) → Gives read_numbers (read_of s b k p)
unfolding read_of
read-gives s b k p =
    read-after (no_row s b k) _ (no-row-among s b k (one_of 1 _ refl) (one_of 10 _ refl) (one_of 5 _ refl))
    (gives_more (row_read s (row_of b k) p)
    (one_of 1 _ refl, (one_of 3 _ refl, (one_of 5 _ refl, (one_of 6 _ refl, (one_of 7 _ refl, tt)))))
    (of-rows.read s (row_of b k) p))

sets_more : {ns ms : List ℕ} (b : List ℕ) (at : ℕ) (o : S.Outcome) → Each (OneOf ms) ns → Sets ns o → Sets ms (within b at o)
sets_more b at o q D.becomes = D.becomes
sets_more b at o q (D.refused r) = D.refused (told_more q r)

set_after_lem : {ns : List ℕ} (m : Option N.Refusal) (o : S.Outcome) → Among ns m → Sets ns o → Sets ns (set_after m o)
set_after_lem m o nothing q = q
set_after_lem m o (one r) q = D.refused r

set_gives : (s b : List ℕ) (k : ℕ) (p : List ℕ) (x : Setting) → Sets set_numbers (set_of s b k p x)
unfolding set_of
set_gives s b k p x =
    set_after_lem (no_row s b k) _ (no-row-among s b k (one_of 1 _ refl) (one_of 10 _ refl) (one_of 5 _ refl))
    (sets_more b (start_of b k) (row_set s (row_of b k) p x)
    (one_of 1 _ refl, (one_of 3 _ refl, (one_of 7 _ refl, (one_of 5 _ refl, (one_of 6 _ refl, (one_of 8 _ refl, (one_of 9 _ refl, tt)))))))
    (of-rows.set s (row_of b k) p x))

pub demand1 : Demand1
unfolding appended_of
demand1 = record {
  count = count_gives;
  fetch = fetch-gives;
  check = check-gives;
  append = append-gives;
  read = read-gives;
  set = set_gives;
  append-leaves = λ s room used row r k e. rw e;
  set-leaves = λ s b k p x r e. rw e;
}
