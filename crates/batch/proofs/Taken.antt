-- What an accepted call shows, and how a row lies in its batch. Assumes nothing.
use mathlib.Core.Path.{◌≡◌, refl, sym, ap, ◌∙◌}
use mathlib.Core.Bool.{Bool, true, false}
use mathlib.Core.Option.{Option, none, some}
use mathlib.Core.List.{List, [], ◌∷◌, ◌++◌, append_assoc}
use Prim.Native.Nat.{ℕ, zero, suc, ◌+◌, ◌/◌, ◌%◌, ◌^◌, ◌≤◌, ◌<◌}
use native.Mathlib.Omega.{arith}
use lib.Dec.{leb, ltb}
use lib.ListN.{length, take, drop, get_or, set, length-append}
use lib.Seq.{sets, length-sets, split_at, set_split, drop_at, take-append_seam}
use borrow.Author.Tests.{leb-true, ltb-true}
use Rattle.words.specs.Bytes.{part, zeros, fill}
use Rattle.words.specs.Bits.{with_bit, put_bit}
use Rattle.words.proofs.Runs.{sets_behind, sets_over}
use Rattle.schema.specs.Types.{Fixed, Ty, fix, text, li, ma, ro}
use Rattle.schema.specs.Reading.{judged}
use Rattle.schema.specs.Walk.{fields_of}
use Rattle.schema.specs.declared.Judged.{Judged}
use Rattle.schema.specs.declared.Judged.TheVariants.{Accepted, Refused}
use Rattle.layout.specs.Refusals as N
use Rattle.layout.specs.Walk.{Seat, Seen, bad, null_at, seen}
use Rattle.layout.specs.Setting.{Setting, is_null, in_bytes, or_empty, text_of, unless, ◌or◌, write_fixed, write, write_at, outcome, set_in, Outcome, refuses, becomes}
use Rattle.layout.specs.Entries.{verdict, takes, refused_with, schema_bad, row_long, set_after, sized_after, check_of as row_check, set_of as row_set}
use Rattle.layout.specs.Entries as E
use Rattle.layout.proofs.Entered.{or-none}
use Rattle.batch.specs.Frames.{be, frame, framing, Framable, no_rows, another, framed}
use Rattle.batch.specs.Entries.{rows_of, batch_bad, row_missing, no_row, row_bad, range, fetch_after, within}
use Rattle.batch.proofs.Sizes.{length-be}
use Rattle.batch.proofs.Framing.{framing-append}

-- ---- what no refusal shows

unless-none : (v : Bool) (n : ℕ) → unless v n ≡ none → v ≡ true
unless-none true n e = refl
unless-none false n e = cc

pub schema-of : (s : List ℕ) → schema_bad s ≡ none → judged s ≡ Accepted
schema-of s e = go (judged s) refl
  where
    go : (j : Judged) → judged s ≡ j → judged s ≡ Accepted
    go Accepted a = a
    go Refused a = let z : ◌≡◌ {A = Option N.Refusal} (some (N.numbered 1)) none = rw a at e in cc

pub record Rows (m : Option (List (List ℕ))) : Type 0 where
  pub rows : List (List ℕ)
  pub is : m ≡ some rows

pub rows-of : (m : Option (List (List ℕ))) → batch_bad m ≡ none → Rows m
rows-of none e = let o : ◌≡◌ {A = ℕ} 0 1 = cc in absurd (omega arith)
rows-of (some rows) e = record { rows = rows; is = refl }

-- row k of an accepted schema's batch
pub record There (s b : List ℕ) (k : ℕ) : Type 0 where
  pub schema : judged s ≡ Accepted
  pub rows : List (List ℕ)
  pub is : framed b ≡ some rows
  pub counts : k < length rows

pub there-of : (s b : List ℕ) (k : ℕ) → no_row s b k ≡ none → There s b k
there-of s b k e =
    let p = or-none (schema_bad s) (batch_bad (framed b) or row_missing b k) e in
    let q = or-none (batch_bad (framed b)) (row_missing b k) p.1 in
    let r = rows-of (framed b) q.0 in
    let l : k < length (rows_of b) = ltb-true k (length (rows_of b)) (unless-none (ltb k (length (rows_of b))) 5 q.1) in
    record { schema = schema-of s p.0; rows = r.rows; is = r.is; counts = rw r.is at l }

pub check-row-is : (s row : List ℕ) → judged s ≡ Accepted → row_check s row ≡ verdict (row_bad s row)
unfolding row_check
check-row-is s row a = rw a

pub from-done : (m : Option N.Refusal) → verdict m ≡ E.done → m ≡ none
from-done none e = refl
from-done (some n) e = let o : ◌≡◌ {A = ℕ} 0 1 = cc in absurd (omega arith)

pub from-refused : (m : Option N.Refusal) (n : N.Refusal) → verdict m ≡ E.refused n → m ≡ some n
from-refused none n e = let o : ◌≡◌ {A = ℕ} 0 1 = cc in absurd (omega arith)
from-refused (some k) n e = cc

pub fetch-of : (m : Option N.Refusal) (o n start len : ℕ) → fetch_after m o n ≡ range start len → (m ≡ none) × (o ≡ start) × (n ≡ len)
fetch-of none o n start len e = (refl, cc, cc)
fetch-of (some i) o n start len e = let z : ◌≡◌ {A = ℕ} 0 1 = cc in absurd (omega arith)

pub sized_of : (m : Option N.Refusal) (need room n : ℕ) → sized_after m need room ≡ takes n → (m ≡ none) × (need ≡ n) × (need ≤ room)
sized_of (some i) need room n e = let z : ◌≡◌ {A = ℕ} 0 1 = cc in absurd (omega arith)
sized_of none need room n e = go (leb need room) refl
  where
    go : (v : Bool) → leb need room ≡ v → (◌≡◌ {A = Option N.Refusal} none none) × (need ≡ n) × (need ≤ room)
    go true h = let z : takes need ≡ takes n = rw h at e in (refl, cc, leb-true need room h)
    go false h = let z : refused_with (N.numbered 4) need ≡ takes n = rw h at e in let o : ◌≡◌ {A = ℕ} 0 1 = cc in absurd (omega arith)

pub set-of : (m : Option N.Refusal) (o : Outcome) (row : List ℕ) → set_after m o ≡ becomes row → (m ≡ none) × (o ≡ becomes row)
set-of none o row e = (refl, e)
set-of (some n) o row e = let z : ◌≡◌ {A = ℕ} 0 1 = cc in absurd (omega arith)

pub record Within (b : List ℕ) (at : ℕ) (o : Outcome) (b' : List ℕ) : Type 0 where
  pub row : List ℕ
  pub is : o ≡ becomes row
  pub bytes : b' ≡ sets b at row

pub within_of : (b : List ℕ) (at : ℕ) (o : Outcome) (b' : List ℕ) → within b at o ≡ becomes b' → Within b at o b'
within_of b at (refuses n) b' e = let z : ◌≡◌ {A = ℕ} 0 1 = cc in absurd (omega arith)
within_of b at (becomes row) b' e = record { row = row; is = refl; bytes = cc }

-- ---- a setting keeps the row's length

fixed-long : (f : Fixed) (x : Setting) (z : Seat) (row : List ℕ) → length (write_fixed f x z row) ≡ length row
unfolding write_fixed
fixed-long f x z row =
    length-sets (put_bit row z.bits z.number (is_null x)) z.slot (fill z.wide (or_empty (in_bytes f x)))
    ∙ length-sets row (z.bits + z.number / 8) (with_bit (get_or row (z.bits + z.number / 8) 0) (z.number % 8) (is_null x) ∷ [])

write-long : (t : Ty) (x : Setting) (v : Seen) (row : List ℕ) → length (write t x v row) ≡ length row
unfolding write
write-long t x (bad n) row = refl
write-long (fix f) x (null_at z) row = fixed-long f x z row
write-long (text t) x (null_at z) row = length-sets row z.slot (zeros z.wide)
write-long (li t) x (null_at z) row = refl
write-long (ma k v) x (null_at z) row = refl
write-long (ro ts) x (null_at z) row = refl
write-long (fix f) x (seen z o b) row = fixed-long f x z row
write-long (text t) x (seen z o b) row = length-sets row o (text_of x)
write-long (li t) x (seen z o b) row = refl
write-long (ma k v) x (seen z o b) row = refl
write-long (ro ts) x (seen z o b) row = refl

written-long : (m : Option Ty) (x : Setting) (v : Seen) (row : List ℕ) → length (write_at m x v row) ≡ length row
unfolding write_at
written-long none x v row = refl
written-long (some t) x v row = write-long t x v row

outcome-long : (c : Option ℕ) (r : Option N.Refusal) (w row row' : List ℕ) → length w ≡ length row → outcome c r w ≡ becomes row' → length row' ≡ length row
unfolding outcome
outcome-long (some p) r w row row' h e = let z : ◌≡◌ {A = ℕ} 0 1 = cc in absurd (omega arith)
outcome-long none (some n) w row row' h e = let z : ◌≡◌ {A = ℕ} 0 1 = cc in absurd (omega arith)
outcome-long none none w row row' h e = let z : w ≡ row' = cc in ap length (sym z) ∙ h

pub set_long : (s row p : List ℕ) (x : Setting) (row' : List ℕ) → row_set s row p x ≡ becomes row' → length row' ≡ length row
unfolding row_set set_in
set_long s row p x row' e = outcome-long _ _ _ row row' (written-long _ x _ row) (set-of (schema_bad s or row_long row) (set_in (fields_of s) row p x) row' e).1

-- ---- a row in its batch

-- bytes with a row from place n on
module _ (xs row ys : List ℕ) (n : ℕ) (e : length xs ≡ n) where
  pub row-part : part (xs ++ (row ++ ys)) n (length row) ≡ row
  row-part = ap (take (length row)) (drop_at xs (row ++ ys) n e) ∙ take-append_seam row ys

  pub row-sets : (row' : List ℕ) → length row' ≡ length row → sets (xs ++ (row ++ ys)) n row' ≡ xs ++ (row' ++ ys)
  row-sets row' h =
      let z : n ≡ length xs + 0 = omega arith in
      rw z (sets_behind xs (row ++ ys) 0 row' ∙ ap (λ (t : List ℕ). xs ++ t) (sets_over row row' ys h))

-- the bytes before row k, and behind it
module _ (rows : List (List ℕ)) (k : ℕ) (u : List ℕ) where
  abbrev pub before : List ℕ
  before = framing (take k rows) ++ be 4 (length u)

  abbrev pub behind : List ℕ
  behind = framing (drop (suc k) rows)

  pub before-long : length before ≡ length (framing (take k rows)) + 4
  before-long = length-append (framing (take k rows)) (be 4 (length u)) ∙ ap (λ (m : ℕ). length (framing (take k rows)) + m) (length-be 4 (length u))

  with_row : framing (take k rows ++ (u ∷ drop (suc k) rows)) ≡ before ++ (u ++ behind)
  unfolding framing frame
  with_row =
      framing-append (take k rows) (u ∷ drop (suc k) rows)
      ∙ ap (λ (t : List ℕ). framing (take k rows) ++ t) (append_assoc (be 4 (length u)) u behind)
      ∙ sym (append_assoc (framing (take k rows)) (be 4 (length u)) (u ++ behind))

module _ (rows : List (List ℕ)) (k : ℕ) (l : k < length rows) where
  pub rows_lie : framing rows ≡ before rows k (get_or rows k []) ++ (get_or rows k [] ++ behind rows k (get_or rows k []))
  rows_lie = ap framing (split_at rows k [] l) ∙ with_row rows k (get_or rows k [])

  pub set-lie : (u : List ℕ) → framing (set rows k u) ≡ before rows k u ++ (u ++ behind rows k u)
  set-lie u = ap framing (set_split rows k u l) ∙ with_row rows k u

pub framable-set : {rows : List (List ℕ)} (k : ℕ) (u : List ℕ) → length u < 256 ^ 4 → Framable rows → Framable (set rows k u)
framable-set k u l no_rows = no_rows
framable-set zero u l (another h f) = another l f
framable-set (suc k) u l (another h f) = another h (framable-set k u l f)

pub framable-at : {rows : List (List ℕ)} (k : ℕ) → Framable rows → length (get_or rows k []) < 256 ^ 4
framable-at k no_rows = omega arith
framable-at zero (another h f) = h
framable-at (suc k) (another h f) = framable-at k f
