-- Demand 1 for catalogues: each entry's numbers, that a place lies in the row, and that a refusal leaves every lent byte. Assumes nothing.
use mathlib.Core.Path.{◌≡◌, refl}
use mathlib.Core.Logic.{◌≢◌}
use mathlib.Core.Bool.{Bool, true, false, not, ◌&&◌}
use mathlib.Core.Option.{Option, none, some}
use mathlib.Core.List.{List, [], ◌∷◌}
use Prim.Native.Nat.{ℕ, ◌≤◌, ◌<◌}
use native.Mathlib.Omega.{arith}
use lib.Dec.{eqb, ltb}
use lib.ListN.{length}
use borrow.Author.Tests.{eqb-false, ltb-true}
use Rattle.schema.specs.Reading.{judged}
use Rattle.layout.specs.Refusals.{Refusal, numbered, broken_at}
use Rattle.layout.specs.Reading as R
use Rattle.layout.specs.Reading.{Answer}
use Rattle.layout.specs.Setting as S
use Rattle.layout.specs.Setting.{Outcome, unless, ◌or◌}
use Rattle.layout.specs.Entries as E
use Rattle.layout.specs.Entries.{Verdict, Sized, is_accepted, read_after, set_after, check_of, write_of, written_of, list_of, listed_of, read_of, set_of}
use Rattle.row.specs.Demand1.{OneOf, here, there, Told, number, Ends, Fills, Gives, Sets}
use Rattle.row.specs.Demand1 as D
use Rattle.row.proofs.Among.{each, told-there}
use Rattle.row.proofs.Demand1 as Row
use Rattle.shelf.specs.Catalogue.{count_in, schema_in, schemas_in, number_among, among, is_catalogue}
use Rattle.shelf.proofs.Among.{number-next}
use Rattle.shelf.proofs.Standing.{length-schemas, sound}
use Rattle.catalogue.specs.Entries.{number_after, number_bad, verdict_after, size_after, out_after, add_of}
use Rattle.catalogue.specs.Entries.{check_at, read_at, set_at, list_at, listed_at, write_at, written_at}
use Rattle.catalogue.specs.Demand1.{Numbers, numbers, refuses, Demand1}
use Rattle.catalogue.proofs.Adding.{refused-stays}

-- ---- adding

-- a number that is not refused is below 16
low : (t s : List ℕ) → is_catalogue t ≡ true → not (eqb (count_in t) 16 && not (among s (schemas_in t))) ≡ true → number_among s (schemas_in t) < 16
unfolding schemas_in
low t s c l = go (sound t c).few (length-schemas t (count_in t)) (among s (schemas_in t)) refl (eqb (count_in t) 16) refl l
  where
    go : count_in t ≤ 16 → length (schemas_in t) ≡ count_in t → (o : Bool) → among s (schemas_in t) ≡ o → (f : Bool) → eqb (count_in t) 16 ≡ f
        → not (f && not o) ≡ true → number_among s (schemas_in t) < 16
    go few long true a f e q = omega (arith, ltb-true (number_among s (schemas_in t)) (length (schemas_in t)) a)
    go few long false a true e q = let z : ◌≡◌ {A = ℕ} 0 1 = cc in absurd (omega arith)
    go few long false a false e q = omega (arith, number-next s (schemas_in t) a, eqb-false (count_in t) 16 e)

adds : (c a l : Bool) (n : ℕ) → (c ≡ true → l ≡ true → n < 16) → Numbers (1 ∷ 12 ∷ []) (number_after (unless c 1 or unless a 1 or unless l 12) n)
adds true true true n h = numbers (h refl refl)
adds true true false n h = refuses (number (there here) (λ e. omega arith))
adds true false l n h = refuses (number here (λ e. omega arith))
adds false a l n h = refuses (number here (λ e. omega arith))

add : (t s : List ℕ) → Numbers (1 ∷ 12 ∷ []) (add_of t s)
unfolding add_of
add t s = adds (is_catalogue t) (is_accepted (judged s)) (not (eqb (count_in t) 16 && not (among s (schemas_in t)))) (number_among s (schemas_in t)) (low t s)

-- ---- by number: what comes before the entry itself

-- nothing, or 13 or 1
data First : Option Refusal → Type 0 where
  passes : First none
  stops : {n : ℕ} → OneOf (13 ∷ 1 ∷ []) n → n ≢ 7 → First (some (numbered n))

first_by : (c l : Bool) → First (unless c 1 or unless l 13)
first_by true true = passes
first_by true false = stops here (λ e. omega arith)
first_by false l = stops (there here) (λ e. omega arith)

first : (t : List ℕ) (k : ℕ) → First (number_bad t k)
first t k = first_by (is_catalogue t) (ltb k (count_in t))

-- the numbers: one more than the entry's own
module _ {ns : List ℕ} where
  told : {n : ℕ} → OneOf (13 ∷ 1 ∷ []) n → n ≢ 7 → Told (13 ∷ 1 ∷ ns) (numbered n)
  told o h = number (each (OneOf (13 ∷ 1 ∷ ns)) o (here, (there here, tt))) h

  ends : {o : Option Refusal} {v : Verdict} → First o → Ends (1 ∷ ns) v → Ends (13 ∷ 1 ∷ ns) (verdict_after o v)
  ends passes D.done = D.done
  ends passes (D.refused q) = D.refused (told-there q)
  ends (stops o h) w = D.refused (told o h)

  fills : {o : Option Refusal} {room : ℕ} {v : Sized} → First o → Fills (1 ∷ ns) room v → Fills (13 ∷ 1 ∷ ns) room (size_after o v)
  fills passes (D.takes l) = D.takes l
  fills passes (D.refused q) = D.refused (told-there q)
  fills passes (D.short l) = D.short l
  fills (stops o h) w = D.refused (told o h)

  gives : {o : Option Refusal} {a : Answer} → First o → Gives (1 ∷ ns) a → Gives (13 ∷ 1 ∷ ns) (read_after o a)
  gives passes D.null = D.null
  gives passes D.bool = D.bool
  gives passes D.signed = D.signed
  gives passes D.float32 = D.float32
  gives passes D.float64 = D.float64
  gives passes D.bytes = D.bytes
  gives passes D.container = D.container
  gives passes (D.refused q) = D.refused (told-there q)
  gives (stops o h) w = D.refused (told o h)

  sets : {o : Option Refusal} {v : Outcome} → First o → Sets (1 ∷ ns) v → Sets (13 ∷ 1 ∷ ns) (set_after o v)
  sets passes D.becomes = D.becomes
  sets passes (D.refused q) = D.refused (told-there q)
  sets (stops o h) w = D.refused (told o h)

-- a place is the entry's own
verdict-place : {o : Option Refusal} → First o → (v : Verdict) (q : ℕ) → verdict_after o v ≡ E.refused (broken_at q) → v ≡ E.refused (broken_at q)
verdict-place passes v q e = e
verdict-place (stops o h) v q e = cc

size-place : {o : Option Refusal} → First o → (v : Sized) (q n : ℕ) → size_after o v ≡ E.refused_with (broken_at q) n → v ≡ E.refused_with (broken_at q) n
size-place passes v q n e = e
size-place (stops o h) v q n e = cc

answer-place : {o : Option Refusal} → First o → (a : Answer) (q : ℕ) → read_after o a ≡ R.refused (broken_at q) → a ≡ R.refused (broken_at q)
answer-place passes a q e = e
answer-place (stops o h) a q e = cc

outcome-place : {o : Option Refusal} → First o → (v : Outcome) (q : ℕ) → set_after o v ≡ S.refuses (broken_at q) → v ≡ S.refuses (broken_at q)
outcome-place passes v q e = e
outcome-place (stops o h) v q e = cc

-- and so is what is left in the output
out_stays : {o : Option Refusal} → First o → (v : Sized) (out' out : List ℕ) → ((r : Refusal) (n : ℕ) → v ≡ E.refused_with r n → out' ≡ out)
    → (r : Refusal) (n : ℕ) → size_after o v ≡ E.refused_with r n → out_after o out' out ≡ out
out_stays passes v out' out f r n e = f r n e
out_stays (stops o h) v out' out f r n e = refl

pub demand1 : Demand1
unfolding check_at read_at set_at list_at listed_at write_at written_at
demand1 = record {
  add = add;
  check = λ t k row. ends (first t k) ((Row.demand1).check (schema_in t k) row);
  write = λ t k l room. fills (first t k) ((Row.demand1).write (schema_in t k) l room);
  list = λ t k row room. fills (first t k) ((Row.demand1).list (schema_in t k) row room);
  read = λ t k row p. gives (first t k) ((Row.demand1).read (schema_in t k) row p);
  set = λ t k row p x. sets (first t k) ((Row.demand1).set (schema_in t k) row p x);
  check-place = λ t k row q e. (Row.demand1).check-place (schema_in t k) row q (verdict-place (first t k) (check_of (schema_in t k) row) q e);
  list-place = λ t k row room q n e. (Row.demand1).list-place (schema_in t k) row room q n (size-place (first t k) (list_of (schema_in t k) row room) q n e);
  read-place = λ t k row p q e. (Row.demand1).read-place (schema_in t k) row p q (answer-place (first t k) (read_of (schema_in t k) row p) q e);
  set-place = λ t k row p x q e. (Row.demand1).set-place (schema_in t k) row p x q (outcome-place (first t k) (set_of (schema_in t k) row p x) q e);
  add-leaves = refused-stays;
  write-leaves = λ t k l out. out_stays (first t k) (write_of (schema_in t k) l (length out)) (written_of (schema_in t k) l out) out
      ((Row.demand1).write-leaves (schema_in t k) l out);
  list-leaves = λ t k row out. out_stays (first t k) (list_of (schema_in t k) row (length out)) (listed_of (schema_in t k) row out) out
      ((Row.demand1).list-leaves (schema_in t k) row out);
  set-leaves = λ t k row p x r e. rw e;
}
