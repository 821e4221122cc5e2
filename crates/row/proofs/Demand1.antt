-- Demand 1: each entry's numbers, that a place lies in the row, and that a refusal leaves every lent byte. Assumes nothing.
use mathlib.Core.Path.{◌≡◌, refl}
use mathlib.Core.Logic.{◌≢◌}
use native.Mathlib.Omega.{arith}
use mathlib.Core.Bool.{Bool, true, false, cond}
use mathlib.Core.Option.{Option, none, some}
use mathlib.Core.List.{List, [], ◌∷◌}
use Prim.Native.Nat.{ℕ}
use lib.Dec.{leb}
use lib.ListN.{length}
use borrow.Author.Tests.{leb-true, leb-false}
use Rattle.schema.specs.Types.{Ty, ro}
use Rattle.schema.specs.Reading.{judged}
use Rattle.schema.specs.Walk.{fields_of}
use Rattle.layout.specs.Refusals.{Refusal, numbered}
use Rattle.layout.specs.Layout.{fault_at}
use Rattle.layout.specs.Reading.{Answer, placed, read_in}
use Rattle.layout.specs.Setting.{Setting, is_some, unless, ◌or◌, or_empty, suits, keeps, refusal_in, judge_at, Outcome, outcome, set_in}
use Rattle.layout.specs.Entries as E
use Rattle.layout.specs.Entries.{verdict, broken, is_accepted, judge_of, check_of, sized_after, image_of, write_of, written_of, listing_of, list_of, listed_of}
use Rattle.layout.specs.Entries.{set_after, set_of}
use Rattle.row.specs.Demand1.{OneOf, here, there, Told, number, place, Ends, Fills, Gives, Sets, Demand1}
use Rattle.row.specs.Demand1 as D
use Rattle.row.proofs.Among.{each}
use Rattle.row.proofs.Numbers.{place-gives, read-gives}
use Rattle.row.proofs.Low.{check-low, list-low, read_low, set-low}

-- ---- refusals in their order

-- none, or one of the numbers
pub data Among (ns : List ℕ) : Option Refusal → Type 0 where
  nothing : Among ns none
  one : {r : Refusal} → Told ns r → Among ns (some r)

pub among-or : {ns : List ℕ} (a b : Option Refusal) → Among ns a → Among ns b → Among ns (a or b)
among-or a b nothing q = q
among-or a b (one o) q = one o

pub unless-among : {ns : List ℕ} (v : Bool) (n : ℕ) → OneOf ns n → n ≢ 7 → Among ns (unless v n)
unless-among true n o h = nothing
unless-among false n o h = one (number o h)

pub broken-among : {ns : List ℕ} (p : Option ℕ) → OneOf ns 7 → Among ns (broken p)
broken-among none o = nothing
broken-among (some p) o = one (place o)

ends : {ns : List ℕ} (o : Option Refusal) → Among ns o → Ends ns (verdict o)
ends o nothing = D.done
ends o (one q) = D.refused q

within : {ns : List ℕ} (need room : ℕ) (v : Bool) → leb need room ≡ v → Fills ns room (cond v (E.takes need) (E.refused_with (numbered 4) need))
within need room true e = D.takes (leb-true need room e)
within need room false e = D.short (leb-false need room e)

pub fills : {ns : List ℕ} (o : Option Refusal) (need room : ℕ) → Among ns o → Fills ns room (sized_after o need room)
fills o need room nothing = within need room (leb need room) refl
fills o need room (one q) = D.refused q

-- ---- setting

abbrev numbers : List ℕ
numbers = 1 ∷ 3 ∷ 7 ∷ 5 ∷ 6 ∷ 8 ∷ 9 ∷ []

eight : OneOf numbers 8
eight = there (there (there (there (there here))))

nine : OneOf numbers 9
nine = there (there (there (there (there (there here)))))

seven : OneOf numbers 7
seven = there (there here)

-- what reading refuses with is the setting's refusal too
told-set : {r : Refusal} → Told (5 ∷ 6 ∷ 7 ∷ []) r → Told numbers r
told-set (number o h) = number (each (OneOf numbers) o (there (there (there here)), (there (there (there (there here))), (seven, tt)))) h
told-set (place o) = place seven

refusal-among : (a : Answer) → Gives (5 ∷ 6 ∷ 7 ∷ []) a → Among numbers (refusal_in a)
unfolding refusal_in
refusal-among a D.null = nothing
refusal-among a D.bool = nothing
refusal-among a D.signed = nothing
refusal-among a D.float32 = nothing
refusal-among a D.float64 = nothing
refusal-among a D.bytes = nothing
refusal-among a D.container = nothing
refusal-among a (D.refused o) = one (told-set o)

judged-among : (t : Option Ty) (a : Answer) (x : Setting) → Gives (5 ∷ 6 ∷ 7 ∷ []) a → Among numbers (judge_at t a x)
unfolding judge_at
judged-among none a x g = one (number (there (there (there here))) (λ e. omega arith))
judged-among (some t) a x g =
    among-or (refusal_in a) _ (refusal-among a g)
    (among-or (unless (suits t x) 8) _ (unless-among (suits t x) 8 eight (λ e. omega arith)) (unless-among (keeps t a x) 9 nine (λ e. omega arith)))

outcome-sets : (c : Option ℕ) (r : Option Refusal) (row : List ℕ) → Among numbers r → Sets numbers (outcome c r row)
unfolding outcome
outcome-sets (some p) r row q = D.refused (place seven)
outcome-sets none r row nothing = D.becomes
outcome-sets none r row (one o) = D.refused o

after-sets : (r : Option Refusal) (o : Outcome) → Among numbers r → Sets numbers o → Sets numbers (set_after r o)
after-sets r o nothing q = q
after-sets r o (one t) q = D.refused t

-- the first two: the schema, and a row that is too long
two : {ns : List ℕ} (a b : Bool) → OneOf ns 1 → OneOf ns 3 → Among ns (unless a 1 or unless b 3)
two a b x y = among-or (unless a 1) (unless b 3) (unless-among a 1 x (λ e. omega arith)) (unless-among b 3 y (λ e. omega arith))

three : {ns : List ℕ} (a b : Bool) (p : Option ℕ) → OneOf ns 1 → OneOf ns 3 → OneOf ns 7 → Among ns (unless a 1 or unless b 3 or broken p)
three a b p x y z =
    among-or (unless a 1) _ (unless-among a 1 x (λ e. omega arith))
    (among-or (unless b 3) (broken p) (unless-among b 3 y (λ e. omega arith)) (broken-among p z))

set_gives : (s row p : List ℕ) (x : Setting) → Sets numbers (set_of s row p x)
unfolding set_of set_in
set_gives s row p x =
    after-sets _ _ (two (is_accepted (judged s)) (leb (length row) 16384) here (there here))
    (outcome-sets (fault_at (ro (fields_of s)) row) _ _
    (judged-among (placed p (ro (fields_of s))) (read_in (fields_of s) row p) x (place-gives (fields_of s) row p)))

-- ---- the entries

judge-gives : (s : List ℕ) → Ends (1 ∷ []) (judge_of s)
unfolding judge_of
judge-gives s = ends _ (unless-among (is_accepted (judged s)) 1 here (λ e. omega arith))

check-gives : (s row : List ℕ) → Ends (1 ∷ 3 ∷ 7 ∷ []) (check_of s row)
unfolding check_of
check-gives s row = ends _ (three (is_accepted (judged s)) (leb (length row) 16384) (fault_at (ro (fields_of s)) row) here (there here) (there (there here)))

write-gives : (s l : List ℕ) (room : ℕ) → Fills (1 ∷ 2 ∷ 3 ∷ []) room (write_of s l room)
unfolding write_of
write-gives s l room =
    fills _ (length (or_empty (image_of s l))) room
    (among-or (unless (is_accepted (judged s)) 1) _ (unless-among (is_accepted (judged s)) 1 here (λ e. omega arith))
    (among-or (unless (is_some (image_of s l)) 2) _ (unless-among (is_some (image_of s l)) 2 (there here) (λ e. omega arith))
    (unless-among (leb (length (or_empty (image_of s l))) 16384) 3 (there (there here)) (λ e. omega arith))))

list-gives : (s row : List ℕ) (room : ℕ) → Fills (1 ∷ 3 ∷ 7 ∷ []) room (list_of s row room)
unfolding list_of
list-gives s row room =
    fills _ (length (or_empty (listing_of s row))) room
    (three (is_accepted (judged s)) (leb (length row) 16384) (fault_at (ro (fields_of s)) row) here (there here) (there (there here)))

pub demand1 : Demand1
unfolding written_of listed_of refusal_in
demand1 = record {
  judge = judge-gives;
  check = check-gives;
  write = write-gives;
  list = list-gives;
  read = read-gives;
  set = set_gives;
  check-place = λ s row q e. rw e at (check-low (length row) s row (λ h. omega arith));
  list-place = λ s row room q k e. rw e at (list-low (length row) s row (λ h. omega arith) room);
  read-place = λ s row p q e. rw e at (read_low (length row) s row (λ h. omega arith) p);
  set-place = λ s row p x q e. rw e at (set-low (length row) s row (λ h. omega arith) p x);
  write-leaves = λ s l out r k e. rw e;
  list-leaves = λ s row out r k e. rw e;
  set-leaves = λ s row p x r e. rw e;
}
