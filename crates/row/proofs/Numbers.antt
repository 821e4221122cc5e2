-- The numbers that reading refuses with: 1, 3, and at the walk 5, 6 and 7. Assumes nothing.
use mathlib.Core.Path.{◌≡◌, refl}
use mathlib.Core.Bool.{Bool, true, false}
use mathlib.Core.Option.{Option, none, some}
use mathlib.Core.List.{List, [], ◌∷◌}
use Prim.Native.Nat.{ℕ, zero, suc, ◌+◌, ◌*◌, ◌/◌, ◌%◌, ◌^◌}
use native.Mathlib.Decide.{dec_le, dec_lt, ℕ_discrete}
use native.Mathlib.Omega.{arith}
use lib.ListN.{length, take}
use lib.Dec.{leb}
use Rattle.words.specs.Bytes.{num, part, bitmap}
use Rattle.schema.specs.Types.{Fixed, bo, i1, i2, i4, i8, f4, f8, Ty, fix, text, li, ma, ro, Tys, count, field}
use Rattle.schema.specs.Reading.{judged}
use Rattle.schema.specs.Walk.{fields_of}
use Rattle.schema.specs.declared.Judged.{Judged}
use Rattle.schema.specs.declared.Judged.TheVariants.{Accepted, Refused}
use Rattle.layout.specs.Layout.{spells?, slot_of, front, limit, codec}
use Rattle.layout.specs.Refusals.{Refusal, numbered, broken_at}
use Rattle.layout.specs.Walk.{Seat, Seen, bad, null_at, seen, Step, stop, to_null, into, must, must_step, own, by_slot, by_flag, seat_of, child, step_in, go_on}
use Rattle.layout.specs.Walk.{root_seat, walk}
use Rattle.layout.specs.Reading as R
use Rattle.layout.specs.Reading.{Answer, value_of, placed, answer_of, found, read_in}
use Rattle.layout.specs.Entries.{read_of}
use Rattle.row.specs.Demand1.{here, there, Told, number, place, Gives, ReadGives}
use Rattle.row.specs.Demand1 as D
use Rattle.row.proofs.Among.{not-among, told-there}

-- the numbers of the walk
abbrev walks : List ℕ
walks = 5 ∷ 6 ∷ 7 ∷ []

five : Told walks (numbered 5)
five = number here (λ e. omega arith)

six : Told walks (numbered 6)
six = number (there here) (λ e. omega arith)

seven : (p : ℕ) → Told walks (broken_at p)
seven p = place (there (there here))

-- what a walk may find
data Fair : Seen → Type 0 where
  refuses : {r : Refusal} → Told walks r → Fair (bad r)
  absent : {z : Seat} → Fair (null_at z)
  present : {z : Seat} {o : ℕ} {b : List ℕ} → Fair (seen z o b)

data FairStep : Step → Type 0 where
  refuses : {r : Refusal} → Told walks r → FairStep (stop r)
  absent : {z : Seat} → FairStep (to_null z)
  present : {t : Ty} {z : Seat} {o : ℕ} {b : List ℕ} → FairStep (into t z o b)

fair-must : {P : Type 0} (d : Dec P) (n : Refusal) (v : Seen) → Told walks n → Fair v → Fair (must d n v)
unfolding must
fair-must (yes _) n v q f = f
fair-must (no _) n v q f = Fair.refuses q

fair-step : {P : Type 0} (d : Dec P) (n : Refusal) (v : Step) → Told walks n → FairStep v → FairStep (must_step d n v)
unfolding must_step
fair-step (yes _) n v q f = f
fair-step (no _) n v q f = FairStep.refuses q

own-fair : (t : Ty) (z : Seat) (o : ℕ) (b : List ℕ) (v : Seen) → Fair v → Fair (own t z o b v)
unfolding own
own-fair (fix g) z o b v f = fair-must (dec_lt (num b) (limit g)) _ v (seven o) f
own-fair (text k) z o b v f = fair-must (spells? k b) _ v (seven z.slot) f
own-fair (li t) z o b v f =
    fair-must (dec_le 8 (length b)) _ _ (seven z.slot) (fair-must (dec_le (front 8 (slot_of (codec t).wide) (num (take 8 b))) (length b)) _ v (seven o) f)
own-fair (ma k w) z o b v f =
    fair-must (dec_le 8 (length b)) _ _ (seven z.slot)
    (fair-must (ℕ_discrete (num (take 8 b) % 8) 0) _ _ (seven o) (fair-must (dec_le (8 + num (take 8 b)) (length b)) _ v (seven o) f))
own-fair (ro ts) z o b v f = fair-must (dec_le (front 0 8 (count ts)) (length b)) _ v (seven z.slot) f

slot-fair : (w : Option ℕ) (t : Ty) (z : Seat) (f o j : ℕ) (b : List ℕ) → FairStep (by_slot w t z f o j b)
unfolding by_slot
slot-fair (some v) t z f o j b = FairStep.present
slot-fair none t z f o j b =
    fair-step (dec_le f (num (part b j 8) / 2 ^ 32)) _ _ (seven z.slot)
    (fair-step (ℕ_discrete (num (part b j 8) / 2 ^ 32 % 8) 0) _ _ (seven z.slot)
    (fair-step (dec_le (num (part b j 8) / 2 ^ 32 + num (part b j 8) % 2 ^ 32) (length b)) _ _ (seven z.slot) FairStep.present))

flag-fair : (n : ℕ) (z : Seat) (r : Step) → FairStep r → FairStep (by_flag n z r)
unfolding by_flag
flag-fair zero z r f = f
flag-fair (suc n) z r f = FairStep.absent

child-fair : (h w n : ℕ) (t : Ty) (i o : ℕ) (b : List ℕ) → FairStep (child h w n t i o b)
unfolding child
child-fair h w n t i o b =
    fair-step (dec_lt i n) (numbered 5) _ five
    (flag-fair (num (part b h (bitmap n)) / 2 ^ i % 2) (seat_of h w n i o) _
    (slot-fair (codec t).wide t (seat_of h w n i o) (front h w n) o (h + (bitmap n + i * w)) b))

step-fair : (t : Ty) (i : ℕ) (z : Seat) (o : ℕ) (b : List ℕ) → FairStep (step_in t i z o b)
unfolding step_in
step-fair (fix f) i z o b = FairStep.refuses five
step-fair (text k) i z o b = FairStep.refuses five
step-fair (li t) i z o b = child-fair 8 (slot_of (codec t).wide) (num (take 8 b)) t i o b
step-fair (ma k v) zero z o b = FairStep.present
step-fair (ma k v) (suc zero) z o b = FairStep.present
step-fair (ma k v) (suc (suc i)) z o b = FairStep.refuses five
step-fair (ro ts) i z o b = child-fair 0 8 (count ts) (field ts i) i o b

on-fair : (p : List ℕ) (next : Ty → Seat → ℕ → List ℕ → Seen) → ((t : Ty) (z : Seat) (o : ℕ) (b : List ℕ) → Fair (next t z o b)) → (r : Step) → FairStep r
    → Fair (go_on p next r)
unfolding go_on
on-fair p next f r (FairStep.refuses q) = Fair.refuses q
on-fair [] next f r FairStep.absent = Fair.absent
on-fair (i ∷ p) next f r FairStep.absent = Fair.refuses six
on-fair p next f r (FairStep.present {t = t} {z = z} {o = o} {b = b}) = f t z o b

walk-fair : (p : List ℕ) (t : Ty) (z : Seat) (o : ℕ) (b : List ℕ) → Fair (walk p t z o b)
unfolding walk
walk-fair [] t z o b = own-fair t z o b _ Fair.present
walk-fair (i ∷ p) t z o b = own-fair t z o b _ (on-fair p (λ t s o b. walk p t s o b) (λ t z o b. walk-fair p t z o b) (step_in t i z o b) (step-fair t i z o b))

-- ---- answers

value-gives : (f : Fixed) (b : List ℕ) → Gives walks (value_of f b)
unfolding value_of
value-gives bo b = D.bool
value-gives i1 b = D.signed
value-gives i2 b = D.signed
value-gives i4 b = D.signed
value-gives i8 b = D.signed
value-gives f4 b = D.float32
value-gives f8 b = D.float64

answer-gives : (t : Ty) (v : Seen) → Fair v → Gives walks (answer_of t v)
unfolding answer_of
answer-gives t v (Fair.refuses q) = D.refused q
answer-gives t v Fair.absent = D.null
answer-gives (fix f) v (Fair.present {b = b}) = value-gives f b
answer-gives (text k) v Fair.present = D.bytes
answer-gives (li t) v Fair.present = D.container
answer-gives (ma k w) v Fair.present = D.container
answer-gives (ro ts) v Fair.present = D.container

found-gives : (o : Option Ty) (v : Seen) → Fair v → Gives walks (found o v)
unfolding found
found-gives none v f = D.refused five
found-gives (some t) v f = answer-gives t v f

-- what a place reads as in a row that is not too long
pub place-gives : (ts : Tys) (row p : List ℕ) → Gives walks (read_in ts row p)
unfolding read_in
place-gives ts row p = found-gives (placed p (ro ts)) _ (walk-fair p (ro ts) root_seat 0 row)

after_two : (a : Answer) → Gives walks a → ReadGives a
after_two a D.null = D.null
after_two a D.bool = D.bool
after_two a D.signed = D.signed
after_two a D.float32 = D.float32
after_two a D.float64 = D.float64
after_two a D.bytes = D.bytes
after_two a D.container = D.container
after_two a (D.refused o) = D.refused (told-there (told-there o))

pub read-gives : (s row p : List ℕ) → ReadGives (read_of s row p)
unfolding read_of
read-gives s row p = by-schema (judged s) refl (leb (length row) 16384) refl
  where
    by-schema : (j : Judged) → judged s ≡ j → (v : Bool) → leb (length row) 16384 ≡ v → ReadGives (read_of s row p)
    by-schema Refused a v h = rw a (D.refused (number here (λ e. omega arith)))
    by-schema Accepted a false h = rw (a, h) (D.refused (number (there here) (λ e. omega arith)))
    by-schema Accepted a true h = rw (a, h) (after_two (read_in (fields_of s) row p) (place-gives (fields_of s) row p))

-- so none is the number 0, which stands for a float's case without its float
pub no_zero : ReadGives (R.refused (numbered 0)) → ⊥
no_zero (D.refused (number o _)) = not-among 0 o refl refl
