-- The place of a fault, and where a walk ends, lie in the row, or right behind it. Assumes nothing.
use mathlib.Core.Path.{◌≡◌}
use mathlib.Core.Option.{Option, none, some, some-injective, none-ne-some}
use mathlib.Core.List.{List, [], ◌∷◌}
use Prim.Native.Nat.{ℕ, zero, suc, ◌+◌, ◌*◌, ◌-◌, ◌/◌, ◌%◌, ◌^◌, ◌≤◌}
use native.Mathlib.Decide.{dec_le, dec_lt, ℕ_discrete}
use native.Mathlib.Nat.{mul-le-mul_right}
use native.Mathlib.Omega.{arith}
use lib.ListN.{length, take, drop, length-take, length-drop}
use Rattle.words.specs.Bytes.{num, part, bitmap}
use Rattle.schema.specs.Types.{Ty, fix, text, li, ma, ro, count, field}
use Rattle.layout.specs.Faults.{slot, byte, Read, fault, got, in_row, fault_in}
use Rattle.layout.specs.Refusals.{Refusal, numbered, broken_at}
use Rattle.layout.specs.Layout.{spells?, slot_of, front, limit, codec, fault_at}
use Rattle.layout.specs.Walk.{Seat, seat_at, Seen, bad, null_at, seen, Step, stop, to_null, into, must, must_step, own, by_slot, by_flag, seat_of, child, step_in}
use Rattle.layout.specs.Walk.{go_on, walk}
use Rattle.layout.proofs.Near.{Near, faulty, codec-near}

-- ---- a check

near-place : {A : Type 0} (n : ℕ) (m : Read A) (q : ℕ) → Near n m → fault_in m ≡ some q → q ≤ n
unfolding fault_in in_row
near-place n (got a) q c e = absurd (none-ne-some _ e)
near-place n (fault slot) q c e = let z : 0 ≡ q = some-injective _ _ e in omega arith
near-place n (fault (byte i)) q (faulty p h) e = let z : i ≡ q = some-injective _ _ e in omega arith

pub check-place : (t : Ty) (row : List ℕ) (q : ℕ) → fault_at t row ≡ some q → q ≤ length row
check-place t row q e = near-place (length row) ((codec t).get row) q (codec-near t row) e

-- ---- a walk

abbrev pub Small : ℕ → Refusal → Type 0
Small N (numbered n) = Unit {0}
Small N (broken_at q) = q ≤ N

pub data Close (N : ℕ) : Seen → Type 0 where
  refuses : {r : Refusal} → Small N r → Close N (bad r)
  absent : {z : Seat} → Close N (null_at z)
  present : {z : Seat} {o : ℕ} {b : List ℕ} → o ≤ N → Close N (seen z o b)

data CloseStep (N : ℕ) : Step → Type 0 where
  refuses : {r : Refusal} → Small N r → CloseStep N (stop r)
  absent : {z : Seat} → CloseStep N (to_null z)
  present : {t : Ty} {z : Seat} {o : ℕ} {b : List ℕ} → z.slot ≤ N → o + length b ≤ N → CloseStep N (into t z o b)

close-must : {P : Type 0} (N : ℕ) (d : Dec P) (r : Refusal) (v : Seen) → Small N r → (P → Close N v) → Close N (must d r v)
unfolding must
close-must N (yes p) r v q f = f p
close-must N (no _) r v q f = Close.refuses q

close-step : {P : Type 0} (N : ℕ) (d : Dec P) (r : Refusal) (v : Step) → Small N r → (P → CloseStep N v) → CloseStep N (must_step d r v)
unfolding must_step
close-step N (yes p) r v q f = f p
close-step N (no _) r v q f = CloseStep.refuses q

-- what a type's own rules say of its size
abbrev Holds : Ty → List ℕ → Type 0
Holds (fix f) b = Unit {0}
Holds (text t) b = Unit {0}
Holds (li t) b = front 8 (slot_of (codec t).wide) (num (take 8 b)) ≤ length b
Holds (ma k v) b = 8 + num (take 8 b) ≤ length b
Holds (ro ts) b = front 0 8 (count ts) ≤ length b

module _ (N : ℕ) where
  own-close : (t : Ty) (z : Seat) (o : ℕ) (b : List ℕ) (v : Seen) → z.slot ≤ N → o + length b ≤ N → (Holds t b → Close N v) → Close N (own t z o b v)
  unfolding own
  own-close (fix f) z o b v s h k = close-must N (dec_lt (num b) (limit f)) (broken_at o) v (omega arith) λ _. k tt
  own-close (text t) z o b v s h k = close-must N (spells? t b) (broken_at z.slot) v s λ _. k tt
  own-close (li t) z o b v s h k =
      close-must N (dec_le 8 (length b)) (broken_at z.slot) _ s λ _. close-must N (dec_le (front 8 (slot_of (codec t).wide) (num (take 8 b))) (length b))
      (broken_at o) v (omega arith) k
  own-close (ma a w) z o b v s h k =
      close-must N (dec_le 8 (length b)) (broken_at z.slot) _ s λ _. close-must N (ℕ_discrete (num (take 8 b) % 8) 0) (broken_at o) _ (omega arith) λ _.
      close-must N (dec_le (8 + num (take 8 b)) (length b)) (broken_at o) v (omega arith) k
  own-close (ro ts) z o b v s h k = close-must N (dec_le (front 0 8 (count ts)) (length b)) (broken_at z.slot) v s k

  part_small : (b : List ℕ) (j m o : ℕ) → j ≤ length b → o + length b ≤ N → o + j + length (part b j m) ≤ N
  part_small b j m o h l = rw (length-take, length-drop) (omega arith)

  slot-close : (w : Option ℕ) (t : Ty) (z : Seat) (f o j : ℕ) (b : List ℕ) → z.slot ≤ N → o + length b ≤ N → j ≤ length b → CloseStep N (by_slot w t z f o j b)
  unfolding by_slot
  slot-close (some v) t z f o j b s h l = CloseStep.present s (part_small b j v o l h)
  slot-close none t z f o j b s h l =
      let x = num (part b j 8) in
      close-step N (dec_le f (x / 2 ^ 32)) (broken_at z.slot) _ s λ _. close-step N (ℕ_discrete (x / 2 ^ 32 % 8) 0) (broken_at z.slot) _ s λ _.
      close-step N (dec_le (x / 2 ^ 32 + x % 2 ^ 32) (length b)) (broken_at z.slot) _ s λ q. CloseStep.present s
      (part_small b (x / 2 ^ 32) (x % 2 ^ 32) o (omega arith) h)

  flag-close : (n : ℕ) (z : Seat) (r : Step) → CloseStep N r → CloseStep N (by_flag n z r)
  unfolding by_flag
  flag-close zero z r f = f
  flag-close (suc n) z r f = CloseStep.absent

  child-close : (h w n : ℕ) (t : Ty) (i o : ℕ) (b : List ℕ) → o + length b ≤ N → front h w n ≤ length b → CloseStep N (child h w n t i o b)
  unfolding child
  child-close h w n t i o b l k = close-step N (dec_lt i n) (numbered 5) _ tt λ q.
      let m = mul-le-mul_right {m = suc i} {n = n} w q in
      flag-close (num (part b h (bitmap n)) / 2 ^ i % 2) (seat_of h w n i o) _
      (slot-close (codec t).wide t (seat_of h w n i o) (front h w n) o (h + (bitmap n + i * w)) b (omega arith) l (omega arith))

  step-close : (t : Ty) (i : ℕ) (z : Seat) (o : ℕ) (b : List ℕ) → o + length b ≤ N → Holds t b → CloseStep N (step_in t i z o b)
  unfolding step_in
  step-close (fix f) i z o b l k = CloseStep.refuses tt
  step-close (text t) i z o b l k = CloseStep.refuses tt
  step-close (li t) i z o b l k = child-close 8 (slot_of (codec t).wide) (num (take 8 b)) t i o b l k
  step-close (ma a v) zero z o b l k =
      CloseStep.present {t = li a} {z = seat_at (o + 8)} {o = o + 8} {b = part b 8 (num (take 8 b))} (omega arith)
      (part_small b 8 (num (take 8 b)) o (omega arith) l)
  step-close (ma a v) (suc zero) z o b l k =
      CloseStep.present {t = li v} {z = seat_at (o + (8 + num (take 8 b)))} {o = o + (8 + num (take 8 b))} {b = drop (8 + num (take 8 b)) b} (omega arith)
      (rw length-drop (omega arith))
  step-close (ma a v) (suc (suc i)) z o b l k = CloseStep.refuses tt
  step-close (ro ts) i z o b l k = child-close 0 8 (count ts) (field ts i) i o b l k

  on-close : (p : List ℕ) (next : Ty → Seat → ℕ → List ℕ → Seen)
      → ((t : Ty) (z : Seat) (o : ℕ) (b : List ℕ) → z.slot ≤ N → o + length b ≤ N → Close N (next t z o b)) → (r : Step) → CloseStep N r
      → Close N (go_on p next r)
  unfolding go_on
  on-close p next f r (CloseStep.refuses q) = Close.refuses q
  on-close [] next f r CloseStep.absent = Close.absent
  on-close (i ∷ p) next f r CloseStep.absent = Close.refuses tt
  on-close p next f r (CloseStep.present {t = t} {z = z} {o = o} {b = b} s h) = f t z o b s h

  pub walk-close : (p : List ℕ) (t : Ty) (z : Seat) (o : ℕ) (b : List ℕ) → z.slot ≤ N → o + length b ≤ N → Close N (walk p t z o b)
  unfolding walk
  walk-close [] t z o b s h = own-close t z o b _ s h λ _. Close.present (omega arith)
  walk-close (i ∷ p) t z o b s h =
      own-close t z o b _ s h λ k. on-close p (λ t s o b. walk p t s o b) (λ t z o b s h. walk-close p t z o b s h) (step_in t i z o b)
      (step-close t i z o b h k)
