-- A step to a child comes to the same in two containers that agree on its bit, its slot and the bytes that its slot points at.
-- Assumes nothing.
use mathlib.Core.Path.{◌≡◌, refl, sym, ap, ◌∙◌, subst}
use mathlib.Core.Logic.{◌≢◌}
use mathlib.Core.Option.{Option, none, some}
use mathlib.Core.List.{List}
use Prim.Native.Nat.{ℕ, zero, suc, ◌+◌, ◌*◌, ◌/◌, ◌%◌, ◌^◌, ◌≤◌, ◌<◌}
use native.Mathlib.Decide.{dec_lt}
use lib.ListN.{length, take, drop}
use lib.Seq.{take-take}
use Rattle.words.specs.Bytes.{num, bitmap, part}
use Rattle.schema.specs.Types.{Ty}
use Rattle.layout.specs.Layout.{front, codec}
use Rattle.layout.specs.Walk.{Seat, Step, must_step, by_flag, by_slot, seat_of, child, step_in}
use Rattle.layout.specs.Refusals.{Refusal, numbered}

-- a slot of w bytes holds what is o wide
abbrev pub Holds : ℕ → Option ℕ → Type 0
Holds w none = w ≡ 8
Holds w (some v) = v ≤ w

-- a step to any other child than i comes to the same in b' as in b
abbrev pub Aside : Ty → ℕ → List ℕ → List ℕ → Type 0
Aside T i b b' = (j : ℕ) → j ≢ i → (z : Seat) (o : ℕ) → step_in T j z o b' ≡ step_in T j z o b

must-same : {P : Type 0} (d : Dec P) (n : Refusal) (r r' : Step) → (P → r ≡ r') → must_step d n r ≡ must_step d n r'
unfolding must_step
must-same (yes p) n r r' e = e p
must-same (no q) n r r' e = refl

flag_same : (f : ℕ) (s : Seat) (r r' : Step) → (f ≡ 0 → r ≡ r') → by_flag f s r ≡ by_flag f s r'
unfolding by_flag
flag_same zero s r r' e = e refl
flag_same (suc f) s r r' e = refl

module _ (h w n : ℕ) (t : Ty) (j : ℕ) (b b' : List ℕ) where
  -- its slot
  abbrev p : ℕ
  p = h + (bitmap n + j * w)

  -- what the two containers agree on
  pub record Agree : Type 0 where
    pub size : length b' ≡ length b
    pub bit : num (part b' h (bitmap n)) / 2 ^ j % 2 ≡ num (part b h (bitmap n)) / 2 ^ j % 2
    pub slot : part b' p w ≡ part b p w
    pub value : num (part b h (bitmap n)) / 2 ^ j % 2 ≡ 0 → (codec t).wide ≡ none
        → part b' (num (part b p 8) / 2 ^ 32) (num (part b p 8) % 2 ^ 32) ≡ part b (num (part b p 8) / 2 ^ 32) (num (part b p 8) % 2 ^ 32)

  slot_same : Agree → (s : Seat) (f o : ℕ) → Holds w (codec t).wide → num (part b h (bitmap n)) / 2 ^ j % 2 ≡ 0 → (wd : Option ℕ) → (codec t).wide ≡ wd
      → by_slot wd t s f o p b' ≡ by_slot wd t s f o p b
  unfolding by_slot
  slot_same a s f o hw z (some v) q =
      let l : v ≤ w = subst (Holds w) q hw in
      let e : part b' p v ≡ part b p v = sym (take-take v w (drop p b') l) ∙ ap (take v) a.slot ∙ take-take v w (drop p b) l in
      rw e
  slot_same a s f o hw z none q =
      let w8 : w ≡ 8 = subst (Holds w) q hw in
      let e : part b' p 8 ≡ part b p 8 = subst (λ (k : ℕ). part b' p k ≡ part b p k) w8 a.slot in
      rw (e, a.size, a.value z q)

  pub child-same : (o : ℕ) → Holds w (codec t).wide → (j < n → Agree) → child h w n t j o b' ≡ child h w n t j o b
  unfolding child
  child-same o hw a =
      must-same (dec_lt j n) (numbered 5) _ _ λ k.
      let e = a k in
      ap (λ (f : ℕ). by_flag f (seat_of h w n j o) (by_slot (codec t).wide t (seat_of h w n j o) (front h w n) o p b')) e.bit
      ∙ flag_same _ (seat_of h w n j o) _ _ (λ z. slot_same e (seat_of h w n j o) (front h w n) o hw z (codec t).wide refl)
