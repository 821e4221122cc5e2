-- A setting of an accepted row is refused where document 01 says so, and only there. Assumes nothing.
use mathlib.Core.Path.{◌≡◌, refl, sym, ap, ◌∙◌}
use mathlib.Core.Logic.{◌⊎◌, inl, inr}
use mathlib.Core.Bool.{Bool, true, false}
use mathlib.Core.Option.{Option, none, some, none-ne-some, some-injective}
use mathlib.Core.List.{List}
use Prim.Native.Nat.{ℕ}
use native.Mathlib.Omega.{arith}
use Rattle.schema.specs.Types.{Ty, fix, text, li, ma, ro, Tys}
use Rattle.layout.specs.Cells.{Cell}
use Rattle.layout.specs.Refusals.{Refusal, numbered}
use Rattle.layout.specs.Walk.{Seen, bad, null_at, seen, root_seat, walk}
use Rattle.layout.specs.Reading as R
use Rattle.layout.specs.Reading.{Answer, placed, answer_of, found, read_in}
use Rattle.layout.specs.Setting.{Setting, suits, keeps, unless, ◌or◌, refusal_in, judge_at, refuses, set_in}
use Rattle.layout.specs.Demand3.{Grounds, nowhere, under_null, unfit, moves}
use Rattle.layout.proofs.Landed.{Landing, off, at_null, at_seen}
use Rattle.layout.proofs.After.{Accepted, outcome-refused, row-sound, row-lands, read_at, turned_down}
use Rattle.layout.proofs.Told.{value-present}

-- the read of a place refuses only where the walk does
answer-bad : (T : Ty) (r : Seen) (n : Refusal) → refusal_in (answer_of T r) ≡ some n → r ≡ bad n
unfolding answer_of refusal_in
answer-bad T (bad m) n e = ap bad (some-injective _ _ e)
answer-bad T (null_at s) n e = absurd (none-ne-some _ e)
answer-bad (fix f) (seen s o b) n e = absurd (none-ne-some _ (sym (value-present f b) ∙ e))
answer-bad (text k) (seen s o b) n e = absurd (none-ne-some _ e)
answer-bad (li t) (seen s o b) n e = absurd (none-ne-some _ e)
answer-bad (ma k v) (seen s o b) n e = absurd (none-ne-some _ e)
answer-bad (ro ts) (seen s o b) n e = absurd (none-ne-some _ e)

-- with 5 or 6
five-six : (row : List ℕ) (T : Ty) (p : List ℕ) (c : Cell) (r : Seen) (n : Refusal) → Landing row T p c r → r ≡ bad n → (n ≡ numbered 5) ⊎ (n ≡ numbered 6)
five-six row T p c r n (off {n = m} (inl h) g) e = inl cc
five-six row T p c r n (off {n = m} (inr h) g) e = inr cc
five-six row T p c r n (at_null v f) e = let z : ◌≡◌ {A = ℕ} 0 1 = cc in absurd (omega arith)
five-six row T p c r n (at_seen v y s) e = let z : ◌≡◌ {A = ℕ} 0 1 = cc in absurd (omega arith)

by_number : (ts : Tys) (row p : List ℕ) (x : Setting) (n : Refusal) → (n ≡ numbered 5) ⊎ (n ≡ numbered 6) → read_in ts row p ≡ R.refused n
    → Grounds (placed p (ro ts)) (read_in ts row p) x n
by_number ts row p x n (inl e) h = rw e (nowhere (rw e at h))
by_number ts row p x n (inr e) h = rw e (under_null (rw e at h))

refused-answer : (T : Ty) (r : Seen) (n : Refusal) → r ≡ bad n → answer_of T r ≡ R.refused n
unfolding answer_of
refused-answer T r n e = rw e

module _ (ts : Tys) (row : List ℕ) (a : Accepted ts row) (p : List ℕ) (x : Setting) (n : Refusal) where
  -- which of the three it was
  first_of : (T : Ty) (r : Option Refusal) (s k : Bool) → placed p (ro ts) ≡ some T → refusal_in (read_in ts row p) ≡ r → suits T x ≡ s
      → keeps T (read_in ts row p) x ≡ k
      → r or unless s 8 or unless k 9 ≡ some n → Grounds (placed p (ro ts)) (read_in ts row p) x n
  first_of T (some m) s k q h g f e =
      let r = walk p (ro ts) root_seat 0 row in
      let t = read_at ts row a p T q in
      let w : r ≡ bad n = answer-bad T r n (ap refusal_in (sym t) ∙ h ∙ e) in
      by_number ts row p x n (five-six row T p a.tree r n (row-lands ts row a p T q) w) (t ∙ refused-answer T r n w)
  first_of T none false k q h g f e = rw (← (some-injective _ _ e)) (unfit q h g)
  first_of T none true false q h g f e = rw (← (some-injective _ _ e)) (moves q h g f)
  first_of T none true true q h g f e = absurd (none-ne-some _ e)

  no_place : placed p (ro ts) ≡ none → read_in ts row p ≡ R.refused (numbered 5)
  unfolding read_in found
  no_place e = rw e

  grounds : (m : Option Ty) → placed p (ro ts) ≡ m → judge_at m (read_in ts row p) x ≡ some n → Grounds (placed p (ro ts)) (read_in ts row p) x n
  unfolding judge_at
  grounds none q e = rw (← (some-injective _ _ e)) (nowhere (no_place q))
  grounds (some T) q e = first_of T _ _ _ q refl refl refl e

  pub refused-only : set_in ts row p x ≡ refuses n → Grounds (placed p (ro ts)) (read_in ts row p) x n
  unfolding set_in
  refused-only e = grounds (placed p (ro ts)) refl (outcome-refused _ _ n (rw (row-sound ts row a) at e))

judge-refused : (m : Option Ty) (x : Setting) (n : Refusal) (w : Seen) → found m w ≡ R.refused n → judge_at m (found m w) x ≡ some n
unfolding judge_at found refusal_in
judge-refused none x n w e = let z : numbered 5 ≡ n = cc in ap some z
judge-refused (some T) x n w e = rw e

judge-unfit : (m : Option Ty) (a : Answer) (x : Setting) (T : Ty) → m ≡ some T → refusal_in a ≡ none → suits T x ≡ false → judge_at m a x ≡ some (numbered 8)
unfolding judge_at
judge-unfit m a x T q h g = rw (q, h, g)

judge-moves : (m : Option Ty) (a : Answer) (x : Setting) (T : Ty) → m ≡ some T → refusal_in a ≡ none → suits T x ≡ true → keeps T a x ≡ false
    → judge_at m a x ≡ some (numbered 9)
unfolding judge_at
judge-moves m a x T q h g k = rw (q, h, g, k)

judge-grounds : (ts : Tys) (row p : List ℕ) (x : Setting) (n : Refusal) → Grounds (placed p (ro ts)) (read_in ts row p) x n
    → judge_at (placed p (ro ts)) (read_in ts row p) x ≡ some n
unfolding read_in
judge-grounds ts row p x n (nowhere h) = judge-refused (placed p (ro ts)) x (numbered 5) (walk p (ro ts) root_seat 0 row) h
judge-grounds ts row p x n (under_null h) = judge-refused (placed p (ro ts)) x (numbered 6) (walk p (ro ts) root_seat 0 row) h
judge-grounds ts row p x n (unfit {t = T} q h g) = judge-unfit (placed p (ro ts)) (read_in ts row p) x T q h g
judge-grounds ts row p x n (moves {t = T} q h g k) = judge-moves (placed p (ro ts)) (read_in ts row p) x T q h g k

pub refused-there : (ts : Tys) (row : List ℕ) → Accepted ts row → (p : List ℕ) (x : Setting) (n : Refusal)
    → Grounds (placed p (ro ts)) (read_in ts row p) x n → set_in ts row p x ≡ refuses n
refused-there ts row a p x n g = turned_down ts row a p x n (judge-grounds ts row p x n g)
