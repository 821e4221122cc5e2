-- What a judging reading yields, when it yields; and that a cut reads back what stands there, and yields only that. Assumes nothing.
use mathlib.Core.Path.{◌≡◌, refl, ap, subst}
use mathlib.Core.Option.{none, some, none-ne-some, some-injective}
use mathlib.Core.List.{List, ◌++◌}
use Prim.Native.Nat.{ℕ}
use native.Mathlib.Omega.{arith}
use native.Mathlib.Decide.{dec_le}
use lib.ListN.{length, take, drop, length-append, length-take, take-append-drop}
use lib.Seq.{take-append_seam, drop-append_seam}
use Rattle.words.specs.Bytes.{Bytes}
use Rattle.words.proofs.Numbers.{bytes_take, bytes_drop}
use Rattle.layout.specs.Faults.{Place, Read, fault, got, ◌>>=◌, ◌>>◌, assert_at, cut_at, within, yielded, fault_in}
use Rattle.layout.proofs.Reader.{Cut}

-- a reading meets a fault, or it yields something of which P holds
pub data When {A : Type 0} (P : A → Type 0) : Read A → Type 0 where
  faulty : {p : Place} → When P (fault p)
  yields : {a : A} → P a → When P (got a)

pub when-bind : {A B : Type 0} {Q : A → Type 0} {P : B → Type 0} {m : Read A} {f : A → Read B}
    → When Q m → ((a : A) → Q a → When P (f a)) → When P (m >>= f)
when-bind faulty k = faulty
when-bind (yields {a = a} q) k = k a q

pub when-any : {A B : Type 0} {P : B → Type 0} (m : Read A) {f : A → Read B} → ((a : A) → When P (f a)) → When P (m >>= f)
when-any (fault p) k = faulty
when-any (got a) k = k a

pub when-then : {A B : Type 0} {Q : A → Type 0} {P : B → Type 0} {m : Read A} {r : Read B}
    → When Q m → ((a : A) → Q a → When P r) → When P (m >> r)
when-then faulty k = faulty
when-then (yields {a = a} q) k = k a q

pub when-map : {A : Type 0} {Q P : A → Type 0} {m : Read A} → When Q m → ((a : A) → Q a → P a) → When P m
when-map faulty k = faulty
when-map (yields {a = a} q) k = yields (k a q)

pub when-both : {A : Type 0} {Q P : A → Type 0} (m : Read A) → When Q m → When P m → When (λ a. Q a × P a) m
when-both (fault p) x y = faulty
when-both (got a) (yields q) (yields p) = yields (q, p)

pub when-within : {A : Type 0} {P : A → Type 0} (j o : ℕ) {m : Read A} → When P m → When P (within j o m)
unfolding within
when-within j o faulty = faulty
when-within j o (yields p) = yields p

pub within-got : {A : Type 0} (j o : ℕ) (a : A) → within j o (got a) ≡ got a
unfolding within
within-got j o a = refl

pub when-got : {A : Type 0} {P : A → Type 0} {a : A} → When P (got a) → P a
when-got (yields q) = q

pub when-some : {A : Type 0} {P : A → Type 0} {m : Read A} {a : A} → When P m → yielded m ≡ some a → P a
unfolding yielded
when-some faulty e = absurd (none-ne-some _ e)
when-some {P = P} (yields q) e = subst P (some-injective _ _ e) q

pub got-some : {A : Type 0} {m : Read A} {a : A} → m ≡ got a → yielded m ≡ some a
unfolding yielded
got-some e = ap yielded e

-- what yields has no fault
pub no-fault : {A : Type 0} (m : Read A) {a : A} → yielded m ≡ some a → fault_in m ≡ none
unfolding yielded fault_in
no-fault (fault p) e = absurd (none-ne-some _ e)
no-fault (got a) e = refl

pub when-assert : {P : Type 0} (p : Place) (d : Dec P) → When (λ _. P) (assert_at p d)
unfolding assert_at
when-assert p (yes h) = yields h
when-assert p (no n) = faulty

pub assert-yes : {P : Type 0} (p : Place) (d : Dec P) → P → assert_at p d ≡ got tt
unfolding assert_at
assert-yes p (yes _) h = refl
assert-yes p (no n) h = absurd (n h)

-- ---- cut

pub cut-back : (p : Place) (n : ℕ) (u r : List ℕ) → length u ≡ n → cut_at p n (u ++ r) ≡ got (u, r)
unfolding cut_at
cut-back p n u r h = rw (← h, assert-yes p (dec_le (length u) (length (u ++ r))) (rw length-append (omega arith)), take-append_seam, drop-append_seam)

pub cut-is : (p : Place) (n : ℕ) (b : List ℕ) → When (λ q. q.0 ≡ take n b) (cut_at p n b)
unfolding cut_at
cut-is p n b = when-then (when-assert p (dec_le n (length b))) λ _ _. yields {a = (take n b, drop n b)} refl

pub cut-forth : (p : Place) (n : ℕ) {b : List ℕ} → Bytes b → When (Cut n b) (cut_at p n b)
unfolding cut_at
cut-forth p n {b} h = when-then (when-assert p (dec_le n (length b))) λ _ l.
    yields {a = (take n b, drop n b)}
    (record { size = rw length-take (omega arith); whole = take-append-drop n b; front = bytes_take n h; rest = bytes_drop n h })
