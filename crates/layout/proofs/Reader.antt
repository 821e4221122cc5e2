-- What a reading yields, when it yields; and that a cut reads back what stands there, and yields only that. Assumes nothing.
use mathlib.Core.Path.{◌≡◌, refl, subst}
use mathlib.Core.Option.{Option, none, some, none-ne-some, some-injective}
use mathlib.Core.List.{List, [], ◌∷◌, ◌++◌}
use Prim.Native.Nat.{ℕ, ◌≤◌, ◌<◌}
use native.Mathlib.Omega.{arith}
use native.Mathlib.Decide.{dec_le}
use lib.ListN.{length, take, drop, length-append, length-take, take-append-drop}
use lib.Seq.{take-append_seam, drop-append_seam}
use Rattle.words.specs.Bytes.{Bytes}
use Rattle.words.proofs.Numbers.{bytes_take, bytes_drop}
use Rattle.layout.specs.Reader.{◌>>=◌, ◌>>◌, assert, cut}

-- a reading refuses, or it yields something of which P holds
pub data When {A : Type 0} (P : A → Type 0) : Option A → Type 0 where
  refused : When P none
  yields : {a : A} → P a → When P (some a)

pub when-bind : {A B : Type 0} {Q : A → Type 0} {P : B → Type 0} {m : Option A} {f : A → Option B}
    → When Q m → ((a : A) → Q a → When P (f a)) → When P (m >>= f)
when-bind refused k = refused
when-bind (yields {a = a} q) k = k a q

pub when-then : {A B : Type 0} {Q : A → Type 0} {P : B → Type 0} {m : Option A} {r : Option B}
    → When Q m → ((a : A) → Q a → When P r) → When P (m >> r)
when-then refused k = refused
when-then (yields {a = a} q) k = k a q

pub when-map : {A : Type 0} {Q P : A → Type 0} {m : Option A} → When Q m → ((a : A) → Q a → P a) → When P m
when-map refused k = refused
when-map (yields {a = a} q) k = yields (k a q)

pub when-some : {A : Type 0} {P : A → Type 0} {m : Option A} {a : A} → When P m → m ≡ some a → P a
when-some refused e = absurd (none-ne-some _ e)
when-some {P = P} (yields q) e = subst P (some-injective _ _ e) q

pub when-assert : {P : Type 0} (d : Dec P) → When (λ _. P) (assert d)
unfolding assert
when-assert (yes p) = yields p
when-assert (no n) = refused

pub assert-yes : {P : Type 0} (d : Dec P) → P → assert d ≡ some tt
unfolding assert
assert-yes (yes p) h = refl
assert-yes (no n) h = absurd (n h)

pub assert-no : {P A : Type 0} (d : Dec P) (m : Option A) → (P → ⊥) → (assert d >> m) ≡ none
unfolding assert
assert-no (yes p) m h = absurd (h p)
assert-no (no n) m h = refl

-- ---- cut

pub cut-some : (n : ℕ) (b : List ℕ) → n ≤ length b → cut n b ≡ some (take n b, drop n b)
unfolding cut
cut-some n b h = rw (assert-yes (dec_le n (length b)) h)

pub cut-none : (n : ℕ) (b : List ℕ) → length b < n → cut n b ≡ none
unfolding cut
cut-none n b h = assert-no (dec_le n (length b)) (some (take n b, drop n b)) (λ k. omega arith)

pub cut-back : (n : ℕ) (u r : List ℕ) → length u ≡ n → cut n (u ++ r) ≡ some (u, r)
unfolding cut
cut-back n u r h = rw (← h, assert-yes (dec_le (length u) (length (u ++ r))) (rw length-append (omega arith)), take-append_seam, drop-append_seam)

-- what cut n b may yield; the bytes of b's parts are bytes
pub record Cut (n : ℕ) (b : List ℕ) (p : List ℕ × List ℕ) : Type 0 where
  pub size : length p.0 ≡ n
  pub whole : p.0 ++ p.1 ≡ b
  pub front : Bytes p.0
  pub rest : Bytes p.1

pub cut-forth : (n : ℕ) {b : List ℕ} → Bytes b → When (Cut n b) (cut n b)
unfolding cut
cut-forth n {b} h = when-then (when-assert (dec_le n (length b))) λ _ l.
    yields {a = (take n b, drop n b)} (record {
      size = rw length-take (omega arith);
      whole = take-append-drop n b;
      front = bytes_take n h;
      rest =
          bytes_drop n h;
    })

pub length-zero : {A : Type 0} (b : List A) → length b ≡ 0 → b ≡ []
length-zero [] h = refl
length-zero (x ∷ xs) h = absurd (omega arith)
