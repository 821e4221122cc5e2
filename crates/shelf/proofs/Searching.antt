-- The number of a schema among schemas, as a walk from the first meets it. Assumes nothing.
use mathlib.Core.Path.{◌≡◌, refl, sym, ap, ◌∙◌}
use mathlib.Core.Bool.{Bool, true, false, cond}
use mathlib.Core.Logic.{⊎_elim}
use mathlib.Core.List.{List, [], ◌∷◌, ◌++◌}
use Prim.Native.Nat.{ℕ, zero, suc, ◌+◌, ◌<◌}
use native.Mathlib.Nat.{zero-add}
use native.Mathlib.Omega.{arith}
use native.Mathlib.Numerals.{add-one}
use lib.ListN.{length}
use Rattle.words.specs.Bytes.{part}
use Rattle.words.proofs.Parts.{lt-or-le}
use Rattle.compare.specs.Lent.{same}
use Rattle.shelf.specs.Catalogue.{size_at, start_of, schema_in, schemas_to, number_among}
use Rattle.shelf.proofs.Standing.{length-schemas}

-- what is found stays where it is when more is put behind
number-old : (s : List ℕ) (xs ys : List (List ℕ)) → number_among s xs < length xs → number_among s (xs ++ ys) ≡ number_among s xs
unfolding number_among
number-old s [] ys h = absurd (omega arith)
number-old s (x ∷ xs) ys h = go (same x s) h (number-old s xs ys)
  where
    go : (b : Bool) → cond b 0 (suc (number_among s xs)) < suc (length xs)
        → (number_among s xs < length xs → number_among s (xs ++ ys) ≡ number_among s xs)
        → cond b 0 (suc (number_among s (xs ++ ys))) ≡ cond b 0 (suc (number_among s xs))
    go true h f = refl
    go false h f = ap suc (f (omega arith))

-- what is none of some is looked for behind them
number_behind : (s : List ℕ) (xs ys : List (List ℕ)) → number_among s xs ≡ length xs → number_among s (xs ++ ys) ≡ length xs + number_among s ys
unfolding number_among
number_behind s [] ys h = sym (zero-add (number_among s ys))
number_behind s (x ∷ xs) ys h = go (same x s) h (number_behind s xs ys)
  where
    go : (b : Bool) → cond b 0 (suc (number_among s xs)) ≡ suc (length xs)
        → (number_among s xs ≡ length xs → number_among s (xs ++ ys) ≡ length xs + number_among s ys)
        → cond b 0 (suc (number_among s (xs ++ ys))) ≡ suc (length xs) + number_among s ys
    go true h f = absurd (omega arith)
    go false h f = omega (arith, f (omega arith))

module _ (s : List ℕ) (xs : List (List ℕ)) (x : List ℕ) (h : number_among s xs ≡ length xs) where
  number-last : same x s ≡ true → number_among s (xs ++ (x ∷ [])) ≡ length xs
  unfolding number_among
  number-last e = number_behind s xs (x ∷ []) h ∙ rw e (omega arith)

  number-none : same x s ≡ false → number_among s (xs ++ (x ∷ [])) ≡ suc (length xs)
  unfolding number_among
  number-none e = number_behind s xs (x ∷ []) h ∙ rw e (omega arith)

-- ---- among the first schemas of a catalogue

module _ (t s : List ℕ) where
  -- s is none of the first i
  abbrev pub NoneTo : ℕ → Type 0
  NoneTo i = number_among s (schemas_to t i) ≡ i

  found-stays : (i n : ℕ) → i < n → number_among s (schemas_to t (suc i)) ≡ i → number_among s (schemas_to t n) ≡ i
  unfolding schemas_to
  found-stays i zero l e = absurd (omega arith)
  found-stays i (suc n) l e = ⊎_elim
      (λ m. number-old s (schemas_to t n) (schema_in t n ∷ []) (omega (arith, found-stays i n m e, length-schemas t n)) ∙ found-stays i n m e)
      (λ m. let q : n ≡ i = omega arith in rw q e)
      (lt-or-le i n)

  module _ (i at : ℕ) (r : Bool) (e : at ≡ start_of t i) (f : r ≡ same (part t (at + 2) (size_at t at)) s) (z : NoneTo i) where
    same_here : same (schema_in t i) s ≡ r
    unfolding schema_in
    same_here = sym (rw e at f)

    pub none-next : r ≡ false → NoneTo (i + 1)
    unfolding schemas_to
    none-next q =
        let long = length-schemas t i in
        rw (add-one i) (omega (arith, number-none s (schemas_to t i) (schema_in t i) (z ∙ sym long) (same_here ∙ q), long))

    pub number-here : r ≡ true → (n : ℕ) → i < n → i ≡ number_among s (schemas_to t n)
    unfolding schemas_to
    number-here q n l =
        sym (found-stays i n l (number-last s (schemas_to t i) (schema_in t i) (z ∙ sym (length-schemas t i)) (same_here ∙ q) ∙ length-schemas t i))
