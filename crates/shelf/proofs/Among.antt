-- The number of a schema among others: it stands there, none before it is the same, and each of different ones has its own. Assumes nothing.
use mathlib.Core.Path.{◌≡◌, refl, sym, subst}
use mathlib.Core.Logic.{◌⊎◌, inl, inr}
use mathlib.Core.Bool.{Bool, true, false, cond}
use mathlib.Core.List.{List, [], ◌∷◌}
use Prim.Native.Nat.{ℕ, zero, suc, ◌≤◌, ◌<◌}
use native.Mathlib.Nat.{not-suc-le-zero, le_of_suc-le-suc}
use native.Mathlib.Omega.{arith}
use lib.Dec.{T}
use lib.ListN.{length, get_or}
use borrow.Author.Tests.{ltb-true, ltb-false, lt-ltb}
use Rattle.words.proofs.Parts.{lt-or-le}
use Rattle.compare.specs.Lent.{same}
use Rattle.compare.proofs.Lent.{same_self, same-eq}
use Rattle.shelf.specs.Catalogue.{number_among, among}

pub number-most : (s : List ℕ) (ss : List (List ℕ)) → number_among s ss ≤ length ss
unfolding number_among
number-most s [] = omega arith
number-most s (x ∷ xs) = go (same x s) (number-most s xs)
  where
    go : (b : Bool) → number_among s xs ≤ length xs → cond b 0 (suc (number_among s xs)) ≤ suc (length xs)
    go true h = omega arith
    go false h = omega arith

-- where it is among them it stands at its number
pub number_is : (s : List ℕ) (ss : List (List ℕ)) → number_among s ss < length ss → get_or ss (number_among s ss) [] ≡ s
unfolding number_among
number_is s [] h = absurd (not-suc-le-zero h)
number_is s (x ∷ xs) h = go (same x s) refl h (λ l. number_is s xs l)
  where
    go : (b : Bool) → same x s ≡ b → cond b 0 (suc (number_among s xs)) < suc (length xs)
        → (number_among s xs < length xs → get_or xs (number_among s xs) [] ≡ s) → get_or (x ∷ xs) (cond b 0 (suc (number_among s xs))) [] ≡ s
    go true e l f = same-eq x s (subst T (sym e) tt)
    go false e l f = f (le_of_suc-le-suc l)

-- and it is the first that is the same
pub number-first : (s : List ℕ) (ss : List (List ℕ)) (i : ℕ) → i < length ss → get_or ss i [] ≡ s → number_among s ss ≤ i
unfolding number_among
number-first s [] i h e = absurd (not-suc-le-zero h)
number-first s (x ∷ xs) zero h e = rw (e, same_self s) (omega arith)
number-first s (x ∷ xs) (suc i) h e = go (same x s) (number-first s xs i (le_of_suc-le-suc h) e)
  where
    go : (b : Bool) → number_among s xs ≤ i → cond b 0 (suc (number_among s xs)) ≤ suc i
    go true l = omega arith
    go false l = omega arith

pub among-at : (s : List ℕ) (ss : List (List ℕ)) (i : ℕ) → i < length ss → get_or ss i [] ≡ s → among s ss ≡ true
among-at s ss i h e = lt-ltb (number_among s ss) (length ss) (omega (arith, number-first s ss i h e))

pub not-among-at : (s : List ℕ) (ss : List (List ℕ)) (i : ℕ) → among s ss ≡ false → i < length ss → get_or ss i [] ≡ s → ⊥
not-among-at s ss i n h e = omega (arith, ltb-false (number_among s ss) (length ss) n, number-first s ss i h e)

-- it is not among them where it is none of them
pub among_none : (s : List ℕ) (ss : List (List ℕ)) → ((i : ℕ) → i < length ss → get_or ss i [] ≡ s → ⊥) → among s ss ≡ false
among_none s ss n = go (among s ss) refl
  where
    go : (b : Bool) → among s ss ≡ b → among s ss ≡ false
    go false e = e
    go true e = let l = ltb-true (number_among s ss) (length ss) e in absurd (n (number_among s ss) l (number_is s ss l))

-- and then its number is the next
pub number-next : (s : List ℕ) (ss : List (List ℕ)) → among s ss ≡ false → number_among s ss ≡ length ss
number-next s ss n = omega (arith, ltb-false (number_among s ss) (length ss) n, number-most s ss)

-- among different ones each has its own number
pub number-own : (ss : List (List ℕ)) (i : ℕ) → ((i j : ℕ) → i < j → j < length ss → get_or ss i [] ≡ get_or ss j [] → ⊥) → i < length ss
    → number_among (get_or ss i []) ss ≡ i
number-own ss i d h = go (lt-or-le (number_among (get_or ss i []) ss) i)
  where
    go : (number_among (get_or ss i []) ss < i) ⊎ (i ≤ number_among (get_or ss i []) ss) → number_among (get_or ss i []) ss ≡ i
    go (inl l) = absurd (d (number_among (get_or ss i []) ss) i l h (number_is (get_or ss i []) ss (omega arith)))
    go (inr l) = omega (arith, number-first (get_or ss i []) ss i h refl)
