-- The search of a mark in the table, and the kind of what stands at a position. Assumes nothing.
use mathlib.Core.Path.{◌≡◌, refl}
use mathlib.Core.Bool.{Bool, true, false}
use mathlib.Core.List.{List, [], ◌∷◌}
use Prim.Native.Nat.{ℕ, zero, suc, ◌+◌, ◌-◌, ◌≤◌, ◌<◌}
use native.Mathlib.Numerals.{add-one}
use native.Mathlib.Omega.{arith}
use lib.ListN.{length, get_or, drop_of_length-le}
use lib.Seq.{drop-cons}
use lib.Dec.{eqb}
use borrow.Author.Tests.{eqb-true, le-ltb}
use Rattle.schema.specs.Marks.{fixed, Entry, entry, types, line}
use Rattle.schema.specs.Kinds.{find, pick, is_mark, kind_of_place, place_of, head_kind, kind_at, no_kind}

-- a line that has the mark a b
pub record Marks (e : Entry) (a b : ℕ) : Type 0 where
  pub first : e.first ≡ a
  pub second : e.second ≡ b

marks : (e : Entry) (a b : ℕ) → is_mark e a b ≡ true → Marks e a b
marks e a b h = go (eqb e.first a) refl h
  where
    go : (t : Bool) → eqb e.first a ≡ t → pick t (eqb e.second b) false ≡ true → Marks e a b
    go true p q = record { first = eqb-true _ _ p; second = eqb-true _ _ q }
    go false p q = let z : ◌≡◌ {A = ℕ} 0 1 = cc in absurd (omega arith)

twelve : length types ≡ 12
unfolding types
twelve = refl

-- a search ends at a line that has the mark, or behind the table
find-is : (a b : ℕ) (xs : List Entry) → find a b xs < length xs → is_mark (get_or xs (find a b xs) (entry 0 0 0 fixed)) a b ≡ true
unfolding find
find-is a b [] h = absurd (omega arith)
find-is a b (x ∷ xs) h = go (is_mark x a b) refl (find-is a b xs) h
  where
    go : (t : Bool) → is_mark x a b ≡ t → (find a b xs < length xs → is_mark (get_or xs (find a b xs) (entry 0 0 0 fixed)) a b ≡ true)
        → pick t zero (suc (find a b xs)) < suc (length xs) → is_mark (get_or (x ∷ xs) (pick t zero (suc (find a b xs))) (entry 0 0 0 fixed)) a b ≡ true
    go true p f q = p
    go false p f q = f (omega arith)

place_is : (a b : ℕ) → place_of a b < 12 → is_mark (line (place_of a b)) a b ≡ true
unfolding place_of
place_is a b h = find-is a b types (omega (arith, twelve))

pub place-marks : (a b : ℕ) → place_of a b < 12 → Marks (line (place_of a b)) a b
place-marks a b h = marks (line (place_of a b)) a b (place_is a b h)

-- ---- from a place to a kind

pub placed-out : (k : ℕ) → 12 ≤ k → kind_of_place k ≡ no_kind
unfolding kind_of_place
placed-out k h = rw (le-ltb k 12 h)

module _ (s : List ℕ) (at : ℕ) where
  pub kind-past : length s ≤ at → kind_at s at ≡ no_kind
  unfolding head_kind kind_at
  kind-past h = rw (drop_of_length-le s h)

  pub kind-short : at < length s → length s - at < 2 → kind_at s at ≡ no_kind
  unfolding head_kind kind_at
  kind-short h k = rw (drop-cons s at 0 h, drop_of_length-le s {i = suc at} (omega arith))

  pub kind-two : at + 1 < length s → kind_at s at ≡ kind_of_place (place_of (get_or s at 0) (get_or s (at + 1) 0))
  unfolding head_kind kind_at
  kind-two h = rw (drop-cons s at 0 (omega arith), ← add-one at, drop-cons s (at + 1) 0 h)
