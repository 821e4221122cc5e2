-- What a listing holds at a path, and what reading the place in the row that it lists answers. Assumes nothing: these are definitions.
use Rattle.std.specs.Prelude.{◌≡◌, List, [], ◌∷◌, ◌++◌, ℕ, ◌≤◌, ◌<◌, length, get_or}
use Rattle.words.specs.Bytes.{le, part}
use Rattle.schema.specs.Types.{Fixed, width, Text, Ty, fix, text, li, ma, ro, Tys, count, field, mark}
use Rattle.layout.specs.Cells.{Cell}
use Rattle.layout.specs.Refusals.{numbered}
use Rattle.layout.specs.Layout.{Fits, Lays}
use Rattle.layout.specs.Listing.{nu, listing}
use Rattle.layout.specs.Walk.{child_ty}
use Rattle.layout.specs.Reading as R
use Rattle.layout.specs.Reading.{Answer, value_of}

-- a record of a child of type t: nu, or contents of the type, listed
pub data Record (t : Ty) : List ℕ → Type 0 where
  null : Record t nu
  present : (c : Cell) → Fits t c → Record t (listing t c)

-- rs are records of children of these types
abbrev pub Records : (ℕ → Ty) → List (List ℕ) → Type 0
Records types rs = (i : ℕ) → i < length rs → Record (types i) (get_or rs i [])

-- one after another
unfoldable pub in_turn : List (List ℕ) → List ℕ
in_turn [] = []
in_turn (r ∷ rs) = r ++ in_turn rs

-- a list's own record, by its elements'
abbrev pub as_list : Ty → List (List ℕ) → List ℕ
as_list t rs = mark (li t) ++ (le 4 (length rs) ++ in_turn rs)

-- The record of a container of type t holds the records rs of its children: a struct's fields, a list's elements, and of a map, which
-- has one count, all keys and all values, the keys as a list and the values as a list.
pub data Holds : Ty → List ℕ → List (List ℕ) → Type 0 where
  fields : (ts : Tys) (rs : List (List ℕ)) → length rs ≡ count ts → Records (field ts) rs → Holds (ro ts) (mark (ro ts) ++ in_turn rs) rs
  elements : (t : Ty) (rs : List (List ℕ)) → Records (λ _. t) rs → Holds (li t) (as_list t rs) rs
  arrays : (k v : Ty) (ks vs : List (List ℕ)) → length ks ≡ length vs → Records (λ _. k) ks → Records (λ _. v) vs
      → Holds (ma k v) (mark (ma k v) ++ (le 4 (length ks) ++ (in_turn ks ++ in_turn vs))) (as_list k ks ∷ as_list v vs ∷ [])

-- What the path reads as, from a place of type t that is listed as this record: null for nu, a number for its bytes, and for a string or
-- binary a range in which the row holds its bytes; for a container a range that stands for it, and how many children it holds; 5 where it
-- holds no such child, and 6 where nu stands before the path's end.
pub data ReadsAs (row : List ℕ) : List ℕ → Ty → List ℕ → Answer → Type 0 where
  null : {t : Ty} → ReadsAs row [] t nu R.null
  number : (f : Fixed) (u : List ℕ) → length u ≡ width f → ReadsAs row [] (fix f) (mark (fix f) ++ u) (value_of f u)
  string : (k : Text) (u : List ℕ) (o : ℕ) → part row o (length u) ≡ u
      → ReadsAs row [] (text k) (mark (text k) ++ (le 4 (length u) ++ u)) (R.bytes o (length u))
  container : (t : Ty) (c : Cell) (u : List ℕ) (rs : List (List ℕ)) (o : ℕ) → Lays t c u → part row o (length u) ≡ u → Holds t (listing t c) rs
      → ReadsAs row [] t (listing t c) (R.container o (length u) (length rs))
  nowhere : {i : ℕ} {p : List ℕ} {t : Ty} {r : List ℕ} {rs : List (List ℕ)} → Holds t r rs → length rs ≤ i → ReadsAs row (i ∷ p) t r (R.refused (numbered 5))
  under : {i : ℕ} {p : List ℕ} {t : Ty} → ReadsAs row (i ∷ p) t nu (R.refused (numbered 6))
  on : {i : ℕ} {p : List ℕ} {t : Ty} {r : List ℕ} {rs : List (List ℕ)} {a : Answer} → Holds t r rs → i < length rs
      → ReadsAs row p (child_ty t i) (get_or rs i []) a → ReadsAs row (i ∷ p) t r a
