-- The contents of a row as a tree. Assumes nothing: these are definitions.
use Rattle.std.specs.Prelude.{List, [], ◌∷◌, ℕ, length, get_or}
use Rattle.words.specs.Bytes.{zeros}

-- A null with the bytes that lie under it; a number's, string's or binary's bytes; the elements of a list, the two arrays of
-- a map (keys, values), the fields of a struct.
mutual
  pub data Cell : Type 0 where
    null : List ℕ → Cell
    leaf : List ℕ → Cell
    nodes : Cells → Cell

  pub data Cells : Type 0 where
    nil : Cells
    cons : Cell → Cells → Cells

-- Cells are a list
unfoldable pub from_cells : Cells → List Cell
from_cells nil = []
from_cells (cons c cs) = c ∷ from_cells cs

unfoldable pub to_cells : List Cell → Cells
to_cells [] = nil
to_cells (c ∷ cs) = cons c (to_cells cs)

abbrev pub node : List Cell → Cell
node cs = nodes (to_cells cs)

-- f of the bytes under a null, a for all else
unfoldable pub on_null {ℓ} : {A : Type ℓ} → (List ℕ → A) → A → Cell → A
on_null f a (null u) = f u
on_null f a (leaf u) = a
on_null f a (nodes cs) = a

-- 1 for a null
abbrev pub flag : Cell → ℕ
flag c = on_null (λ _. 1) 0 c

-- a leaf's bytes
unfoldable pub bytes : Cell → List ℕ
bytes (null u) = []
bytes (leaf u) = u
bytes (nodes cs) = []

-- what a container holds
unfoldable pub parts : Cell → List Cell
parts (null u) = []
parts (leaf u) = []
parts (nodes cs) = from_cells cs

abbrev pub part_of : ℕ → Cell → Cell
part_of i c = get_or (parts c) i (leaf [])

-- the same contents, with zeros under the nulls
unfoldable mutual
  pub clean : Cell → Cell
  clean (null u) = null (zeros (length u))
  clean (leaf u) = leaf u
  clean (nodes cs) = nodes (cleans cs)

  pub cleans : Cells → Cells
  cleans nil = nil
  cleans (cons c cs) = cons (clean c) (cleans cs)
