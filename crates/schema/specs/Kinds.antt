-- What the mark at a position says. Assumes nothing: these are definitions.
use Rattle.std.specs.Prelude.{Bool, true, false, List, [], ◌∷◌, ℕ, zero, suc, ◌+◌, eqb, ltb, get_or, drop}
use Rattle.schema.specs.Marks.{Sort, fixed, text as text_sort, list, map, struct, Entry, types, line}
use Rattle.schema.specs.Types.{Ty, fix, text, li, ma, ro, fixed_place, text_place}

-- what a mark says: a leaf with its place in the table, a container, or that it is none
pub data Kind : Type 0 where
  fixed_kind text_kind : ℕ → Kind
  list_kind map_kind struct_kind no_kind : Kind

abbrev pub pick : {A : Type 0} → Bool → A → A → A
pick true a b = a
pick false a b = b

abbrev pub is_mark : Entry → ℕ → ℕ → Bool
is_mark e a b = pick (eqb e.first a) (eqb e.second b) false

-- the place of the mark a b in a table, or the table's length
unfoldable pub find : ℕ → ℕ → List Entry → ℕ
find a b [] = zero
find a b (x ∷ xs) = pick (is_mark x a b) zero (suc (find a b xs))

unfoldable pub place_of : ℕ → ℕ → ℕ
place_of a b = find a b types

-- the kind of the type at place k, from the table's word for it
unfoldable pub kind_of : ℕ → Sort → Kind
kind_of k fixed = fixed_kind k
kind_of k text_sort = text_kind k
kind_of k list = list_kind
kind_of k map = map_kind
kind_of k struct = struct_kind

-- the kind of the type at a place of the table
unfoldable pub kind_of_place : ℕ → Kind
kind_of_place k = pick (ltb k 12) (kind_of k (line k).kind) no_kind

-- the kind of what a list begins with
unfoldable pub head_kind : List ℕ → Kind
head_kind [] = no_kind
head_kind (a ∷ []) = no_kind
head_kind (a ∷ b ∷ s) = kind_of_place (place_of a b)

unfoldable pub kind_at : List ℕ → ℕ → Kind
kind_at s at = head_kind (drop at s)

-- the place in the table of the mark at a position
unfoldable pub place_at : List ℕ → ℕ → ℕ
place_at s at = place_of (get_or s at 0) (get_or s (at + 1) 0)

-- the kind of a type's mark
abbrev pub kind_ty : Ty → Kind
kind_ty (fix f) = fixed_kind (fixed_place f)
kind_ty (text t) = text_kind (text_place t)
kind_ty (li t) = list_kind
kind_ty (ma k v) = map_kind
kind_ty (ro ts) = struct_kind
