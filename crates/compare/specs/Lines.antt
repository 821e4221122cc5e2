-- What an entry says beside its depth, its place and its end: a leaf's is its line. Assumes nothing: these are definitions.
use Rattle.std.specs.Prelude.{ℕ, ◌/◌, ◌%◌, Bool, cond, List, [], ◌∷◌, ◌==◌, slice_index}

-- the constant table in the code: the lines of leaves, each at its kind
unfoldable pub leaves_of : List ℕ
leaves_of =
    4222818 ∷ 273101161 ∷ 546255465 ∷ 824128617 ∷ 1111439465 ∷ 1360999526 ∷ 1648310374 ∷ 1879078003
    ∷ 2147510626 ∷ 0 ∷ 0 ∷ 0 ∷ 0 ∷ 0 ∷ 0 ∷ 0 ∷ []

-- whether w is a leaf's line
unfoldable pub is_leaf : ℕ → Bool
is_leaf w = slice_index leaves_of (w / 268435456 % 16) == w

-- how many children a list or a map has by what its entry says; 0 where it says neither
unfoldable pub held_by : ℕ → ℕ
held_by w = cond (w % 18014398509481984 == 71135422828) 1 (cond (w % 18014398509481984 == 140123332973) 2 0)
