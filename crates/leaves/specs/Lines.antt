-- A line of the card, in ASCII: a path, a mark and contents. Assumes nothing: these are definitions.
use Rattle.std.specs.Prelude.{List, [], ◌∷◌, ◌++◌, ℕ, ◌+◌}
use Rattle.words.specs.Bytes.{part}
use Rattle.words.specs.Bits.{digit}
use Rattle.layout.specs.Reading as R
use Rattle.layout.specs.Reading.{Answer}
use Rattle.lettering.specs.Text.{hex, signed, bytes, path}

-- `null`; a decimal number, a bool as 0 or 1; a float's bits in 8 or 16 hex digits; a string's or binary's bytes
unfoldable pub contents : List ℕ → Answer → List ℕ
contents row R.null = 110 ∷ 117 ∷ 108 ∷ 108 ∷ []
contents row (R.bool v) = (48 + digit v) ∷ []
contents row (R.signed z) = signed z
contents row (R.float32 n) = hex 8 n
contents row (R.float64 n) = hex 16 n
contents row (R.bytes o n) = bytes (part row o n)
contents row (R.container o n k) = []
contents row (R.refused r) = []

-- path, space, mark, space, contents, and the line's end
unfoldable pub line : List ℕ → List ℕ → List ℕ → Answer → List ℕ
line p mark row a = path p ++ ((32 ∷ []) ++ (mark ++ ((32 ∷ []) ++ (contents row a ++ (10 ∷ [])))))
