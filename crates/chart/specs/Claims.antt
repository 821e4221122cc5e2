-- Claims of lines of a row, and the chart that they fill. Assumes nothing: these are definitions.
use Rattle.std.specs.Prelude.{Bool, not, cond, List, [], ◌∷◌, ◌++◌, ℕ, zero, suc, ◌+◌, ◌*◌, ◌/◌, eqb, ltb, length, get_or}
use Rattle.std.proofs.lemmas.List.Edits.{sets}
use Rattle.words.specs.Bytes.{part, fill}

-- A line is 8 bytes of the row, counted from 0. What stands there: 1 bitmap, 2 count, 3 size of keys, 4 slot, 5 slots, 6 text, 7 binary;
-- 8 more where padding follows. And the path of the place, or of the first of the elements on the line.
pub record Claim : Type 0 where
  pub line : ℕ
  pub what : ℕ
  pub path : List ℕ

-- ---- the chart: 18 words for each line

-- what stands there, the path's length, and its steps with zeros up to sixteen
unfoldable pub words : Claim → List ℕ
words c = c.what ∷ length c.path ∷ fill 16 c.path

-- the first claim has the line: a line is empty while its first word is 0
unfoldable pub claim : Claim → List ℕ → List ℕ
claim c m = cond (eqb (get_or m (18 * c.line) 0) 0) (sets m (18 * c.line) (words c)) m

unfoldable pub claim_all : List Claim → List ℕ → List ℕ
claim_all [] m = m
claim_all (c ∷ cs) m = claim_all cs (claim c m)

-- what stands at a line, and its path
abbrev pub what_at : List ℕ → ℕ → ℕ
what_at m line = get_or m (18 * line) 0

-- a line that some place has; none behind the chart's end is one
abbrev pub taken : List ℕ → ℕ → Bool
taken m line = not (eqb (what_at m line) 0)

-- a path's length, held to sixteen: the words of a chart could say any
abbrev pub held : ℕ → ℕ
held n = cond (ltb n 16) n 16

unfoldable pub steps_at : List ℕ → ℕ → List ℕ
steps_at m line = part m (18 * line + 2) (held (get_or m (18 * line + 1) 0))

-- ---- claims side by side

-- those that f gives for each number below n, in order
unfoldable pub up_to : (ℕ → List Claim) → ℕ → List Claim
up_to f zero = []
up_to f (suc n) = up_to f n ++ f n

-- what f does to a chart for each number below n, in order
unfoldable pub through : (ℕ → List ℕ → List ℕ) → ℕ → List ℕ → List ℕ
through f zero m = m
through f (suc n) m = f n (through f n m)

-- size bytes end inside the line j of theirs
abbrev pub padding : ℕ → ℕ → ℕ
padding size j = cond (ltb size (8 * j + 8)) 8 0

-- the line j of size bytes that start at the line l
abbrev pub byte_line : ℕ → ℕ → ℕ → List ℕ → ℕ → List Claim
byte_line l size what p j = record { line = l + j; what = what + padding size j; path = p } ∷ []

-- all of them
unfoldable pub byte_lines : ℕ → ℕ → ℕ → List ℕ → List Claim
byte_lines l size what p = up_to (byte_line l size what p) ((size + 7) / 8)

abbrev pub slot_word : ℕ → ℕ
slot_word w = cond (eqb w 8) 4 5

-- the same of size bytes of slots, w bytes each
abbrev pub slot_line : ℕ → ℕ → ℕ → List ℕ → ℕ → List Claim
slot_line l w size p j = record { line = l + j; what = slot_word w + padding size j; path = p ++ (8 * j / w ∷ []) } ∷ []

unfoldable pub slot_lines : ℕ → ℕ → ℕ → List ℕ → List Claim
slot_lines l w size p = up_to (slot_line l w size p) ((size + 7) / 8)
