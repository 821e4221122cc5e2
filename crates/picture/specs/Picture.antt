-- The picture of a row: a line for each 8 of its bytes, and a mark under its first wrong byte. Assumes nothing: these are definitions.
use Rattle.std.specs.Prelude.{Option as Fault, None, Some, cond, List, [], ◌∷◌, ◌++◌, ℕ, zero, suc, ◌+◌, ◌-◌, ◌*◌, ◌/◌, ◌%◌, eqb, ltb, length, get_or}
use Rattle.std.proofs.Math.Option.{Option, none, some}
use Rattle.io.specs.Digits.{hex_digit_ascii}
use Rattle.words.specs.Bytes.{part, zeros}
use Rattle.chart.specs.Claims.{what_at, steps_at}
use Rattle.chart.specs.Labels.{drawn}
use Rattle.lettering.specs.Text.{hex, path}

unfoldable pub spaces : ℕ → List ℕ
spaces zero = []
spaces (suc n) = 32 ∷ spaces n

-- ---- a line: the place of its first byte, its bytes, and its label

-- the decimal digits of a number, and no more than the last k, right aligned in k columns
unfoldable pub right : ℕ → ℕ → List ℕ
right zero n = []
right (suc k) n = cond (ltb n 10) (spaces k ++ (hex_digit_ascii n ∷ [])) (right k (n / 10) ++ (hex_digit_ascii (n % 10) ∷ []))

-- bytes, each a space and two hex digits
unfoldable pub spaced : List ℕ → List ℕ
spaced [] = []
spaced (b ∷ bs) = (32 ∷ hex 2 b) ++ spaced bs

-- how many of n bytes are on the line u
abbrev pub on_line : ℕ → ℕ → ℕ
on_line n u = cond (ltb (n - 8 * u) 8) (n - 8 * u) 8

-- what stands on a line, in words: bitmap, count, size of keys, slot, slots, text, binary
unfoldable pub word : ℕ → List ℕ
word w =
    get_or ([] ∷ (98 ∷ 105 ∷ 116 ∷ 109 ∷ 97 ∷ 112 ∷ []) ∷ (99 ∷ 111 ∷ 117 ∷ 110 ∷ 116 ∷ [])
    ∷ (115 ∷ 105 ∷ 122 ∷ 101 ∷ 32 ∷ 111 ∷ 102 ∷ 32 ∷ 107 ∷ 101 ∷ 121 ∷ 115 ∷ [])
    ∷ (115 ∷ 108 ∷ 111 ∷ 116 ∷ []) ∷ (115 ∷ 108 ∷ 111 ∷ 116 ∷ 115 ∷ [])
    ∷ (116 ∷ 101 ∷ 120 ∷ 116 ∷ []) ∷ (98 ∷ 105 ∷ 110 ∷ 97 ∷ 114 ∷ 121 ∷ []) ∷ []) w []

-- ` and padding` where what is 8 more
unfoldable pub padding : ℕ → List ℕ
padding w = cond (ltb w 8) [] (32 ∷ 97 ∷ 110 ∷ 100 ∷ 32 ∷ 112 ∷ 97 ∷ 100 ∷ 100 ∷ 105 ∷ 110 ∷ 103 ∷ [])

-- ` from ` for slots, else ` of `
unfoldable pub link : ℕ → List ℕ
link w = cond (eqb w 5) (32 ∷ 102 ∷ 114 ∷ 111 ∷ 109 ∷ 32 ∷ []) (32 ∷ 111 ∷ 102 ∷ 32 ∷ [])

-- and the path, but the root's is not said
unfoldable pub linked : ℕ → List ℕ → List ℕ
linked w [] = []
linked w (i ∷ p) = link w ++ path (i ∷ p)

unfoldable pub label : ℕ → List ℕ → List ℕ
label w p = word (w % 8) ++ (padding w ++ linked (w % 8) p)

-- the label behind k bytes, where there is one: two spaces behind the column where 8 bytes end
unfoldable pub labelled : ℕ → ℕ → List ℕ → List ℕ
labelled k w p = cond (eqb w 0) [] (spaces (3 * (8 - k) + 2) ++ label w p)

-- the line u of a row with its chart m
unfoldable pub line_of : List ℕ → List ℕ → ℕ → List ℕ
line_of row m u =
    right 5 (8 * u) ++ ((32 ∷ []) ++ (spaced (part row (8 * u) (on_line (length row) u))
    ++ (labelled (on_line (length row) u) (what_at m u) (steps_at m u) ++ (10 ∷ []))))

-- ---- the mark under a place: `^^` and the line's end

unfoldable pub mark : ℕ → List ℕ
mark place = spaces (7 + 3 * (place % 8)) ++ (94 ∷ 94 ∷ 10 ∷ [])

-- under the line u, where it has the place of the fault
unfoldable pub under : Option ℕ → ℕ → List ℕ
under none u = []
under (some place) u = cond (eqb (place / 8) u) (mark place) []

-- behind the last of n lines, where none of them has it
unfoldable pub behind : Option ℕ → ℕ → List ℕ
behind none n = []
behind (some place) n = cond (ltb (place / 8) n) [] (mark place)

-- ---- the whole picture

-- the first n lines, each with the mark under it
unfoldable pub lines_to : List ℕ → List ℕ → Option ℕ → ℕ → List ℕ
lines_to row m fault zero = []
lines_to row m fault (suc u) = lines_to row m fault u ++ (line_of row m u ++ under fault u)

abbrev pub line_count : List ℕ → ℕ
line_count row = (length row + 7) / 8

unfoldable pub picture : List ℕ → List ℕ → Option ℕ → List ℕ
picture row m fault = lines_to row m fault (line_count row) ++ behind fault (line_count row)

-- the place of a row's fault, as code says it: a sound row has none
abbrev pub fault_of : Fault ℕ → Option ℕ
fault_of None = none
fault_of (Some place) = some place

-- the picture with the chart of the row's places
abbrev pub shown : List ℕ → List ℕ → Option ℕ → List ℕ
shown s row fault = picture row (drawn s row (zeros 36864)) fault
