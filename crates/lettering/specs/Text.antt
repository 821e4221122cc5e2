-- Numbers, bytes and paths as text, in ASCII, and what putting it says. Assumes nothing: these are definitions.
use Rattle.std.specs.Prelude.{◌≡◌, cond, List, [], ◌∷◌, ◌++◌, ℕ, zero, suc, ◌+◌, ◌/◌, ◌%◌, ◌≤◌, ltb, ℤ, pos, negsuc, length}
use Rattle.std.proofs.lemmas.List.Edits.{sets}
use Rattle.io.specs.Digits.{hex_digit_ascii}
use Rattle.answers.specs.declared.Path.{Path}

-- ---- numbers

-- the last k hex digits of a number, lowercase, the most significant first
unfoldable pub hex : ℕ → ℕ → List ℕ
hex zero n = []
hex (suc k) n = hex k (n / 16) ++ (hex_digit_ascii (n % 16) ∷ [])

-- the decimal digits of a number, with no zero in front, and no more than the last k
unfoldable pub decimal_in : ℕ → ℕ → List ℕ
decimal_in zero n = []
decimal_in (suc k) n = cond (ltb n 10) (hex_digit_ascii n ∷ []) (decimal_in k (n / 10) ++ (hex_digit_ascii (n % 10) ∷ []))

-- a number of 64 bits, which has at most 20 digits
unfoldable pub decimal : ℕ → List ℕ
decimal n = decimal_in 20 n

-- `-` before a negative number
unfoldable pub signed : ℤ → List ℕ
signed (pos n) = decimal n
signed (negsuc n) = 45 ∷ decimal (suc n)

-- ---- bytes: two hex digits each, `-` if there are none

unfoldable pub hexes : List ℕ → List ℕ
hexes [] = []
hexes (b ∷ bs) = hex 2 b ++ hexes bs

unfoldable pub bytes : List ℕ → List ℕ
bytes [] = 45 ∷ []
bytes (b ∷ bs) = hexes (b ∷ bs)

-- ---- a path: its steps with dots between them

unfoldable pub dotted : List ℕ → List ℕ
dotted [] = []
dotted (i ∷ p) = (46 ∷ decimal i) ++ dotted p

unfoldable pub path : List ℕ → List ℕ
path [] = []
path (i ∷ p) = decimal i ++ dotted p

-- ---- a line

-- a word, a number, and the line's end
unfoldable pub numbered : List ℕ → ℕ → List ℕ
numbered word n = word ++ (decimal n ++ (10 ∷ []))

-- ---- putting text

-- the text stands at the place at, all else is as it was, and r is the place after it
pub record Puts (out : List ℕ) (at : ℕ) (text : List ℕ) (r : ℕ) (out' : List ℕ) : Type 0 where
  pub bytes : out' ≡ sets out at text
  pub next : r ≡ at + length text

-- what putting a path asks: room for sixteen steps of at most 20 digits, with their dots
pub record PathRoom (out : List ℕ) (at : ℕ) (p : Path) : Type 0 where
  pub room : at + 336 ≤ length out
  pub few : p.len ≤ 16
