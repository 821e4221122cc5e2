-- What the steps of the test of text answer: a run of ASCII, the character at the front, its second byte. Assumes nothing: these are definitions.
use Rattle.std.specs.Prelude.{cond, ◌≡◌, List, [], ◌∷◌, ℕ, ◌-◌, ◌<◌, eqb, get_or}
use Rattle.words.specs.Bytes.{part}
use Rattle.words.specs.Text.{In}
use Rattle.words.specs.TextTest.{char_size, is_text}

-- every one is below 128
pub data Ascii : List ℕ → Type 0 where
  bare : Ascii []
  ascii : {a : ℕ} {u : List ℕ} → a < 0x80 → Ascii u → Ascii (a ∷ u)

-- up to stop it is text from i on where it is from at on
abbrev pub Same : List ℕ → ℕ → ℕ → ℕ → Type 0
Same b at stop i = is_text (part b i (stop - i)) ≡ is_text (part b at (stop - at))

-- how many bytes the character takes that stands at the front of u; 0 where none does
unfoldable pub front_size : List ℕ → ℕ
front_size u = char_size (get_or u 0 0) (get_or u 1 0) (get_or u 2 0) (get_or u 3 0)

-- the bounds of the byte behind a, the first of a character of more than one
unfoldable pub low_behind : ℕ → ℕ
low_behind a = cond (eqb a 0xE0) 0xA0 (cond (eqb a 0xF0) 0x90 0x80)

unfoldable pub high_behind : ℕ → ℕ
high_behind a = cond (eqb a 0xED) 0x9F (cond (eqb a 0xF4) 0x8F 0xBF)

-- a and b are the first two bytes of such a character
pub record Begins (a b : ℕ) : Type 0 where
  pub lead : In 0xC2 0xF4 a
  pub behind : In (low_behind a) (high_behind a) b
