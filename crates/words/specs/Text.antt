-- Text: well-formed UTF-8, by the ABNF of RFC 3629, section 4, a line of it at a time. Assumes nothing: these are definitions.
use Rattle.std.specs.Prelude.{List, [], ◌∷◌, ℕ, ◌≤◌}

-- %xLOW-HIGH
pub record In (low high x : ℕ) : Type 0 where
  pub from : low ≤ x
  pub to : x ≤ high

-- %xHH
abbrev pub Is : ℕ → ℕ → Type 0
Is h x = In h h x

-- UTF8-tail = %x80-BF
abbrev pub Tail : ℕ → Type 0
Tail x = In 0x80 0xBF x

-- UTF8-1 = %x00-7F
pub data One (a : ℕ) : Type 0 where
  x00-7F : In 0x00 0x7F a → One a

-- UTF8-2 = %xC2-DF UTF8-tail
pub data Two (a b : ℕ) : Type 0 where
  xc2-df : In 0xC2 0xDF a → Tail b → Two a b

-- UTF8-3 = %xE0 %xA0-BF UTF8-tail / %xE1-EC 2( UTF8-tail ) / %xED %x80-9F UTF8-tail / %xEE-EF 2( UTF8-tail )
pub data Three (a b c : ℕ) : Type 0 where
  xe0 : Is 0xE0 a → In 0xA0 0xBF b → Tail c → Three a b c
  xe1-ec : In 0xE1 0xEC a → Tail b → Tail c → Three a b c
  xed : Is 0xED a → In 0x80 0x9F b → Tail c → Three a b c
  xee-ef : In 0xEE 0xEF a → Tail b → Tail c → Three a b c

-- UTF8-4 = %xF0 %x90-BF 2( UTF8-tail ) / %xF1-F3 3( UTF8-tail ) / %xF4 %x80-8F 2( UTF8-tail )
pub data Four (a b c d : ℕ) : Type 0 where
  xf0 : Is 0xF0 a → In 0x90 0xBF b → Tail c → Tail d → Four a b c d
  xf1-f3 : In 0xF1 0xF3 a → Tail b → Tail c → Tail d → Four a b c d
  xf4 : Is 0xF4 a → In 0x80 0x8F b → Tail c → Tail d → Four a b c d

-- UTF8-octets = *( UTF8-char ), UTF8-char = UTF8-1 / UTF8-2 / UTF8-3 / UTF8-4
pub data WellFormed : List ℕ → Type 0 where
  none : WellFormed []
  utf8-1 : {a : ℕ} {u : List ℕ} → One a → WellFormed u → WellFormed (a ∷ u)
  utf8-2 : {a b : ℕ} {u : List ℕ} → Two a b → WellFormed u → WellFormed (a ∷ b ∷ u)
  utf8-3 : {a b c : ℕ} {u : List ℕ} → Three a b c → WellFormed u → WellFormed (a ∷ b ∷ c ∷ u)
  utf8-4 : {a b c d : ℕ} {u : List ℕ} → Four a b c d → WellFormed u → WellFormed (a ∷ b ∷ c ∷ d ∷ u)
