-- The constant table: mark, bytes and kind of the twelve types. Assumes nothing: these are definitions.
use Rattle.std.specs.Prelude.{List, [], ◌∷◌, cond, ℕ, ltb, get_or}

-- the kinds of types: a fixed width, a text, a list, a map, a struct
pub data Sort : Type 0 where
  fixed text list map struct : Sort

-- a line of the table: the mark's two bytes; the bytes in a row, 0 where they vary; and the kind
pub record Entry : Type 0 where
  pub first : ℕ
  pub second : ℕ
  pub width : ℕ
  pub kind : Sort

abbrev pub entry : ℕ → ℕ → ℕ → Sort → Entry
entry a b w k = record { first = a; second = b; width = w; kind = k }

-- bo i1 i2 i4 i8 f4 f8 st bi li ma ro
unfoldable pub types : List Entry
types =
    entry 98 111 1 fixed
    ∷ entry 105 49 1 fixed
    ∷ entry 105 50 2 fixed
    ∷ entry 105 52 4 fixed
    ∷ entry 105 56 8 fixed
    ∷ entry 102 52 4 fixed
    ∷ entry 102 56 8 fixed
    ∷ entry 115 116 0 text
    ∷ entry 98 105 0 text
    ∷ entry 108 105 0 list
    ∷ entry 109 97 0 map
    ∷ entry 114 111 0 struct
    ∷ []

-- places of the table by name, as the code has them: the types before a string's have a fixed width, those before a list's are leaves
abbrev pub STRING : ℕ
STRING = 7

abbrev pub LIST : ℕ
LIST = 9

abbrev pub MAP : ℕ
MAP = 10

abbrev pub STRUCT : ℕ
STRUCT = 11

-- the line at a place of the table
abbrev pub line : ℕ → Entry
line k = get_or types k (entry 0 0 0 fixed)

-- the mark at a place of the table
unfoldable pub mark_at : ℕ → List ℕ
mark_at k = (line k).first ∷ (line k).second ∷ []

-- the bytes of an element of the type at a place of the table: a slot's 8 where they vary
unfoldable pub element_width : ℕ → ℕ
element_width k = cond (ltb k STRING) (line k).width 8
