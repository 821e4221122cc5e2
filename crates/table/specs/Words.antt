-- An entry of a schema's table: one word of 64 bits. Assumes nothing: these are definitions.
use Rattle.std.specs.Prelude.{◌≡◌, ℕ, ◌+◌, ◌-◌, ◌*◌, ◌/◌, ◌%◌, ◌<◌, cond, List, [], ◌∷◌, ◌==◌, nat_le, slice_index, slice_index_or}
use Rattle.words.specs.Bytes.{num}
use Rattle.schema.specs.Marks.{line, mark_at, STRUCT}

-- the highest bit of a fixed-width type's contents in a slot, by its place in the table of types; 0 where they vary
abbrev pub top_bit : ℕ → ℕ
top_bit k = slice_index (0 ∷ 7 ∷ 15 ∷ 31 ∷ 63 ∷ 31 ∷ 63 ∷ []) k

-- The line of a type as a word. Bits 0 to 15 the mark's two bytes, 16 to 21 the top bit, 22 to 25 the width, 0 where it varies,
unfoldable pub lower : ℕ → ℕ
lower k = (line k).first + (line k).second * 256 + top_bit k * 65536 + (line k).width * 4194304

-- and 28 to 31 the kind: the type's place in the table of types.
unfoldable pub line_word : ℕ → ℕ
line_word k = lower k + k * 268435456

-- the type at place k of the table of types, of depth d, with n children, which stands at place i: bits 32 to 35 the depth, 36 to 43 the
-- number of children, 44 to 53 the place of the first child, 54 to 63 the place e after the last descendant
unfoldable pub word : ℕ → ℕ → ℕ → ℕ → ℕ → ℕ
word k d n i e = line_word k + d * 4294967296 + n * 68719476736 + (i + 1) * 17592186044416 + e * 18014398509481984

-- what an entry says
unfoldable pub mark_in : ℕ → ℕ
mark_in w = w % 65536

unfoldable pub top_in : ℕ → ℕ
top_in w = w / 65536 % 64

unfoldable pub width_in : ℕ → ℕ
width_in w = w / 4194304 % 16

unfoldable pub place_in : ℕ → ℕ
place_in w = w / 268435456 % 16

unfoldable pub count_in : ℕ → ℕ
count_in w = w / 68719476736 % 256

unfoldable pub after_in : ℕ → ℕ
after_in w = w / 18014398509481984

-- it says what the table of types says of its kind
pub record Lined (w : ℕ) : Type 0 where
  pub few : place_in w < 12
  pub mark : mark_in w ≡ num (mark_at (place_in w))
  pub width : width_in w ≡ (line (place_in w)).width
  pub top : top_in w ≡ top_bit (place_in w)

-- the bytes of the schema that an entry stands for: its mark, and of a struct the field count
unfoldable pub bytes_in : ℕ → List ℕ
bytes_in w = w % 256 ∷ w / 256 % 256 ∷ cond (place_in w == STRUCT) (count_in w ∷ []) []

-- the constant table in the code, by its marks
unfoldable pub lines_of : List ℕ
lines_of =
    1648310374 ∷ 1111439465 ∷ 273101161 ∷ 1360999526 ∷ 824128617 ∷ 1879078003 ∷ 0 ∷ 2147510626
    ∷ 2415946092 ∷ 0 ∷ 0 ∷ 4222818 ∷ 2952818546 ∷ 546255465 ∷ 2684379501 ∷ 0 ∷ []

-- what stands where the mark numbered m can stand: m is a mark where that is a line whose mark is m
unfoldable pub line_for : ℕ → ℕ
line_for m = slice_index lines_of (m * 109 / 1024 % 16)

-- m is the number of the two bytes at a position
pub record MarkAt (s : List ℕ) (at m : ℕ) : Type 0 where
  pub number : m ≡ slice_index s at + 256 * slice_index s (at + 1)
  pub first : slice_index_or s at 0 < 256
  pub second : slice_index_or s (at + 1) 0 < 256

-- how many children a container has, whose place in the table of types is k and whose mark ends at a position; 0 where that is refused
unfoldable pub held_at : List ℕ → ℕ → ℕ → ℕ
held_at s at k = cond (k == 11) (cond (nat_le (slice_index s at) 128) (slice_index s at) 0) (k - 8)

-- where its first child's type stands
unfoldable pub behind_at : ℕ → ℕ → ℕ
behind_at at k = cond (k == 11) (at + 1) at
