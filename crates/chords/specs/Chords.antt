-- A chord, and the row that keeps one or two. Assumes nothing: these are definitions.
use Rattle.std.specs.Prelude.{Bool, true, false, List, [], ◌∷◌, ◌++◌, ℕ, ◌^◌, ◌<◌}
use Rattle.std.proofs.Math.Option.{Option, none, some}
use Rattle.words.specs.Bytes.{le}
use Rattle.words.specs.Signed.{half_of, of_signed}
use Rattle.layout.specs.Refusals.{Refusal, broken_at}
use Rattle.layout.specs.Listing.{nu}
use Rattle.layout.specs.Places.{start_of}
use Rattle.layout.specs.Reading as R
use Rattle.layout.specs.Reading.{Answer}
use Rattle.layout.specs.Setting.{◌or◌, or_empty}
use Rattle.layout.specs.Entries.{row_long, layout_bad, read_of, image_of}
use Rattle.chords.specs.declared.Chord.{Chord}

abbrev pub chord : ℕ → ℕ → Chord
chord t k = record { tick = t; keys = k }

-- a tick and a key mask of 32 bits each
pub record Proper (c : Chord) : Type 0 where
  pub tick : c.tick < 2 ^ 32
  pub keys : c.keys < 2 ^ 32

-- ---- the row of one or two chords

-- `ro` 2, and twice a stroke: `ro` 2 `i4` `i4`, its tick and its keys
unfoldable pub schema : List ℕ
schema =
    0x72 ∷ 0x6f ∷ 2 ∷ 0x72 ∷ 0x6f ∷ 2 ∷ 0x69 ∷ 0x34 ∷ 0x69 ∷ 0x34 ∷ 0x72 ∷ 0x6f ∷ 2 ∷ 0x69 ∷ 0x34 ∷ 0x69 ∷ 0x34 ∷ []

-- the record of an int32 with the same bits
abbrev pub number : ℕ → List ℕ
number x = 0x69 ∷ 0x34 ∷ le 4 x

-- the record of a stroke
abbrev pub stroke : Chord → List ℕ
stroke c = 0x72 ∷ 0x6f ∷ (number c.tick ++ number c.keys)

-- the record of the second place
abbrev pub second : Option Chord → List ℕ
second none = nu
second (some d) = stroke d

-- the listing of a row whose first place has the chord c, and its second d or null
unfoldable pub listed : Chord → Option Chord → List ℕ
listed c d = 0x72 ∷ 0x6f ∷ (stroke c ++ second d)

-- the row that writing gives for it
unfoldable pub row_for : Chord → Option Chord → List ℕ
row_for c d = or_empty (image_of schema (listed c d))

-- ---- the chords of a row, by what its places read

-- an int32's bits
abbrev pub bits_of : Answer → ℕ
bits_of R.null = 0
bits_of (R.bool v) = 0
bits_of (R.signed z) = of_signed (half_of 4) z
bits_of (R.float32 n) = 0
bits_of (R.float64 n) = 0
bits_of (R.bytes o n) = 0
bits_of (R.container o n k) = 0
bits_of (R.refused r) = 0

abbrev pub is_null : Answer → Bool
is_null R.null = true
is_null (R.bool v) = false
is_null (R.signed z) = false
is_null (R.float32 n) = false
is_null (R.float64 n) = false
is_null (R.bytes o n) = false
is_null (R.container o n k) = false
is_null (R.refused r) = false

-- stroke i is null; number j of stroke i is, 0 its tick and 1 its keys
unfoldable pub no_stroke : List ℕ → ℕ → Bool
no_stroke row i = is_null (read_of schema row (i ∷ []))

unfoldable pub no_number : List ℕ → ℕ → ℕ → Bool
no_number row i j = is_null (read_of schema row (i ∷ j ∷ []))

-- the byte of the row that stroke i starts at
unfoldable pub stroke_start : List ℕ → ℕ → ℕ
stroke_start row i = start_of (read_of schema row (i ∷ []))

-- the chord of stroke i
unfoldable pub chord_at : List ℕ → ℕ → Chord
chord_at row i = chord (bits_of (read_of schema row (i ∷ 0 ∷ []))) (bits_of (read_of schema row (i ∷ 1 ∷ [])))

-- ---- which rows a log may have

-- 7 at a bitmap's byte, where a bit of it says null
abbrev pub null_bad : Bool → ℕ → Option Refusal
null_bad true place = some (broken_at place)
null_bad false place = none

-- only the second stroke may be null: not the first, in the row's bitmap, and no tick and no keys, in their stroke's
unfoldable pub nulls_bad : List ℕ → Option Refusal
nulls_bad row =
    null_bad (no_stroke row 0) 0
    or null_bad (no_number row 0 0) (stroke_start row 0) or null_bad (no_number row 0 1) (stroke_start row 0)
    or null_bad (no_number row 1 0) (stroke_start row 1) or null_bad (no_number row 1 1) (stroke_start row 1)

-- 3 and 7 as a check gives them, and then 7 for a null
unfoldable pub row_bad : List ℕ → Option Refusal
row_bad row = row_long row or layout_bad schema row or nulls_bad row
