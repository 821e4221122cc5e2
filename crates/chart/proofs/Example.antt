-- Three rows, computed: the broken one of the picture's description, in which two fields hold the same bytes; one with a place of each
-- kind; and a broken one in which the rule of a taken first line shows. Assumes nothing.
use mathlib.Core.Path.{◌≡◌, refl}
use mathlib.Core.List.{List, [], ◌∷◌, ◌++◌}
use Prim.Native.Nat.{ℕ}
use native.Mathlib.Decide.{dec_le, dec_lt, ℕ_discrete}
use Rattle.words.specs.Bytes.{le, num, fill, zeros}
use Rattle.words.proofs.TextComputes.{text-computes}
use Rattle.schema.specs.Marks.{types, mark_at}
use Rattle.schema.specs.Kinds.{find, place_of, kind_of, kind_of_place as placed_kind, head_kind, kind_at}
use Rattle.schema.specs.Types.{fixed_place, text_place, fixed_at, text_at, width, count, field}
use Rattle.schema.specs.Reading.{parse_all, parse_ro, parse_kind, parse_type, judged}
use Rattle.schema.specs.Walk.{type_at as ty_at, fields_of}
use Rattle.layout.specs.Reader.{assert}
use Rattle.layout.specs.Layout.{spells?, number, string, slot_of, struct, array, pair, limit, codec}
use Rattle.layout.specs.Walk.{must, must_step, own, by_slot, by_flag, child, step_in, go_on, walk}
use Rattle.layout.specs.Reading.{type_along, placed, value_of, answer_of, found, read_in}
use Rattle.layout.specs.Entries.{read_of}
use Rattle.reading.specs.Children.{wide_of}
use Rattle.reading.specs.Places.{slot_width}
use Rattle.chart.specs.Claims.{words, claim, claim_all, through, up_to, byte_lines, slot_lines, what_at, steps_at}
use Rattle.chart.specs.Labels.{header, child_lines, labelled, labels_by, labels_in, labels_at, drawn_from, drawn}

-- ---- the picture's

-- `ro` 2, twice `ro` 2 `i8` `i8`
abbrev inner : List ℕ
inner = 0x72 ∷ 0x6f ∷ 2 ∷ 0x69 ∷ 0x38 ∷ 0x69 ∷ 0x38 ∷ []

abbrev schema : List ℕ
schema = (0x72 ∷ 0x6f ∷ 2 ∷ []) ++ inner ++ inner

abbrev slot : ℕ → ℕ → List ℕ
slot offset size = le 4 size ++ le 4 offset

abbrev row : List ℕ
row = zeros 8 ++ slot 24 24 ++ slot 24 24 ++ zeros 8 ++ le 8 1000 ++ le 8 5

-- ---- one with a place of each kind

-- `ro` 4 `st` `li` `i2` `ma` `i1` `bi` `st`
abbrev schema₂ : List ℕ
schema₂ = 0x72 ∷ 0x6f ∷ 4 ∷ 0x73 ∷ 0x74 ∷ 0x6c ∷ 0x69 ∷ 0x69 ∷ 0x32 ∷ 0x6d ∷ 0x61 ∷ 0x69 ∷ 0x31 ∷ 0x62 ∷ 0x69 ∷ 0x73 ∷ 0x74 ∷ []

-- `hello`; a list of five numbers; a map with one entry, whose value has 8 bytes; a null
abbrev row₂ : List ℕ
row₂ =
    le 8 8 ++ slot 40 5 ++ slot 48 32 ++ slot 80 64 ++ zeros 8
    ++ (0x68 ∷ 0x65 ∷ 0x6c ∷ 0x6c ∷ 0x6f ∷ zeros 3)
    ++ le 8 5 ++ zeros 8 ++ le 2 1 ++ le 2 2 ++ le 2 3 ++ le 2 4 ++ le 2 5 ++ zeros 6
    ++ le 8 24 ++ (le 8 1 ++ zeros 8 ++ le 8 7) ++ (le 8 1 ++ zeros 8 ++ slot 24 8 ++ le 8 9)

-- ---- one in which field 1 reads field 0's struct as another type

-- `ro` 2, `ro` 1 `i8`, `ro` 1 `st`
abbrev schema₃ : List ℕ
schema₃ = 0x72 ∷ 0x6f ∷ 2 ∷ 0x72 ∷ 0x6f ∷ 1 ∷ 0x69 ∷ 0x38 ∷ 0x72 ∷ 0x6f ∷ 1 ∷ 0x73 ∷ 0x74 ∷ []

-- the number of 0.0 is where 1.0 has its slot, that of a text of 8 bytes
abbrev row₃ : List ℕ
row₃ = zeros 8 ++ slot 24 24 ++ slot 24 24 ++ zeros 8 ++ slot 16 8 ++ le 8 9

-- to unfold this is to unfold the definitions
computes : Unit {0}
unfolding le num fill types mark_at find place_of kind_of placed_kind head_kind kind_at fixed_place text_place fixed_at text_at width count field
    parse_all parse_ro parse_kind parse_type judged ty_at fields_of assert text-computes spells? number string slot_of struct array pair limit codec
    must must_step own by_slot by_flag child step_in go_on walk type_along placed value_of answer_of found read_in read_of wide_of slot_width
    words claim claim_all through up_to byte_lines slot_lines child_lines labelled labels_by labels_in labels_at drawn_from drawn steps_at
    dec_le dec_lt ℕ_discrete
computes = tt

-- field 1 claims the lines that field 0 has, and does not get them
pub example : drawn schema row (zeros 108)
    ≡ claim_all
    (header 0 1 [] ∷ header 1 4 (0 ∷ []) ∷ header 2 4 (1 ∷ [])
    ∷ header 3 1 (0 ∷ []) ∷ header 4 4 (0 ∷ 0 ∷ []) ∷ header 5 4 (0 ∷ 1 ∷ []) ∷ [])
    (zeros 108)
unfolding computes
example = refl

abbrev chart : List ℕ
chart = drawn schema row (zeros 108)

pub example-first : (what_at chart 3 ≡ 1) × (steps_at chart 3 ≡ 0 ∷ []) × (what_at chart 5 ≡ 4) × (steps_at chart 5 ≡ 0 ∷ 1 ∷ [])
unfolding computes
example-first = (refl, refl, refl, refl)

pub example-kinds : drawn schema₂ row₂ (zeros 324)
    ≡ claim_all
    (header 0 1 [] ∷ header 1 4 (0 ∷ []) ∷ header 2 4 (1 ∷ []) ∷ header 3 4 (2 ∷ []) ∷ header 4 4 (3 ∷ [])
    ∷ header 5 14 (0 ∷ [])
    ∷ header 6 2 (1 ∷ []) ∷ header 7 1 (1 ∷ []) ∷ header 8 5 (1 ∷ 0 ∷ []) ∷ header 9 13 (1 ∷ 4 ∷ [])
    ∷ header 10 3 (2 ∷ [])
    ∷ header 11 2 (2 ∷ 0 ∷ []) ∷ header 12 1 (2 ∷ 0 ∷ []) ∷ header 13 13 (2 ∷ 0 ∷ 0 ∷ [])
    ∷ header 14 2 (2 ∷ 1 ∷ []) ∷ header 15 1 (2 ∷ 1 ∷ []) ∷ header 16 4 (2 ∷ 1 ∷ 0 ∷ [])
    ∷ header 17 7 (2 ∷ 1 ∷ 0 ∷ []) ∷ [])
    (zeros 324)
unfolding computes
example-kinds = refl

-- 1.0 has a text to claim
pub example-text : (labels_at schema₃ row₃ (1 ∷ 0 ∷ [])).claims ≡ header 5 6 (1 ∷ 0 ∷ []) ∷ []
unfolding computes
example-text = refl

-- but is not visited, for field 0 has the first line of field 1's struct: line 5 has no label
pub example-followed : drawn schema₃ row₃ (zeros 108)
    ≡ claim_all
    (header 0 1 [] ∷ header 1 4 (0 ∷ []) ∷ header 2 4 (1 ∷ []) ∷ header 3 1 (0 ∷ []) ∷ header 4 4 (0 ∷ 0 ∷ []) ∷ [])
    (zeros 108)
unfolding computes
example-followed = refl
