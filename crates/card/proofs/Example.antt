-- The example of document 01, computed: what the tool writes for the schema and the row of case B; and for a batch of two such rows.
-- Assumes nothing.
use mathlib.Core.Path.{◌≡◌, refl}
use mathlib.Core.List.{List, [], ◌∷◌, ◌++◌}
use Prim.Native.Nat.{ℕ}
use native.Mathlib.Decide.{dec_le, dec_lt, ℕ_discrete}
use Rattle.words.specs.Bytes.{le, num, fill, zeros, zeros_ahead, high_bits, past_byte}
use Rattle.schema.specs.Marks.{types, mark_at}
use Rattle.schema.specs.Kinds.{find, place_of, kind_of, kind_of_place as placed_kind, head_kind, kind_at}
use Rattle.schema.specs.Types.{fixed_place, text_place, fixed_at, text_at, place, width, mark, count, field}
use Rattle.schema.specs.Reading.{parse_all, parse_ro, parse_kind, parse_type as parse_ty, judged}
use Rattle.schema.specs.Walk.{type_at as ty_at, fields_of}
use Rattle.layout.specs.Reader.{assert, cut}
use Rattle.layout.specs.Faults.{assert_at, cut_at, seen_from, within, yielded, in_row, fault_in}
use Rattle.words.specs.Tests.{both?, either?, change?}
use Rattle.layout.specs.Tiles.{total, aparts?, stands?}
use Rattle.layout.specs.Cells.{from_cells, to_cells, on_null, bytes as cell_bytes, parts}
use Rattle.layout.specs.Layout.{number, string, inside, outside, kid_of, slot_of, kid_get, flags, slots, tails, reads, body_put, body_get, struct, array, pair}
use Rattle.layout.specs.Layout.{limit, codec}
use Rattle.layout.specs.Walk.{must, must_step, own, by_slot, by_flag, child, step_in, go_on, walk}
use Rattle.layout.specs.Reading.{type_along, placed, value_of, answer_of, found, read_in}
use Rattle.layout.specs.Entries.{check_of, read_of}
use Rattle.batch.specs.Frames.{big, first, frames, frames_in, framed}
use Rattle.batch.specs.Entries.{check_rows, check_of as batch_check}
use Rattle.lettering.specs.Text.{hex, decimal_in, decimal, signed, hexes, bytes, dotted, path, numbered}
use Rattle.leaves.specs.Lines.{contents, line}
use Rattle.leaves.specs.Places.{has_line, below, mark_in, text_at as line_at}
use Rattle.leaves.specs.Whole.{in_order, card_from, card_of}
use Rattle.card.specs.Input.{announced, split_of}
use Rattle.card.specs.Output.{judged_text, output_of}
use Rattle.card.specs.Rows.{heading, rows_text, batch_text, batch_output_of}

-- `07 00`, the schema `ro` 2 `i4` `i8`, and the row of case B
abbrev schema : List ℕ
schema = (7 ∷ 0 ∷ []) ++ (0x72 ∷ 0x6f ∷ 2 ∷ 0x69 ∷ 0x34 ∷ 0x69 ∷ 0x38 ∷ [])

abbrev row : List ℕ
row = (2 ∷ zeros 7) ++ (0xfe ∷ 0xff ∷ 0xff ∷ 0xff ∷ zeros 4) ++ zeros 8

-- `0 i4 -2` and `1 i8 null`
abbrev output : List ℕ
output = (48 ∷ 32 ∷ 105 ∷ 52 ∷ 32 ∷ 45 ∷ 50 ∷ 10 ∷ []) ++ (49 ∷ 32 ∷ 105 ∷ 56 ∷ 32 ∷ 110 ∷ 117 ∷ 108 ∷ 108 ∷ 10 ∷ [])

-- `row 0`, the card, `row 1`, the card
abbrev two : List ℕ
two = (114 ∷ 111 ∷ 119 ∷ 32 ∷ 48 ∷ 10 ∷ []) ++ output ++ (114 ∷ 111 ∷ 119 ∷ 32 ∷ 49 ∷ 10 ∷ []) ++ output

-- to unfold this is to unfold the definitions
computes : Unit {0}
unfolding le num fill types mark_at find place_of kind_of placed_kind head_kind kind_at fixed_place text_place fixed_at text_at place width mark count field
    parse_all parse_ro parse_kind parse_ty judged ty_at fields_of assert cut assert_at cut_at seen_from within yielded in_row fault_in
    zeros_ahead high_bits past_byte total both? either? change? aparts? stands? from_cells to_cells on_null cell_bytes parts
    number string inside outside kid_of slot_of kid_get flags slots tails reads body_put body_get struct array pair limit codec
    must must_step own by_slot by_flag child step_in go_on walk type_along placed value_of answer_of found read_in check_of read_of
    announced split_of hex decimal_in decimal signed hexes bytes dotted path contents line numbered has_line below mark_in line_at in_order card_from card_of
    judged_text output_of big first frames frames_in framed check_rows batch_check heading rows_text batch_text batch_output_of
    dec_le dec_lt ℕ_discrete
computes = tt

pub example : output_of (schema ++ row) ≡ output
unfolding computes
example = refl

pub batch-example : batch_output_of (schema ++ (0 ∷ 0 ∷ 0 ∷ 24 ∷ row) ++ (0 ∷ 0 ∷ 0 ∷ 24 ∷ row)) ≡ two
unfolding computes
batch-example = refl
