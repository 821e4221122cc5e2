-- The worked batches, computed from the definitions. Assumes nothing.
use mathlib.Core.Path.{refl}
use native.Mathlib.Decide.{dec_le, dec_lt, ℕ_discrete}
use Rattle.words.specs.Bytes.{le, num, fill, zeros_ahead, high_bits, past_byte}
use Rattle.schema.specs.Marks.{types, mark_at}
use Rattle.schema.specs.Kinds.{find, place_of, kind_of, kind_of_place as placed_kind, head_kind, kind_at}
use Rattle.schema.specs.Types.{fixed_place, text_place, fixed_at, text_at, place, width, mark, count, field}
use Rattle.schema.specs.Reading.{parse_all, parse_ro, parse_kind, parse_type as parse_ty, judged}
use Rattle.schema.specs.Walk.{type_at as ty_at, fields_of}
use Rattle.layout.specs.Reader.{assert, cut}
use Rattle.layout.specs.Faults.{assert_at, cut_at, seen_from, within, yielded, in_row, fault_in}
use Rattle.words.specs.Tests.{both?, change?}
use Rattle.layout.specs.Tiles.{total, stands?}
use Rattle.layout.specs.Cells.{from_cells, to_cells, on_null, bytes, parts}
use Rattle.layout.specs.Layout.{number, string, inside, outside, kid_of, slot_of, kid_get, flags, slots, tails, reads, body_put, body_get, struct, array}
use Rattle.layout.specs.Layout.{pair, limit, codec}
use Rattle.layout.specs.Walk.{must, must_step, own, by_slot, by_flag, child, step_in, go_on, walk}
use Rattle.layout.specs.Reading.{type_along, placed, value_of, answer_of, found, read_in}
use Rattle.layout.specs.Setting.{bool_bytes, signed_bytes, float32_bytes, float64_bytes, in_bytes, suits, keeps_text, keeps, refusal_in, judge_at, write_fixed}
use Rattle.layout.specs.Setting.{write, write_at, outcome, set_in}
use Rattle.layout.specs.Entries.{read_of as row_read, set_of as row_set}
use Rattle.batch.specs.Frames.{be, big, frame, framing, first, frames, frames_in, framed}
use Rattle.batch.specs.Entries.{count_of, fetch_of, check_rows, check_of, lent_rows, append_of, appended_of, read_of, set_of}
use Rattle.batch.specs.Table.{Table}

-- to unfold this is to unfold the definitions
computes : Unit {0}
unfolding le num fill zeros_ahead high_bits past_byte types mark_at find place_of kind_of placed_kind head_kind kind_at fixed_place text_place fixed_at text_at
    place width mark count field
    parse_all parse_ro parse_kind parse_ty judged ty_at fields_of assert cut assert_at cut_at seen_from within yielded in_row fault_in total both? change? stands?
    from_cells to_cells on_null bytes parts
    number string inside outside kid_of slot_of kid_get flags slots tails reads body_put body_get struct array pair limit codec
    must must_step own by_slot by_flag child step_in go_on walk type_along placed value_of answer_of found read_in
    bool_bytes signed_bytes float32_bytes float64_bytes in_bytes suits keeps_text keeps refusal_in judge_at write_fixed write write_at outcome set_in
    row_read row_set dec_le dec_lt ℕ_discrete
    be big frame framing first frames frames_in framed count_of fetch_of check_rows check_of lent_rows append_of appended_of read_of set_of
computes = tt

pub table : Table
unfolding computes
table = record {
  none = (refl, refl, refl);
  rows = (refl, refl, refl, refl, refl);
  broken = (refl, refl, refl, refl);
  empty = (refl, refl, refl, refl, refl);
  appends = (refl, refl);
  short = (refl, refl, refl);
  places = (refl, refl, refl);
}
