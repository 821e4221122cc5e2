-- The worked logs, computed from the definitions. Assumes nothing.
use Rattle.std.proofs.Common.{refl}
use native.Mathlib.Decide.{dec_le, dec_lt, ℕ_discrete}
use Rattle.words.specs.Bytes.{le, num, fill, zeros_ahead, high_bits, past_byte}
use Rattle.words.proofs.TextComputes.{text-computes}
use Rattle.schema.specs.Marks.{types, mark_at}
use Rattle.schema.specs.Kinds.{find, place_of, kind_of, kind_of_place as placed_kind, head_kind, kind_at}
use Rattle.schema.specs.Types.{fixed_place, text_place, fixed_at, text_at, place, width, mark, count, field}
use Rattle.schema.specs.Reading.{parse_all, parse_ro, parse_kind, parse_type as parse_ty, judged}
use Rattle.schema.specs.Walk.{type_at as ty_at, fields_of}
use Rattle.layout.specs.Reader.{assert, cut}
use Rattle.layout.specs.Faults.{assert_at, cut_at, seen_from, within, yielded, in_row, fault_in}
use Rattle.layout.specs.Tiles.{total, aparts?, stands?}
use Rattle.layout.specs.Cells.{from_cells, to_cells, on_null, bytes, parts}
use Rattle.layout.specs.Layout.{number, string, inside, outside, kid_of, slot_of, kid_get, flags, slots, tails, reads, body_put, body_get, struct, array, pair}
use Rattle.layout.specs.Layout.{spells?, limit, codec}
use Rattle.layout.specs.Listing.{number_script, text_script, marked, null_or, item, run_put, run_get, struct_script, list_script, map_script, script, listing, parse}
use Rattle.layout.specs.Walk.{must, must_step, own, by_slot, by_flag, child, step_in, go_on, walk}
use Rattle.layout.specs.Places.{start_of}
use Rattle.layout.specs.Reading.{type_along, placed, value_of, answer_of, found, read_in}
use Rattle.layout.specs.Entries.{read_of as row_read, image_of}
use Rattle.batch.specs.Frames.{be, big, frame, framing, first, frames, frames_in, framed}
use Rattle.batch.specs.Entries.{lent_rows}
use Rattle.chords.specs.Chords.{schema, listed, row_for, no_stroke, no_number, stroke_start, chord_at, nulls_bad, row_bad}
use Rattle.strokes.specs.Log.{chords_in, chords_of, rows_bad, gap, joins, added}
use Rattle.strokes.specs.Entries.{log_with, add_of, added_of, numbers_of, read_of, read_into, chord_of}
use Rattle.strokes.specs.Table.{Table}

-- to unfold this is to unfold the definitions
computes : Unit {0}
unfolding le num fill types mark_at find place_of kind_of placed_kind head_kind kind_at fixed_place text_place fixed_at text_at place width mark count field
    parse_all parse_ro parse_kind parse_ty judged ty_at fields_of assert cut assert_at cut_at seen_from within yielded in_row fault_in zeros_ahead high_bits past_byte
    total text-computes aparts? stands? from_cells to_cells on_null bytes parts
    spells? number string inside outside kid_of slot_of kid_get flags slots tails reads body_put body_get struct array pair limit codec
    number_script text_script marked null_or item run_put run_get struct_script list_script map_script script listing parse
    must must_step own by_slot by_flag child step_in go_on walk start_of type_along placed value_of answer_of found read_in row_read image_of dec_le dec_lt ℕ_discrete
    be big frame framing first frames frames_in framed lent_rows
    schema listed row_for no_stroke no_number stroke_start chord_at chords_in nulls_bad row_bad chords_of rows_bad gap joins added
    log_with add_of added_of numbers_of read_of read_into chord_of
computes = tt

pub table : Table
unfolding computes
table = record {
  starts = (refl, refl);
  joins = (refl, refl);
  parts = (refl, refl);
  short = (refl, refl, refl, refl);
  reads = (refl, refl, refl, refl);
  asks = (refl, refl, refl, refl);
  under = refl;
  nulls = (refl, refl, refl);
}
