-- The table, computed from the definitions. Assumes nothing.
use mathlib.Core.Path.{refl}
use native.Mathlib.Decide.{dec_le, dec_lt, ℕ_discrete}
use Rattle.words.specs.Bytes.{le, num, fill, zeros_ahead, high_bits, past_byte}
use Rattle.words.proofs.TextComputes.{text-computes}
use Rattle.schema.specs.Marks.{types, mark_at}
use Rattle.schema.specs.Kinds.{find, place_of, kind_of, kind_of_place as placed_kind, head_kind, kind_at}
use Rattle.schema.specs.Types.{fixed_place, text_place, fixed_at, text_at, place, width, mark, count, field}
use Rattle.schema.specs.Reading.{parse_all, parse_ro, parse_kind, parse_type as parse_ty, judged}
use Rattle.schema.specs.Walk.{type_at as ty_at, fields_of}
use Rattle.layout.specs.Reader.{assert, cut}
use Rattle.layout.specs.Faults.{assert_at, cut_at, seen_from, within, yielded, in_row, fault_in}
use Rattle.layout.specs.Tiles.{total, aparts?, stands?}
use Rattle.layout.specs.Cells.{from_cells, to_cells, on_null, bytes, parts}
use Rattle.layout.specs.Layout.{number, string, inside, outside, kid_of, slot_of, kid_get, flags, slots, tails, reads, body_put, body_get, struct, array, pair}
use Rattle.layout.specs.Layout.{spells?, limit, codec}
use Rattle.layout.specs.Listing.{number_script, text_script, marked, null_or, item, run_put, run_get, struct_script, list_script, map_script, script, listing, parse}
use Rattle.layout.specs.Walk.{must, must_step, own, by_slot, by_flag, child, step_in, go_on, walk}
use Rattle.layout.specs.Reading.{type_along, placed, value_of, answer_of, found, read_in}
use Rattle.layout.specs.Setting.{bool_bytes, signed_bytes, float32_bytes, float64_bytes, in_bytes, suits, keeps_text, keeps, refusal_in, judge_at, write_fixed}
use Rattle.layout.specs.Setting.{write, write_at, outcome, set_in}
use Rattle.layout.specs.Entries.{check_of, read_of, set_of, image_of, write_of, listing_of, list_of, written_of, listed_of}
use Rattle.row.specs.Table.{Table}

-- to unfold this is to unfold the definitions
computes : Unit {0}
unfolding le num fill types mark_at find place_of kind_of placed_kind head_kind kind_at fixed_place text_place fixed_at text_at place width mark count field
    parse_all parse_ro parse_kind parse_ty judged ty_at fields_of assert cut assert_at cut_at seen_from within yielded in_row fault_in zeros_ahead high_bits past_byte
    total aparts? stands? from_cells to_cells on_null bytes parts
    number string inside outside kid_of slot_of kid_get flags slots tails reads body_put body_get struct array pair limit codec
    number_script text_script marked null_or item run_put run_get struct_script list_script map_script script listing parse
    must must_step own by_slot by_flag child step_in go_on walk type_along placed value_of answer_of found read_in
    bool_bytes signed_bytes float32_bytes float64_bytes in_bytes suits keeps_text keeps refusal_in judge_at write_fixed write write_at outcome set_in
    check_of read_of set_of image_of write_of listing_of list_of written_of listed_of spells? text-computes dec_le dec_lt ℕ_discrete
computes = tt

pub table : Table
unfolding computes
table = record {
  a = (record { writes = refl; written = refl; checks = refl; lists = refl; listed = refl }, refl);
  b = record { writes = refl; written = refl; checks = refl; lists = refl; listed = refl };
  c = record { writes = refl; written = refl; checks = refl; lists = refl; listed = refl };
  d = (record { writes = refl; written = refl; checks = refl; lists = refl; listed = refl }, refl);
  e = (record { writes = refl; written = refl; checks = refl; lists = refl; listed = refl }, refl, refl);
  f = (record { writes = refl; written = refl; checks = refl; lists = refl; listed = refl }, refl, refl, refl);
  g = (record { writes = refl; written = refl; checks = refl; lists = refl; listed = refl }, refl);
  h = (record { writes = refl; written = refl; checks = refl; lists = refl; listed = refl }, refl, refl);
  i = (refl, refl);
  j = refl;
  k = (refl, refl, refl, refl);
  l = refl;
  m = (refl, refl, refl);
  n = (record { writes = refl; written = refl; checks = refl; lists = refl; listed = refl }, refl);
  any_order = (refl, refl, refl, refl);
  overlaps = (refl, refl, refl);
  gaps = (refl, refl);
  empties = (refl, refl, refl, refl, refl, refl);
  texts = (
    refl,
    refl,
    refl,
    refl,
    refl,
    refl,
    refl,
    record { writes = refl; written = refl; checks = refl; lists = refl; listed = refl },
  );
}
