-- The worked catalogues, computed from the definitions. Assumes nothing.
use mathlib.Core.Path.{refl}
use native.Mathlib.Decide.{dec_le, dec_lt, ℕ_discrete}
use Rattle.words.specs.Bytes.{le, num}
use Rattle.schema.specs.Marks.{types, mark_at}
use Rattle.schema.specs.Kinds.{find, place_of, kind_of, kind_of_place as placed_kind, head_kind, kind_at}
use Rattle.schema.specs.Types.{fixed_place, text_place, fixed_at, text_at, place, width, mark, count, field}
use Rattle.schema.specs.Reading.{parse_all, parse_ro, parse_kind, parse_type as parse_ty, judged}
use Rattle.compare.specs.Lent.{same}
use Rattle.shelf.specs.Catalogue.{entry, entries, used, start_of, schema_in, schemas_to, schemas_in, number_among, stands, stand}
use Rattle.shelf.specs.Table.{Table}

-- to unfold this is to unfold the definitions
computes : Unit {0}
unfolding le num types mark_at find place_of kind_of placed_kind head_kind kind_at fixed_place text_place fixed_at text_at place width mark count field
    parse_all parse_ro parse_kind parse_ty judged same entry entries used start_of schema_in schemas_to schemas_in number_among stands stand dec_le dec_lt ℕ_discrete
computes = tt

pub table : Table
unfolding computes
table = record {
  bytes = refl;
  held = refl;
  places = (refl, refl, refl, refl);
  stands = (refl, refl, refl, refl, refl);
  finds = (refl, refl, refl);
}
