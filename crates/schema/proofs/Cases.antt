-- Cases of document 01, computed. Assumes nothing.
use mathlib.Core.Path.{◌≡◌, refl}
use mathlib.Core.List.{List, [], ◌∷◌, ◌++◌}
use Prim.Native.Nat.{ℕ, zero, suc}
use lib.ListN.{length}
use Rattle.schema.specs.Marks.{types, mark_at}
use Rattle.schema.specs.Types.{fix, text, li, ma, ro, end, ◌then◌, bo, i1, i2, i4, i8, f4, f8, st, bi, count}
use Rattle.schema.specs.Types.{fixed_place, text_place, fixed_at, text_at, place, width, mark}
use Rattle.schema.specs.House.{schema, depth}
use Rattle.schema.specs.Kinds.{find, place_of, kind_of, kind_of_place, head_kind}
use Rattle.schema.specs.Reading.{parse_type, parse_all, parse_ro, parse_kind, after, root, judged}
use Rattle.schema.specs.Walk.{type_at, fields_of}
use Rattle.schema.specs.declared.Judged.TheVariants.{Accepted, Refused}

lays : Unit {0}
unfolding types mark_at count fixed_place text_place fixed_at text_at place width mark schema depth
lays = tt

computes : Unit {0}
unfolding lays find place_of kind_of kind_of_place head_kind parse_type parse_all parse_ro parse_kind judged type_at fields_of
computes = tt

times : ℕ → List ℕ → List ℕ
times zero l = []
times (suc n) l = l ++ times n l

-- A: a struct of an int32 and an int64
a : List ℕ
a = 114 ∷ 111 ∷ 2 ∷ 105 ∷ 52 ∷ 105 ∷ 56 ∷ []

a-form : schema (ro (fix i4 then fix i8 then end)) ≡ a
unfolding computes a
a-form = refl

a-taken : judged a ≡ Accepted
unfolding computes a
a-taken = refl

a-fields : fields_of a ≡ fix i4 then fix i8 then end
unfolding computes a
a-fields = refl

-- each type by its letters: ro 10, ma st li bi, bo, i1, i2, i4, i8, f4, f8, st, bi
letters : schema (ro (ma (text st) (li (text bi)) then fix bo then fix i1 then fix i2 then fix i4 then fix i8 then fix f4 then fix f8 then text st
    then text bi then end))
    ≡ 114 ∷ 111 ∷ 10 ∷ 109 ∷ 97 ∷ 115 ∷ 116 ∷ 108 ∷ 105 ∷ 98 ∷ 105 ∷ 98 ∷ 111 ∷ 105 ∷ 49 ∷ 105 ∷ 50 ∷ 105 ∷ 52 ∷ 105 ∷ 56 ∷ 102 ∷ 52 ∷ 102 ∷ 56
    ∷ 115 ∷ 116 ∷ 98 ∷ 105 ∷ []
unfolding computes
letters = refl

letters-taken : judged (schema (ro (ma (text st) (li (text bi)) then fix bo then fix i1 then fix i2 then fix i4 then fix i8 then fix f4 then fix f8
    then text st then text bi then end))) ≡ Accepted
unfolding computes
letters-taken = refl

-- and its bytes in a row
bytes : width bo ∷ width i1 ∷ width i2 ∷ width i4 ∷ width i8 ∷ width f4 ∷ width f8 ∷ [] ≡ 1 ∷ 1 ∷ 2 ∷ 4 ∷ 8 ∷ 4 ∷ 8 ∷ []
unfolding computes
bytes = refl

-- field counts 0, 128, 129
no_fields : judged (114 ∷ 111 ∷ 0 ∷ []) ≡ Refused
unfolding computes
no_fields = refl

most-fields : judged (114 ∷ 111 ∷ 128 ∷ times 128 (105 ∷ 52 ∷ [])) ≡ Accepted
unfolding computes times
most-fields = refl

too_many : judged (114 ∷ 111 ∷ 129 ∷ times 129 (105 ∷ 52 ∷ [])) ≡ Refused
unfolding computes times
too_many = refl

-- depths 8 and 9
eight-deep : judged (114 ∷ 111 ∷ 1 ∷ times 6 (108 ∷ 105 ∷ []) ++ 98 ∷ 111 ∷ []) ≡ Accepted
unfolding computes times
eight-deep = refl

nine-deep : judged (114 ∷ 111 ∷ 1 ∷ times 7 (108 ∷ 105 ∷ []) ++ 98 ∷ 111 ∷ []) ≡ Refused
unfolding computes times
nine-deep = refl

-- nothing after the root, and the root is a struct
more-after : judged (114 ∷ 111 ∷ 1 ∷ 98 ∷ 111 ∷ 98 ∷ []) ≡ Refused
unfolding computes
more-after = refl

no-struct : judged (108 ∷ 105 ∷ 98 ∷ 111 ∷ []) ≡ Refused
unfolding computes
no-struct = refl

empty : judged [] ≡ Refused
unfolding computes
empty = refl

-- 1,024 and 1,025 bytes, of structs of int32s
row : ℕ → List ℕ
row n = 114 ∷ 111 ∷ n ∷ times n (105 ∷ 52 ∷ [])

longest : List ℕ
longest = 114 ∷ 111 ∷ 5 ∷ times 3 (row 101) ++ times 2 (row 100)

longest-length : length longest ≡ 1024
unfolding computes times row longest
longest-length = refl

longest-taken : judged longest ≡ Accepted
unfolding computes times row longest
longest-taken = refl

too_long : List ℕ
too_long = 114 ∷ 111 ∷ 6 ∷ times 4 (row 84) ++ times 2 (row 83)

too-long-length : length too_long ≡ 1025
unfolding computes times row too_long
too-long-length = refl

too-long-refused : judged too_long ≡ Refused
unfolding computes times row too_long
too-long-refused = refl

-- by its length alone: it is read to its end
too-long-read : after (parse_type 8 too_long) Refused root ≡ Accepted
unfolding computes times row too_long
too-long-read = refl
