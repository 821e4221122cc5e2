-- The definitions of the layout at the cases of document 01, and at more, computed: one statement. Assumes nothing.
use mathlib.Core.Path.{◌≡◌, refl}
use mathlib.Core.Bool.{true}
use mathlib.Core.Option.{none, some}
use mathlib.Core.List.{List, [], ◌∷◌, ◌++◌}
use Prim.Native.Nat.{ℕ, ◌+◌, ◌*◌, ◌^◌}
use native.Mathlib.Decide.{dec_le, dec_lt, ℕ_discrete}
use lib.IntN.{pos, negsuc}
use lib.ListN.{length, replicate, set, take}
use Rattle.words.specs.Bytes.{le, num, fill, zeros, part, zeros_ahead, high_bits, past_byte}
use Rattle.schema.specs.Marks.{types, mark_at}
use Rattle.schema.specs.Types.{bo, i1, i4, i8, f8, st, fix, text, li, ma, ro, Tys, end, ◌then◌, count, field, fixed_place, text_place, place, width, mark}
use Rattle.layout.specs.Reader.{assert, cut}
use Rattle.layout.specs.Faults.{assert_at, cut_at, seen_from, within, yielded, in_row, fault_in}
use Rattle.words.proofs.TextComputes.{text-computes}
use Rattle.layout.specs.Tiles.{total, aparts?, stands?}
use Rattle.layout.specs.Cells.{Cell, null, leaf, node, from_cells, to_cells, on_null, bytes, parts, clean}
use Rattle.layout.specs.Layout.{spells?, number, string, inside, outside, kid_of, slot_of, kid_get, flags, slots, tails, reads, front}
use Rattle.layout.specs.Layout.{body_put, body_get, struct}
use Rattle.layout.specs.Layout.{array, pair, limit, codec, content, decode, fault_at}
use Rattle.layout.specs.Listing.{number_script, text_script, marked, null_or, item, run_put, run_get, struct_script, list_script, map_script, script}
use Rattle.layout.specs.Listing.{listing, parse}
use Rattle.layout.specs.Refusals.{numbered, broken_at}
use Rattle.layout.specs.Walk.{root_seat, null_at, must, must_step, own, by_slot, by_flag, child, step_in, go_on, walk}
use Rattle.layout.specs.Reading as R
use Rattle.layout.specs.Reading.{type_along, placed, value_of, answer_of, found, read_in}
use Rattle.layout.specs.Setting as S
use Rattle.layout.specs.Setting.{bool_bytes, signed_bytes, float32_bytes, float64_bytes, in_bytes, suits, keeps_text, keeps, refusal_in, judge_at}
use Rattle.layout.specs.Setting.{write_fixed, write, write_at, refuses, becomes, outcome, set_in}

-- to unfold this is to unfold the definitions
computes : Unit {0}
unfolding le num fill types mark_at fixed_place text_place place width mark count field assert cut assert_at cut_at seen_from within yielded in_row fault_in
    zeros_ahead high_bits past_byte total aparts? stands? from_cells to_cells on_null bytes parts clean
    number string inside outside kid_of slot_of kid_get flags slots tails reads body_put body_get struct array pair limit codec
    number_script text_script marked null_or item run_put run_get struct_script list_script map_script script listing parse
    must must_step own by_slot by_flag child step_in go_on walk type_along placed value_of answer_of found read_in
    bool_bytes signed_bytes float32_bytes float64_bytes in_bytes suits keeps_text keeps refusal_in judge_at write_fixed write write_at outcome set_in
    spells? text-computes dec_le dec_lt ℕ_discrete
computes = tt

-- ---- schemas

abbrev two : Tys
two = fix i4 then fix i8 then end

abbrev one : Tys
one = text st then end

abbrev lists : Tys
lists = li (fix i1) then end

abbrev maps : Tys
maps = ma (fix i8) (fix i8) then end

abbrev inner : Tys
inner = ro (fix i8 then fix f8 then end) then end

abbrev strokes : Tys
strokes = ro (fix bo then end) then ro (fix bo then end) then end

abbrev texts : Tys
texts = text st then text st then end

-- ---- contents

abbrev STK : List ℕ
STK = 0x53 ∷ 0x54 ∷ 0x4b ∷ []

abbrev PWR : List ℕ
PWR = 0x50 ∷ 0x57 ∷ 0x52 ∷ []

abbrev TPH : List ℕ
TPH = 0x54 ∷ 0x50 ∷ 0x48 ∷ []

-- -2 in four bytes
abbrev minus2 : List ℕ
minus2 = 0xfe ∷ 0xff ∷ 0xff ∷ 0xff ∷ []

abbrev of_a : Cell
of_a = node (leaf minus2 ∷ leaf (1 ∷ zeros 7) ∷ [])

abbrev of_b : Cell
of_b = node (leaf minus2 ∷ null (zeros 8) ∷ [])

abbrev ten : Cell
ten = node (node (replicate 10 (leaf (7 ∷ []))) ∷ [])

abbrev nine : Cell
nine = leaf (9 ∷ zeros 7)

abbrev three : Cell
three = node (node (node (nine ∷ nine ∷ nine ∷ []) ∷ node (nine ∷ null (zeros 8) ∷ nine ∷ []) ∷ []) ∷ [])

-- ---- rows

abbrev A : List ℕ
A = zeros 8 ++ (0xfe ∷ 0xff ∷ 0xff ∷ 0xff ∷ zeros 4) ++ (1 ∷ zeros 7)

abbrev B : List ℕ
B = (2 ∷ zeros 7) ++ (0xfe ∷ 0xff ∷ 0xff ∷ 0xff ∷ zeros 4) ++ zeros 8

abbrev C : List ℕ
C = zeros 8 ++ (3 ∷ 0 ∷ 0 ∷ 0 ∷ 0x10 ∷ 0 ∷ 0 ∷ 0 ∷ []) ++ (0x53 ∷ 0x54 ∷ 0x4b ∷ zeros 5)

abbrev D : List ℕ
D = zeros 8 ++ (0 ∷ 0 ∷ 0 ∷ 0 ∷ 0x10 ∷ 0 ∷ 0 ∷ 0 ∷ [])

abbrev E : List ℕ
E = content (ro lists) ten

abbrev F : List ℕ
F = content (ro maps) three

-- "STK" and "PWR"
abbrev both : List ℕ
both = zeros 8 ++ (3 ∷ 0 ∷ 0 ∷ 0 ∷ 24 ∷ 0 ∷ 0 ∷ 0 ∷ []) ++ (3 ∷ 0 ∷ 0 ∷ 0 ∷ 32 ∷ 0 ∷ 0 ∷ 0 ∷ []) ++ (STK ++ zeros 5) ++ (PWR ++ zeros 5)

-- two slots at one struct of a bool
abbrev stroke : ℕ → List ℕ
stroke v = zeros 8 ++ le 8 (24 * 2 ^ 32 + 16) ++ le 8 (24 * 2 ^ 32 + 16) ++ zeros 8 ++ (v ∷ zeros 7)

-- a nested struct whose size is no multiple of 8, with padding that is not zero
abbrev odd : List ℕ
odd = zeros 8 ++ le 8 (16 * 2 ^ 32 + 25) ++ zeros 31 ++ (1 ∷ [])

-- a row of two strings, with their slots and variable data
abbrev row : ℕ → ℕ → ℕ → ℕ → List ℕ → List ℕ
row o n p m d = zeros 8 ++ (n ∷ 0 ∷ 0 ∷ 0 ∷ o ∷ 0 ∷ 0 ∷ 0 ∷ []) ++ (m ∷ 0 ∷ 0 ∷ 0 ∷ p ∷ 0 ∷ 0 ∷ 0 ∷ []) ++ d

-- the same two the other way round
abbrev turned : List ℕ
turned = row 32 3 24 3 ((PWR ++ zeros 5) ++ (STK ++ zeros 5))

-- C with offset FFFFFFF8 and size 16
abbrev J : List ℕ
J = zeros 8 ++ (16 ∷ 0 ∷ 0 ∷ 0 ∷ 0xf8 ∷ 0xff ∷ 0xff ∷ 0xff ∷ []) ++ (STK ++ zeros 5)

-- C's first slot, or any row's of one field
abbrev slot0 : List ℕ → List ℕ
slot0 b = part b 8 8

pub record Cases : Type 0 where
  a : (content (ro two) of_a ≡ A) × (decode (ro two) A ≡ some of_a) × (length A ≡ 24)
  a-reads : (read_in two A (0 ∷ []) ≡ R.signed (negsuc 1)) × (read_in two A (1 ∷ []) ≡ R.signed (pos 1)) × (read_in two A [] ≡ R.container 0 24 2)
  b : (content (ro two) of_b ≡ B) × (decode (ro two) B ≡ some of_b)
  b-reads : (read_in two B (0 ∷ []) ≡ R.signed (negsuc 1)) × (read_in two B (1 ∷ []) ≡ R.null) × (read_in two B [] ≡ R.container 0 24 2)
  c : (content (ro one) (node (leaf STK ∷ [])) ≡ C) × (decode (ro one) C ≡ some (node (leaf STK ∷ []))) × (read_in one C (0 ∷ []) ≡ R.bytes 16 3)
  d : (content (ro one) (node (leaf [] ∷ [])) ≡ D) × (decode (ro one) D ≡ some (node (leaf [] ∷ []))) × (read_in one D (0 ∷ []) ≡ R.bytes 16 0)
  e : (length (content (ro lists) ten) ≡ 48) × (slot0 (content (ro lists) ten) ≡ 32 ∷ 0 ∷ 0 ∷ 0 ∷ 16 ∷ 0 ∷ 0 ∷ 0 ∷ []) ×
      (decode (ro lists) (content (ro lists) ten) ≡ some ten)
  e-reads : (read_in lists (content (ro lists) ten) (0 ∷ []) ≡ R.container 16 32 10) × (read_in lists (content (ro lists) ten) (0 ∷ 9 ∷ []) ≡ R.signed (pos 7))
      × (read_in lists (content (ro lists) ten) (0 ∷ 10 ∷ []) ≡ R.refused (numbered 5))
  f : (length F ≡ 104) × (slot0 F ≡ 88 ∷ 0 ∷ 0 ∷ 0 ∷ 16 ∷ 0 ∷ 0 ∷ 0 ∷ []) × (part F 16 8 ≡ 40 ∷ zeros 7) × (decode (ro maps) F ≡ some three)
  f-reads : (read_in maps F (0 ∷ []) ≡ R.container 16 88 2) × (read_in maps F (0 ∷ 0 ∷ []) ≡ R.container 24 40 3) ×
      (read_in maps F (0 ∷ 1 ∷ []) ≡ R.container 64 40 3)
      × (read_in maps F (0 ∷ 1 ∷ 2 ∷ []) ≡ R.signed (pos 9)) × (read_in maps F (0 ∷ 1 ∷ 1 ∷ []) ≡ R.null)
      × (read_in maps F (0 ∷ 1 ∷ 3 ∷ []) ≡ R.refused (numbered 5))
  g : length (content (ro inner) (node (node (nine ∷ nine ∷ []) ∷ []))) ≡ 40
  h : (content (ro texts) (node (leaf STK ∷ leaf PWR ∷ [])) ≡ both) × (fault_at (ro texts) (set both 20 24) ≡ some 16)
  i : (decode (ro one) (set C 8 8) ≡ some (node (leaf (STK ++ zeros 5) ∷ []))) × (fault_at (ro one) (set C 8 9) ≡ some 8)
  j : read_in one J (0 ∷ []) ≡ R.refused (broken_at 8)
  k : (front 0 8 64 ≡ 520) × (front 0 8 65 ≡ 536)
  l : set_in two A (0 ∷ []) S.null ≡ becomes ((1 ∷ zeros 15) ++ (1 ∷ zeros 7))
  m : (set_in one C (0 ∷ []) (S.bytes TPH) ≡ becomes (take 16 C ++ (TPH ++ zeros 5))) × (set_in one C (0 ∷ []) (S.bytes (take 2 TPH)) ≡ refuses (numbered 9))
      × (set_in one C (0 ∷ []) S.null ≡ refuses (numbered 9))
  n : (length (content (ro lists) (node (node [] ∷ []))) ≡ 24) × (decode (ro lists) (content (ro lists) (node (node [] ∷ []))) ≡ some (node (node [] ∷ [])))
  n-reads : (read_in lists (content (ro lists) (node (node [] ∷ []))) (0 ∷ []) ≡ R.container 16 8 0)
      × (read_in lists (content (ro lists) (node (node [] ∷ []))) (0 ∷ 0 ∷ []) ≡ R.refused (numbered 5))
  -- a bool is 0 or 1
  bool : (fault_at (ro (fix bo then end)) (zeros 8 ++ (2 ∷ zeros 7)) ≡ some 8)
      × (read_in (fix bo then end) (zeros 8 ++ (2 ∷ zeros 7)) (0 ∷ []) ≡ R.refused (broken_at 8))
  -- bits past n are zero
  past : fault_at (ro two) (set A 0 4) ≡ some 0
  -- values in another order than their fields': accepted, read and set where they stand
  turns : (decode (ro texts) turned ≡ some (node (leaf STK ∷ leaf PWR ∷ []))) × (read_in texts turned (0 ∷ []) ≡ R.bytes 32 3)
      × (set_in texts turned (0 ∷ []) (S.bytes TPH) ≡ becomes (row 32 3 24 3 ((PWR ++ zeros 5) ++ (TPH ++ zeros 5))))
  -- not with 8 bytes over at the end or between, and none before the fixed part's end
  gaps : (decode (ro texts) (turned ++ zeros 8) ≡ none) × (decode (ro texts) (row 40 3 24 3 ((PWR ++ zeros 5) ++ zeros 8 ++ (STK ++ zeros 5))) ≡ none) ×
      (decode (ro texts) (row 16 0 24 3 (STK ++ zeros 5)) ≡ none)
  -- an empty value stands where another starts or ends, not inside it, nor past the end
  empties : (decode (ro texts) (row 24 0 24 3 (STK ++ zeros 5)) ≡ some (node (leaf [] ∷ leaf STK ∷ []))) ×
      (decode (ro texts) (row 32 0 24 3 (STK ++ zeros 5)) ≡ some (node (leaf [] ∷ leaf STK ∷ [])))
      × (decode (ro texts) (row 32 0 24 16 (zeros 16)) ≡ none) × (decode (ro texts) (row 24 16 32 0 (zeros 16)) ≡ none) ×
      (decode (ro texts) (row 40 0 24 3 (STK ++ zeros 5)) ≡ none)
  -- 5 by the schema alone comes before 7, and a path of 17 steps is 5
  order : (read_in two [] (2 ∷ []) ≡ R.refused (numbered 5)) × (read_in two [] (0 ∷ []) ≡ R.refused (broken_at 0))
      × (read_in two [] (replicate 17 0) ≡ R.refused (numbered 5)) × (read_in one C (0 ∷ 0 ∷ []) ≡ R.refused (numbered 5))
  -- a null before the path's end is 6
  under : read_in inner (set (content (ro inner) (node (null (zeros 8) ∷ []))) 8 1) (0 ∷ 1 ∷ []) ≡ R.refused (numbered 6)
  -- bytes 16 to 23 of B lie under a null, and of the values of a list with a null int8 its one byte
  under-null : (walk (1 ∷ []) (ro two) root_seat 0 B ≡ null_at (record { bits = 0; number = 1; slot = 16; wide = 8 }))
      × (walk (0 ∷ 2 ∷ []) (ro lists) root_seat 0 (set E 24 4) ≡ null_at (record { bits = 24; number = 2; slot = 34; wide = 1 }))
  -- set: 7 before 5; 5 before 8; 8 before 9, also at a null string; a container is 8; what fits another type is 8
  judged : (set_in one J (1 ∷ []) S.null ≡ refuses (broken_at 8)) × (set_in one C (1 ∷ []) S.null ≡ refuses (numbered 5))
      × (set_in one C (0 ∷ []) (S.signed (pos 1)) ≡ refuses (numbered 8))
      × (set_in one C [] S.null ≡ refuses (numbered 8)) × (set_in two A (0 ∷ []) (S.float32 0) ≡ refuses (numbered 8))
      × (set_in two B (1 ∷ []) (S.signed (pos 1)) ≡ becomes A)
      × (set_in two A (0 ∷ []) (S.signed (negsuc 1)) ≡ becomes A) × (set_in one (1 ∷ zeros 15) (0 ∷ []) (S.signed (pos 1)) ≡ refuses (numbered 8))
      × (set_in one (1 ∷ zeros 15) (0 ∷ []) (S.bytes []) ≡ refuses (numbered 9))
  -- where it is broken: a size that is no multiple of 8, or too small, or too large; a bit past n; the rest of a slot; padding
  places : (fault_at (ro two) (A ++ (0 ∷ [])) ≡ some 0) × (fault_at (ro two) (take 16 A) ≡ some 0) × (fault_at (ro one) (C ++ zeros 8) ≡ some 0)
      × (fault_at (ro two) (set A 5 1) ≡ some 5) × (fault_at (ro two) (set A 13 1) ≡ some 13) × (fault_at (ro one) (set C 21 1) ≡ some 21)
  -- in a list: its size, its count, the zeros behind its elements
  places-list : (fault_at (ro lists) (set E 8 31) ≡ some 8) × (fault_at (ro lists) (set E 8 0) ≡ some 8) × (fault_at (ro lists) (set E 16 200) ≡ some 16)
      × (fault_at (ro lists) (set E 43 1) ≡ some 43) × (fault_at (ro lists) (set (E ++ zeros 8) 8 40) ≡ some 8)
  -- in a map: K no multiple of 8, past the size, too small for the keys' header; the keys' count; unequal counts, before the values' bitmap
  places-map : (fault_at (ro maps) (set F 16 41) ≡ some 16) × (fault_at (ro maps) (set F 16 88) ≡ some 16) × (fault_at (ro maps) (set F 16 0) ≡ some 24)
      × (fault_at (ro maps) (set F 24 200) ≡ some 24) × (fault_at (ro maps) (set (set F 64 2) 72 128) ≡ some 64) × (fault_at (ro maps) (set F 73 128) ≡ some 73)
  -- all of a child comes before the next one's slot, and a child's contents before its padding
  places-order : (fault_at (ro strokes) (stroke 2) ≡ some 32) × (fault_at (ro strokes) (stroke 1) ≡ some 16) × (fault_at (ro inner) odd ≡ some 8)
  -- a read gives the first fault on its path, and no other
  places-read : (read_in maps (set F 16 41) (0 ∷ []) ≡ R.refused (broken_at 16)) × (read_in maps (set F 16 0) (0 ∷ 0 ∷ []) ≡ R.refused (broken_at 24))
      × (read_in maps (set F 64 200) (0 ∷ 1 ∷ []) ≡ R.refused (broken_at 64)) × (read_in maps (set F 64 200) (0 ∷ 0 ∷ []) ≡ R.container 24 40 3)
      × (read_in maps (set F 8 0) (0 ∷ []) ≡ R.refused (broken_at 8)) × (read_in strokes (stroke 1) (1 ∷ 0 ∷ []) ≡ R.bool true)
      × (read_in strokes (stroke 2) (1 ∷ 0 ∷ []) ≡ R.refused (broken_at 32)) × (read_in inner odd (0 ∷ []) ≡ R.container 16 25 2)
  lists-a : parse (ro two) (listing (ro two) of_a) ≡ some of_a
  lists-b : (listing (ro two) of_b ≡ 0x72 ∷ 0x6f ∷ 0x69 ∷ 0x34 ∷ 0xfe ∷ 0xff ∷ 0xff ∷ 0xff ∷ 0x6e ∷ 0x75 ∷ []) ×
      (parse (ro two) (listing (ro two) of_b) ≡ some of_b)
  lists-c : (listing (ro one) (node (leaf STK ∷ [])) ≡ 0x72 ∷ 0x6f ∷ 0x73 ∷ 0x74 ∷ 3 ∷ 0 ∷ 0 ∷ 0 ∷ STK) ×
      (parse (ro one) (listing (ro one) (node (leaf STK ∷ []))) ≡ some (node (leaf STK ∷ [])))
  lists-d : listing (ro one) (node (leaf [] ∷ [])) ≡ 0x72 ∷ 0x6f ∷ 0x73 ∷ 0x74 ∷ 0 ∷ 0 ∷ 0 ∷ 0 ∷ []
  lists-e : parse (ro lists) (listing (ro lists) ten) ≡ some ten
  lists-f : parse (ro maps) (listing (ro maps) three) ≡ some three
  lists-g : parse (ro inner) (listing (ro inner) (node (node (nine ∷ nine ∷ []) ∷ []))) ≡ some (node (node (nine ∷ nine ∷ []) ∷ []))
  lists-n : (listing (ro lists) (node (node [] ∷ [])) ≡ 0x72 ∷ 0x6f ∷ 0x6c ∷ 0x69 ∷ 0 ∷ 0 ∷ 0 ∷ 0 ∷ []) ×
      (parse (ro lists) (listing (ro lists) (node (node [] ∷ []))) ≡ some (node (node [] ∷ [])))

pub cases : Cases
unfolding computes
cases = record {
  a = (refl, refl, refl);
  a-reads = (refl, refl, refl);
  b = (refl, refl);
  b-reads = (refl, refl, refl);
  c = (refl, refl, refl);
  d = (refl, refl, refl);
  e = (refl, refl, refl);
  e-reads = (refl, refl, refl);
  f = (refl, refl, refl, refl);
  f-reads = (refl, refl, refl, refl, refl, refl);
  g = refl;
  h = (refl, refl);
  i = (refl, refl);
  j = refl;
  k = (refl, refl);
  l = refl;
  m = (refl, refl, refl);
  n = (refl, refl);
  n-reads = (refl, refl);
  bool = (refl, refl);
  past = refl;
  turns = (refl, refl, refl);
  gaps = (refl, refl, refl);
  empties = (refl, refl, refl, refl, refl);
  order = (refl, refl, refl, refl);
  under = refl;
  under-null = (refl, refl);
  judged = (refl, refl, refl, refl, refl, refl, refl, refl, refl);
  places = (refl, refl, refl, refl, refl, refl);
  places-list = (refl, refl, refl, refl, refl);
  places-map = (refl, refl, refl, refl, refl, refl);
  places-order = (refl, refl, refl);
  places-read = (refl, refl, refl, refl, refl, refl, refl, refl);
  lists-a = refl;
  lists-b = (refl, refl);
  lists-c = (refl, refl);
  lists-d = refl;
  lists-e = refl;
  lists-f = refl;
  lists-g = refl;
  lists-n = (refl, refl);
}
