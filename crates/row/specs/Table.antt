-- The table to prove: cases A to N of document 01, those of any order, and those of bad text, at the entries, one statement.
-- Assumes nothing: these are definitions.
use Rattle.std.specs.Prelude.{◌≡◌, List, [], ◌∷◌, ◌++◌, ℕ, zero, suc, length, replicate, set, take}
use Rattle.words.specs.Bytes.{zeros, part}
use Rattle.layout.specs.Reading as R
use Rattle.layout.specs.Setting as S
use Rattle.layout.specs.Refusals.{numbered, broken_at}
use Rattle.layout.specs.Setting.{refuses, becomes}
use Rattle.layout.specs.Entries.{done, refused, takes, refused_with, check_of, write_of, written_of, list_of, listed_of, read_of, set_of}

-- ---- marks: `ro` i4 ..

abbrev ro : List ℕ → List ℕ
ro b = 0x72 ∷ 0x6f ∷ b

abbrev ma : List ℕ → List ℕ
ma b = 0x6d ∷ 0x61 ∷ b

abbrev li : List ℕ → List ℕ
li b = 0x6c ∷ 0x69 ∷ b

abbrev st : List ℕ → List ℕ
st b = 0x73 ∷ 0x74 ∷ b

abbrev bi : List ℕ → List ℕ
bi b = 0x62 ∷ 0x69 ∷ b

abbrev bo : List ℕ
bo = 0x62 ∷ 0x6f ∷ []

abbrev i1 : List ℕ → List ℕ
i1 b = 0x69 ∷ 0x31 ∷ b

abbrev i4 : List ℕ → List ℕ
i4 b = 0x69 ∷ 0x34 ∷ b

abbrev i8 : List ℕ → List ℕ
i8 b = 0x69 ∷ 0x38 ∷ b

abbrev f8 : List ℕ → List ℕ
f8 b = 0x66 ∷ 0x38 ∷ b

abbrev nu : List ℕ
nu = 0x6e ∷ 0x75 ∷ []

-- a number below 256 in 4 or 8 bytes
abbrev in4 : ℕ → List ℕ
in4 n = n ∷ zeros 3

abbrev in8 : ℕ → List ℕ
in8 n = n ∷ zeros 7

-- a slot of an offset and a size below 256
abbrev slot : ℕ → ℕ → List ℕ
slot offset size = in4 size ++ in4 offset

-- the bytes u, n times
abbrev times : ℕ → List ℕ → List ℕ
times zero u = []
times (suc n) u = u ++ times n u

-- ---- schemas

abbrev numbers : List ℕ
numbers = ro (2 ∷ (i4 [] ++ i8 []))

abbrev string : List ℕ
string = ro (1 ∷ st [])

abbrev binary : List ℕ
binary = ro (1 ∷ bi [])

abbrev strings : List ℕ
strings = ro (2 ∷ (st [] ++ st []))

abbrev bytelist : List ℕ
bytelist = ro (1 ∷ li (i1 []))

abbrev map : List ℕ
map = ro (1 ∷ ma (i8 [] ++ i8 []))

abbrev nested : List ℕ
nested = ro (1 ∷ ro (2 ∷ (i8 [] ++ f8 [])))

abbrev strokes : List ℕ
strokes = ro (2 ∷ (ro (1 ∷ i4 []) ++ ro (1 ∷ i4 [])))

abbrev bools : ℕ → List ℕ
bools n = ro (n ∷ times n bo)

-- ---- texts and rows

abbrev STK : List ℕ
STK = 0x53 ∷ 0x54 ∷ 0x4b ∷ []

abbrev PWR : List ℕ
PWR = 0x50 ∷ 0x57 ∷ 0x52 ∷ []

abbrev TPH : List ℕ
TPH = 0x54 ∷ 0x50 ∷ 0x48 ∷ []

-- a letter, and a character of three bytes that is cut
abbrev CUT : List ℕ
CUT = 0x53 ∷ 0xe2 ∷ 0x89 ∷ []

-- -2 in four bytes
abbrev minus2 : List ℕ
minus2 = 0xfe ∷ 0xff ∷ 0xff ∷ 0xff ∷ []

abbrev A : List ℕ
A = zeros 8 ++ (minus2 ++ zeros 4) ++ in8 1

abbrev B : List ℕ
B = in8 2 ++ (minus2 ++ zeros 4) ++ zeros 8

abbrev C : List ℕ
C = zeros 8 ++ slot 16 3 ++ (STK ++ zeros 5)

-- C with bad text
abbrev bad : List ℕ
bad = zeros 8 ++ slot 16 3 ++ (CUT ++ zeros 5)

abbrev D : List ℕ
D = zeros 8 ++ slot 16 0

abbrev E : List ℕ
E = zeros 8 ++ slot 16 32 ++ (in8 10 ++ zeros 8 ++ replicate 10 7 ++ zeros 6)

-- the keys 1, 2, 3 and the values 4, 5, 6
abbrev F : List ℕ
F = zeros 8 ++ slot 16 88 ++ in8 40 ++ (in8 3 ++ zeros 8 ++ in8 1 ++ in8 2 ++ in8 3) ++ (in8 3 ++ zeros 8 ++ in8 4 ++ in8 5 ++ in8 6)

-- 9 and 1.0
abbrev one : List ℕ
one = zeros 6 ++ (0xf0 ∷ 0x3f ∷ [])

abbrev G : List ℕ
G = zeros 8 ++ slot 16 24 ++ (zeros 8 ++ in8 9 ++ one)

abbrev STK-PWR : List ℕ
STK-PWR = zeros 8 ++ slot 24 3 ++ slot 32 3 ++ (STK ++ zeros 5) ++ (PWR ++ zeros 5)

-- a row of two varying fields by their slots and variable data
abbrev two : List ℕ → List ℕ → List ℕ → List ℕ
two first second d = zeros 8 ++ first ++ second ++ d

-- the same two strings, the second in front
abbrev turned : List ℕ
turned = two (slot 32 3) (slot 24 3) ((PWR ++ zeros 5) ++ (STK ++ zeros 5))

-- C with offset FFFFFFF8 and size 16
abbrev J : List ℕ
J = zeros 8 ++ (in4 16 ++ (0xf8 ∷ 0xff ∷ 0xff ∷ 0xff ∷ [])) ++ (STK ++ zeros 5)

abbrev N : List ℕ
N = zeros 8 ++ slot 16 8 ++ in8 0

-- ---- the table

-- writing the listing l gives exactly the row, check accepts it, and listing it gives l again
pub record Case (s l row : List ℕ) : Type 0 where
  pub writes : write_of s l (length row) ≡ takes (length row)
  pub written : written_of s l (zeros (length row)) ≡ row
  pub checks : check_of s row ≡ done
  pub lists : list_of s row (length l) ≡ takes (length l)
  pub listed : listed_of s row (zeros (length l)) ≡ l

pub record Table : Type 0 where
  pub a : Case numbers (ro (i4 minus2 ++ i8 (in8 1))) A × (length A ≡ 24)
  pub b : Case numbers (ro (i4 minus2 ++ nu)) B
  pub c : Case string (ro (st (in4 3 ++ STK))) C
  pub d : Case string (ro (st (in4 0))) D × (length D ≡ 16)
  pub e : Case bytelist (ro (li (in4 10 ++ times 10 (i1 (7 ∷ []))))) E × (length E ≡ 48) × (part E 8 4 ≡ in4 32)
  pub f : Case map (ro (ma (in4 3 ++ i8 (in8 1) ++ i8 (in8 2) ++ i8 (in8 3) ++ i8 (in8 4) ++ i8 (in8 5) ++ i8 (in8 6)))) F × (length F ≡ 104) ×
      (part F 8 4 ≡ in4 88) × (part F 16 8 ≡ in8 40)
  pub g : Case nested (ro (ro (i8 (in8 9) ++ f8 one))) G × (length G ≡ 40)
  -- the second offset, at byte 20, changed from 32 to 24; the first string of that row is read all the same
  pub h : Case strings (ro (st (in4 3 ++ STK) ++ st (in4 3 ++ PWR))) STK-PWR × (check_of strings (set STK-PWR 20 24) ≡ refused (broken_at 16))
      × (read_of strings (set STK-PWR 20 24) (0 ∷ []) ≡ R.bytes 24 3)
  -- the size, at byte 8, changed
  pub i : (check_of string (set C 8 8) ≡ done) × (check_of string (set C 8 9) ≡ refused (broken_at 8))
  pub j : read_of string J (0 ∷ []) ≡ R.refused (broken_at 8)
  -- the fixed part alone is a row of bools, and one byte less is none
  pub k : (check_of (bools 64) (zeros 520) ≡ done) × (check_of (bools 64) (zeros 519) ≡ refused (broken_at 0)) × (check_of (bools 65) (zeros 536) ≡ done)
      × (check_of (bools 65) (zeros 535) ≡ refused (broken_at 0))
  pub l : set_of numbers A (0 ∷ []) S.null ≡ becomes (in8 1 ++ zeros 8 ++ in8 1)
  pub m : (set_of string C (0 ∷ []) (S.bytes TPH) ≡ becomes (zeros 8 ++ slot 16 3 ++ (TPH ++ zeros 5)))
      × (set_of string C (0 ∷ []) (S.bytes (take 2 TPH)) ≡ refuses (numbered 9)) × (set_of string C (0 ∷ []) S.null ≡ refuses (numbered 9))
  pub n : Case bytelist (ro (li (in4 0))) N × (length N ≡ 24)
  -- strings in another order than their fields: accepted, listed as in field order, read and set where they stand
  pub any_order : (check_of strings turned ≡ done) × (listed_of strings turned (zeros 20) ≡ ro (st (in4 3 ++ STK) ++ st (in4 3 ++ PWR)))
      × (read_of strings turned (0 ∷ []) ≡ R.bytes 32 3)
      × (set_of strings turned (0 ∷ []) (S.bytes TPH) ≡ becomes (two (slot 32 3) (slot 24 3) ((PWR ++ zeros 5) ++ (TPH ++ zeros 5))))
  -- two slots at one nested stroke; a string that starts inside another, and one over another's last 8 bytes
  pub overlaps : (check_of strokes (two (slot 24 16) (slot 24 16) (zeros 8 ++ in8 7)) ≡ refused (broken_at 16))
      × (check_of strings (two (slot 24 16) (slot 32 16) (zeros 24)) ≡ refused (broken_at 16))
      × (check_of strings (two (slot 32 8) (slot 24 16) (zeros 16)) ≡ refused (broken_at 16))
  -- 8 bytes over at the end, or between the two
  pub gaps : (check_of strings (turned ++ zeros 8) ≡ refused (broken_at 0))
      × (check_of strings (two (slot 40 3) (slot 24 3) ((PWR ++ zeros 5) ++ zeros 8 ++ (STK ++ zeros 5))) ≡ refused (broken_at 0))
  -- an empty string where the other starts, and where it ends; inside it, before the variable data and past the end
  pub empties : (check_of strings (two (slot 24 0) (slot 24 3) (STK ++ zeros 5)) ≡ done)
      × (check_of strings (two (slot 32 0) (slot 24 3) (STK ++ zeros 5)) ≡ done)
      × (check_of strings (two (slot 32 0) (slot 24 16) (zeros 16)) ≡ refused (broken_at 16))
      × (check_of strings (two (slot 24 16) (slot 32 0) (zeros 16)) ≡ refused (broken_at 16))
      × (check_of strings (two (slot 16 0) (slot 24 3) (STK ++ zeros 5)) ≡ refused (broken_at 8))
      × (check_of strings (two (slot 40 0) (slot 24 3) (STK ++ zeros 5)) ≡ refused (broken_at 8))
  -- bad text: told at the slot, before its padding; in a listing 2, in a setting 8, whatever the length and nullness; in a binary sound
  pub texts : (check_of string bad ≡ refused (broken_at 8)) × (check_of string (set bad 20 1) ≡ refused (broken_at 8))
      × (read_of string bad (0 ∷ []) ≡ R.refused (broken_at 8)) × (write_of string (ro (st (in4 3 ++ CUT))) 24 ≡ refused_with (numbered 2) 0)
      × (set_of string C (0 ∷ []) (S.bytes CUT) ≡ refuses (numbered 8)) × (set_of string D (0 ∷ []) (S.bytes CUT) ≡ refuses (numbered 8))
      × (set_of string (in8 1 ++ zeros 8) (0 ∷ []) (S.bytes CUT) ≡ refuses (numbered 8)) × Case binary (ro (bi (in4 3 ++ CUT))) bad
