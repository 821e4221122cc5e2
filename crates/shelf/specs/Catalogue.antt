-- A catalogue: at most 16 different schemas, and which lent bytes hold one. Assumes nothing: these are definitions.
use Rattle.std.specs.Prelude.{Bool, true, not, ◌&&◌, cond, List, [], ◌∷◌, ◌++◌, ℕ, zero, suc, ◌+◌, eqb, leb, ltb, length, get_or}
use Rattle.words.specs.Bytes.{le, num, part}
use Rattle.schema.specs.Reading.{judged}
use Rattle.layout.specs.Entries.{is_accepted}
use Rattle.compare.specs.Lent.{same}

-- ---- schemas to bytes

-- a schema in its place: its length in 2 bytes, little endian, and its bytes
unfoldable pub entry : List ℕ → List ℕ
entry s = le 2 (length s) ++ s

-- schemas back to back
unfoldable pub entries : List (List ℕ) → List ℕ
entries [] = []
entries (s ∷ ss) = entry s ++ entries ss

-- the used bytes: how many schemas there are, and then each
unfoldable pub used : List (List ℕ) → List ℕ
used ss = length ss ∷ entries ss

-- ---- bytes to schemas

-- byte 0 is the count
abbrev pub count_in : List ℕ → ℕ
count_in t = get_or t 0 0

-- the length of the schema whose entry starts at a place
abbrev pub size_at : List ℕ → ℕ → ℕ
size_at t at = num (part t at 2)

-- where the entry of schema i starts: behind those before it
unfoldable pub start_of : List ℕ → ℕ → ℕ
start_of t zero = 1
start_of t (suc i) = start_of t i + 2 + size_at t (start_of t i)

abbrev pub size_of : List ℕ → ℕ → ℕ
size_of t i = size_at t (start_of t i)

-- the schema at number i
unfoldable pub schema_in : List ℕ → ℕ → List ℕ
schema_in t i = part t (start_of t i + 2) (size_of t i)

-- the first n schemas
unfoldable pub schemas_to : List ℕ → ℕ → List (List ℕ)
schemas_to t zero = []
schemas_to t (suc n) = schemas_to t n ++ (schema_in t n ∷ [])

-- as many as the count says; what lies behind them is not looked at
unfoldable pub schemas_in : List ℕ → List (List ℕ)
schemas_in t = schemas_to t (count_in t)

-- ---- which lent bytes are a catalogue

-- the number of s among schemas, counted from 0; how many they are where it is none of them
unfoldable pub number_among : List ℕ → List (List ℕ) → ℕ
number_among s [] = 0
number_among s (x ∷ xs) = cond (same x s) 0 (suc (number_among s xs))

abbrev pub among : List ℕ → List (List ℕ) → Bool
among s ss = ltb (number_among s ss) (length ss)

-- schema i has at most 1,024 bytes, keeps its rules, and is none of those before it
unfoldable pub stands : List ℕ → ℕ → Bool
stands t i = leb (size_of t i) 1024 && (is_accepted (judged (schema_in t i)) && not (among (schema_in t i) (schemas_to t i)))

-- the first n do
unfoldable pub stand : List ℕ → ℕ → Bool
stand t zero = true
stand t (suc n) = stand t n && stands t n

-- 16,417 bytes, which have room for 16 schemas of 1,024 bytes, and at most 16 schemas, of which each stands
unfoldable pub is_catalogue : List ℕ → Bool
is_catalogue t = eqb (length t) 16417 && (leb (count_in t) 16 && stand t (count_in t))
