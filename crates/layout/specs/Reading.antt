-- Reading one place of any row, accepted or not. Assumes nothing: these are definitions.
use Rattle.std.specs.Prelude.{◌≡◌, Bool, List, [], ◌∷◌, ℕ, zero, suc, ℤ, eqb, length, take}
use Rattle.std.proofs.Math.Option.{Option, none, some}
use Rattle.std.proofs.Math.Decide.{dec_le, dec_lt}
use Rattle.words.specs.Bytes.{num, part}
use Rattle.words.specs.Signed.{half_of, to_signed}
use Rattle.schema.specs.Types.{Fixed, bo, i1, i2, i4, i8, f4, f8, Ty, fix, text, li, ma, ro, Tys, count, field}
use Rattle.layout.specs.Reader.{◌>>◌, assert}
use Rattle.layout.specs.Refusals.{Refusal, numbered}
use Rattle.layout.specs.Walk.{Seen, bad, null_at, seen, root_seat, walk}

-- Null, a bool, a signed number, a float32 or float64 by its bits, a byte range (start, size), a container's range and count; or a
-- refusal. Ranges count from the root row's first byte.
pub data Answer : Type 0 where
  null : Answer
  bool : Bool → Answer
  signed : ℤ → Answer
  float32 : ℕ → Answer
  float64 : ℕ → Answer
  bytes : ℕ → ℕ → Answer
  container : ℕ → ℕ → ℕ → Answer
  refused : Refusal → Answer

-- ---- what the schema alone shows

-- the type of the place, where the schema has it
unfoldable pub type_along : List ℕ → Ty → Option Ty
type_along [] t = some t
type_along (i ∷ p) (fix f) = none
type_along (i ∷ p) (text s) = none
type_along (i ∷ p) (li t) = type_along p t
type_along (zero ∷ p) (ma k v) = type_along p (li k)
type_along (suc zero ∷ p) (ma k v) = type_along p (li v)
type_along (suc (suc i) ∷ p) (ma k v) = none
type_along (i ∷ p) (ro ts) = assert (dec_lt i (count ts)) >> type_along p (field ts i)

-- and a path of at most 16 steps
unfoldable pub placed : List ℕ → Ty → Option Ty
placed p t = assert (dec_le (length p) 16) >> type_along p t

-- ---- the answer

-- a fixed-width leaf's bytes as what they stand for
unfoldable pub value_of : Fixed → List ℕ → Answer
value_of bo b = bool (eqb (num b) 1)
value_of i1 b = signed (to_signed (half_of 1) (num b))
value_of i2 b = signed (to_signed (half_of 2) (num b))
value_of i4 b = signed (to_signed (half_of 4) (num b))
value_of i8 b = signed (to_signed (half_of 8) (num b))
value_of f4 b = float32 (num b)
value_of f8 b = float64 (num b)

-- what the walk found at a place of the type; the count is a struct's fields, a list's elements, 2 for a map
unfoldable pub answer_of : Ty → Seen → Answer
answer_of t (bad r) = refused r
answer_of t (null_at s) = null
answer_of (fix f) (seen s o b) = value_of f b
answer_of (text t) (seen s o b) = bytes o (length b)
answer_of (li t) (seen s o b) = container o (length b) (num (take 8 b))
answer_of (ma k v) (seen s o b) = container o (length b) 2
answer_of (ro ts) (seen s o b) = container o (length b) (count ts)

unfoldable pub found : Option Ty → Seen → Answer
found none s = refused (numbered 5)
found (some t) s = answer_of t s

-- 5 for what the schema alone shows; then the walk
unfoldable pub read_in : Tys → List ℕ → List ℕ → Answer
read_in ts row p = found (placed p (ro ts)) (walk p (ro ts) root_seat 0 row)

-- ---- when two reads are alike

-- the bytes in a string's or binary's range; a container's don't count
unfoldable pub held : List ℕ → Answer → List ℕ
held row null = []
held row (bool v) = []
held row (signed z) = []
held row (float32 n) = []
held row (float64 n) = []
held row (bytes o n) = part row o n
held row (container o n k) = []
held row (refused r) = []

-- a read of one row is alike a read of another
pub record Alike (row : List ℕ) (a : Answer) (row' : List ℕ) (a' : Answer) : Type 0 where
  pub same : a ≡ a'
  pub bytes : held row a ≡ held row' a'
