-- Setting one leaf of a row. Assumes nothing: these are definitions.
use Rattle.std.specs.Prelude.{Bool, true, false, cond, List, [], ◌∷◌, ℕ, ℤ, eqb, length}
use Rattle.std.proofs.Math.Option.{Option, none, some}
use Rattle.std.proofs.lemmas.List.Edits.{sets}
use Rattle.words.specs.Bytes.{le, zeros, fill}
use Rattle.words.specs.Bits.{digit, put_bit}
use Rattle.words.specs.Signed.{half_of, of_signed, in_range}
use Rattle.words.specs.Tests.{is_yes}
use Rattle.schema.specs.Types.{Fixed, bo, i1, i2, i4, i8, f4, f8, Text, Ty, fix, text, li, ma, ro, Tys}
use Rattle.layout.specs.Refusals.{Refusal, numbered, broken_at}
use Rattle.layout.specs.Layout.{spells?, fault_at}
use Rattle.layout.specs.Walk.{Seat, Seen, bad, null_at, seen, root_seat, walk}
use Rattle.layout.specs.Reading as R
use Rattle.layout.specs.Reading.{Answer, placed, read_in}

-- null, a bool, a signed number, a float32 or float64 by its bits, or bytes
pub data Setting : Type 0 where
  null : Setting
  bool : Bool → Setting
  signed : ℤ → Setting
  float32 : ℕ → Setting
  float64 : ℕ → Setting
  bytes : List ℕ → Setting

abbrev pub is_null : Setting → Bool
is_null null = true
is_null (bool v) = false
is_null (signed z) = false
is_null (float32 n) = false
is_null (float64 n) = false
is_null (bytes u) = false

-- ---- what fits which place (8)

-- a bool fits only a bool place
unfoldable pub bool_bytes : Setting → Option (List ℕ)
bool_bytes null = none
bool_bytes (bool v) = some (digit v ∷ [])
bool_bytes (signed z) = none
bool_bytes (float32 n) = none
bool_bytes (float64 n) = none
bool_bytes (bytes u) = none

-- a signed number fits an integer place of w bytes whose range holds it
unfoldable pub signed_bytes : ℕ → Setting → Option (List ℕ)
signed_bytes w null = none
signed_bytes w (bool v) = none
signed_bytes w (signed z) = cond (in_range (half_of w) z) (some (le w (of_signed (half_of w) z))) none
signed_bytes w (float32 n) = none
signed_bytes w (float64 n) = none
signed_bytes w (bytes u) = none

-- a float32 only a float32, a float64 only a float64
unfoldable pub float32_bytes : Setting → Option (List ℕ)
float32_bytes null = none
float32_bytes (bool v) = none
float32_bytes (signed z) = none
float32_bytes (float32 n) = some (le 4 n)
float32_bytes (float64 n) = none
float32_bytes (bytes u) = none

unfoldable pub float64_bytes : Setting → Option (List ℕ)
float64_bytes null = none
float64_bytes (bool v) = none
float64_bytes (signed z) = none
float64_bytes (float32 n) = none
float64_bytes (float64 n) = some (le 8 n)
float64_bytes (bytes u) = none

-- the bytes that a bool or number writes into a fixed-width leaf, where it fits
unfoldable pub in_bytes : Fixed → Setting → Option (List ℕ)
in_bytes bo x = bool_bytes x
in_bytes i1 x = signed_bytes 1 x
in_bytes i2 x = signed_bytes 2 x
in_bytes i4 x = signed_bytes 4 x
in_bytes i8 x = signed_bytes 8 x
in_bytes f4 x = float32_bytes x
in_bytes f8 x = float64_bytes x

abbrev pub is_some : {A : Type 0} → Option A → Bool
is_some none = false
is_some (some a) = true

-- bytes fit a binary, and a string where they are text
abbrev pub fits_text : Text → Setting → Bool
fits_text t null = true
fits_text t (bool v) = false
fits_text t (signed z) = false
fits_text t (float32 n) = false
fits_text t (float64 n) = false
fits_text t (bytes u) = is_yes (spells? t u)

-- null any leaf; nothing a container
unfoldable pub suits : Ty → Setting → Bool
suits (fix f) x = cond (is_null x) true (is_some (in_bytes f x))
suits (text t) x = fits_text t x
suits (li t) x = false
suits (ma k v) x = false
suits (ro ts) x = false

-- ---- what keeps the place's size, and a varying place's nullness (9)

-- bytes of the present length
abbrev pub keeps_size : ℕ → Setting → Bool
keeps_size n null = false
keeps_size n (bool v) = true
keeps_size n (signed z) = true
keeps_size n (float32 m) = true
keeps_size n (float64 m) = true
keeps_size n (bytes u) = eqb (length u) n

-- by what the place reads: a null string or binary takes only null
unfoldable pub keeps_text : Answer → Setting → Bool
keeps_text R.null x = is_null x
keeps_text (R.bool v) x = true
keeps_text (R.signed z) x = true
keeps_text (R.float32 n) x = true
keeps_text (R.float64 n) x = true
keeps_text (R.bytes o n) x = keeps_size n x
keeps_text (R.container o n k) x = true
keeps_text (R.refused r) x = true

unfoldable pub keeps : Ty → Answer → Setting → Bool
keeps (fix f) a x = true
keeps (text t) a x = keeps_text a x
keeps (li t) a x = true
keeps (ma k v) a x = true
keeps (ro ts) a x = true

-- ---- the judgement, in its order

abbrev pub unless : Bool → ℕ → Option Refusal
unless true n = none
unless false n = some (numbered n)

-- the first refusal of two
infixr 25 ◌or◌
abbrev pub ◌or◌ : Option Refusal → Option Refusal → Option Refusal
◌or◌ none r = r
◌or◌ (some n) r = some n

-- the refusal of an answer that refuses
unfoldable pub refusal_in : Answer → Option Refusal
refusal_in R.null = none
refusal_in (R.bool v) = none
refusal_in (R.signed z) = none
refusal_in (R.float32 n) = none
refusal_in (R.float64 n) = none
refusal_in (R.bytes o n) = none
refusal_in (R.container o n k) = none
refusal_in (R.refused r) = some r

-- 5 and 6 as reading gives them, then 8, then 9
unfoldable pub judge_at : Option Ty → Answer → Setting → Option Refusal
judge_at none a x = some (numbered 5)
judge_at (some t) a x = refusal_in a or unless (suits t x) 8 or unless (keeps t a x) 9

-- ---- what is written: only the bit and the leaf's own bytes or slot

abbrev pub or_empty : Option (List ℕ) → List ℕ
or_empty none = []
or_empty (some u) = u

-- a bool or number clears the bit and writes the bytes, zero-padded in a slot; null sets the bit and zeroes the slot or element
unfoldable pub write_fixed : Fixed → Setting → Seat → List ℕ → List ℕ
write_fixed f x s row = sets (put_bit row s.bits s.number (is_null x)) s.slot (fill s.wide (or_empty (in_bytes f x)))

-- bytes of the present length
abbrev pub text_of : Setting → List ℕ
text_of null = []
text_of (bool v) = []
text_of (signed z) = []
text_of (float32 n) = []
text_of (float64 n) = []
text_of (bytes u) = u

-- a present string or binary takes its bytes; a null one takes null, which zeroes its slot
unfoldable pub write : Ty → Setting → Seen → List ℕ → List ℕ
write t x (bad r) row = row
write (fix f) x (null_at s) row = write_fixed f x s row
write (text t) x (null_at s) row = sets row s.slot (zeros s.wide)
write (li t) x (null_at s) row = row
write (ma k v) x (null_at s) row = row
write (ro ts) x (null_at s) row = row
write (fix f) x (seen s o b) row = write_fixed f x s row
write (text t) x (seen s o b) row = sets row o (text_of x)
write (li t) x (seen s o b) row = row
write (ma k v) x (seen s o b) row = row
write (ro ts) x (seen s o b) row = row

pub data Outcome : Type 0 where
  refuses : Refusal → Outcome
  becomes : List ℕ → Outcome

unfoldable pub write_at : Option Ty → Setting → Seen → List ℕ → List ℕ
write_at none x s row = row
write_at (some t) x s row = write t x s row

-- 7 for a row that breaks the layout, with the place of the fault; then the judgement, then what is written
unfoldable pub outcome : Option ℕ → Option Refusal → List ℕ → Outcome
outcome (some place) r row = refuses (broken_at place)
outcome none (some r) row = refuses r
outcome none none row = becomes row

unfoldable pub set_in : Tys → List ℕ → List ℕ → Setting → Outcome
set_in ts row p x =
    outcome (fault_at (ro ts) row) (judge_at (placed p (ro ts)) (read_in ts row p) x) (write_at (placed p (ro ts)) x (walk p (ro ts) root_seat 0 row) row)
