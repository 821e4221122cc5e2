-- Demand 3, as it is read: of any row that check accepts, what setting one leaf does, and what it leaves. Assumes nothing: these are
-- definitions.
use Rattle.std.specs.Prelude.{◌≡◌, ◌≢◌, true, false, List, ℕ, ◌^◌, ◌<◌}
use Rattle.std.proofs.Math.Option.{Option, none, some}
use Rattle.words.specs.Bytes.{Bytes, part}
use Rattle.schema.specs.Types.{Ty, ro}
use Rattle.schema.specs.Walk.{fields_of}
use Rattle.layout.specs.Refusals.{Refusal, numbered}
use Rattle.layout.specs.Reading as R
use Rattle.layout.specs.Reading.{Answer, placed, Alike}
use Rattle.layout.specs.Setting as S
use Rattle.layout.specs.Setting.{Setting, suits, keeps, refusal_in, Outcome, refuses, becomes}
use Rattle.layout.specs.Entries.{done, check_of, read_of, set_of}

-- an answer as the setting that it shows; a byte range as the bytes that the row holds there
unfoldable pub told : List ℕ → Answer → Option Setting
told row R.null = some S.null
told row (R.bool v) = some (S.bool v)
told row (R.signed z) = some (S.signed z)
told row (R.float32 n) = some (S.float32 n)
told row (R.float64 n) = some (S.float64 n)
told row (R.bytes o n) = some (S.bytes (part row o n))
told row (R.container o n k) = none
told row (R.refused r) = none

-- what code can pass: 32 and 64 bits of a float, and bytes. `answers::settings::given`, which every setting passes, promises it of each.
abbrev pub Proper : Setting → Type 0
Proper S.null = Unit {0}
Proper (S.bool v) = Unit {0}
Proper (S.signed z) = Unit {0}
Proper (S.float32 n) = n < 2 ^ 32
Proper (S.float64 n) = n < 2 ^ 64
Proper (S.bytes u) = Bytes u

-- Where document 01 says that setting x is refused at a place of an accepted row, by the place's type and what it reads: no such place; a
-- null before the path's end; x doesn't fit the type, or the place is a container; its byte size, or a varying place's nullness, would change.
pub data Grounds (place : Option Ty) (reads : Answer) (x : Setting) : Refusal → Type 0 where
  nowhere : reads ≡ R.refused (numbered 5) → Grounds place reads x (numbered 5)
  under_null : reads ≡ R.refused (numbered 6) → Grounds place reads x (numbered 6)
  unfit : {t : Ty} → place ≡ some t → refusal_in reads ≡ none → suits t x ≡ false → Grounds place reads x (numbered 8)
  moves : {t : Ty} → place ≡ some t → refusal_in reads ≡ none → suits t x ≡ true → keeps t reads x ≡ false → Grounds place reads x (numbered 9)

-- a refused setting's refusal
unfoldable pub refusal_of : Outcome → Option Refusal
refusal_of (refuses r) = some r
refusal_of (becomes row) = none

-- Of a row, x set at p made row₁ and y set at q made row₂. Setting each where the other was set first leaves the same bytes.
pub record Meet (s row₁ row₂ p q : List ℕ) (x y : Setting) : Type 0 where
  pub end : List ℕ
  pub p-first : set_of s row₁ q y ≡ becomes end
  pub q-first : set_of s row₂ p x ≡ becomes end

pub record SetsWell (s row : List ℕ) : Type 0 where
  -- the row is still accepted, and of bytes
  pub still : (p : List ℕ) (x : Setting) (row' : List ℕ) → Proper x → set_of s row p x ≡ becomes row' → check_of s row' ≡ done
  pub bytes : (p : List ℕ) (x : Setting) (row' : List ℕ) → Proper x → set_of s row p x ≡ becomes row' → Bytes row'
  -- the leaf reads as set, float bits included
  pub reads-as-set : (p : List ℕ) (x : Setting) (row' : List ℕ) → Proper x → set_of s row p x ≡ becomes row' → told row' (read_of s row' p) ≡ some x
  -- every other path reads as before
  pub others : (p q : List ℕ) (x : Setting) (row' : List ℕ) → Proper x → set_of s row p x ≡ becomes row' → p ≢ q
      → Alike row' (read_of s row' q) row (read_of s row q)
  -- setting a present leaf to what it reads alters no byte
  pub no_change : (p : List ℕ) (x : Setting) → told row (read_of s row p) ≡ some x → x ≢ S.null → set_of s row p x ≡ becomes row
  -- two settings of one leaf leave what the last alone leaves
  pub last-alone : (p : List ℕ) (x y : Setting) (row' : List ℕ) → Proper x → Proper y → set_of s row p x ≡ becomes row' → set_of s row' p y ≡ set_of s row p y
  -- settings of two different leaves leave the same bytes in either order
  pub either_order : (p q : List ℕ) (x y : Setting) (row₁ row₂ : List ℕ) → Proper x → Proper y → p ≢ q → set_of s row p x ≡ becomes row₁
      → set_of s row q y ≡ becomes row₂ → Meet s row₁ row₂ p q x y
  -- a setting is refused only where document 01 says so
  pub refused-only : (p : List ℕ) (x : Setting) (r : Refusal) → set_of s row p x ≡ refuses r → Grounds (placed p (ro (fields_of s))) (read_of s row p) x r
  -- and there it is refused, in that way
  pub refused-there : (p : List ℕ) (x : Setting) (r : Refusal) → Grounds (placed p (ro (fields_of s))) (read_of s row p) x r → set_of s row p x ≡ refuses r
  -- and no accepted setting made before it at another leaf changes that
  pub unmoved : (p q : List ℕ) (x y : Setting) (row' : List ℕ) → Proper x → p ≢ q → set_of s row p x ≡ becomes row'
      → refusal_of (set_of s row' q y) ≡ refusal_of (set_of s row q y)

abbrev pub Demand3 : Type 0
Demand3 = (s row : List ℕ) → Bytes row → check_of s row ≡ done → SetsWell s row
