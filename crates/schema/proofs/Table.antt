-- What is true of each line of the table. Assumes nothing.
use mathlib.Core.Path.{◌≡◌, refl, sym, ap, subst}
use mathlib.Core.List.{List, [], ◌∷◌}
use Prim.Native.Nat.{ℕ, zero, suc, ◌+◌, ◌-◌, ◌≤◌, ◌<◌}
use native.Mathlib.Omega.{arith}
use lib.ListN.{length}
use Rattle.words.specs.Bytes.{Bytes, empty, byte}
use Rattle.schema.specs.Marks.{types, line, mark_at}
use Rattle.schema.specs.Types.{Fixed, bo, i1, i2, i4, i8, f4, f8, Text, st, bi, Ty, fix, text, li, ma, ro, fixed_place, text_place, fixed_at, text_at}
use Rattle.schema.specs.Types.{place, width, mark}

pub width-8 : (f : Fixed) → width f ≤ 8
unfolding width types fixed_place
width-8 bo = omega arith
width-8 i1 = omega arith
width-8 i2 = omega arith
width-8 i4 = omega arith
width-8 i8 = omega arith
width-8 f4 = omega arith
width-8 f8 = omega arith

pub width-pos : (f : Fixed) → 1 ≤ width f
unfolding width types fixed_place
width-pos bo = omega arith
width-pos i1 = omega arith
width-pos i2 = omega arith
width-pos i4 = omega arith
width-pos i8 = omega arith
width-pos f4 = omega arith
width-pos f8 = omega arith

-- a mark is two bytes
pub record IsMark (m : List ℕ) : Type 0 where
  pub two : length m ≡ 2
  pub bytes : Bytes m

pub pair-mark : (a b : ℕ) → a < 256 → b < 256 → IsMark (a ∷ b ∷ [])
pair-mark a b h k = record { two = refl; bytes = byte {d = a} h (byte {d = b} k empty) }

fixed-mark : (f : Fixed) → IsMark (mark (fix f))
unfolding mark mark_at types place fixed_place
fixed-mark bo = pair-mark 98 111 (omega arith) (omega arith)
fixed-mark i1 = pair-mark 105 49 (omega arith) (omega arith)
fixed-mark i2 = pair-mark 105 50 (omega arith) (omega arith)
fixed-mark i4 = pair-mark 105 52 (omega arith) (omega arith)
fixed-mark i8 = pair-mark 105 56 (omega arith) (omega arith)
fixed-mark f4 = pair-mark 102 52 (omega arith) (omega arith)
fixed-mark f8 = pair-mark 102 56 (omega arith) (omega arith)

text-mark : (t : Text) → IsMark (mark (text t))
unfolding mark mark_at types place text_place
text-mark st = pair-mark 115 116 (omega arith) (omega arith)
text-mark bi = pair-mark 98 105 (omega arith) (omega arith)

pub is-mark : (t : Ty) → IsMark (mark t)
unfolding mark mark_at types place
is-mark (fix f) = fixed-mark f
is-mark (text t) = text-mark t
is-mark (li t) = pair-mark 108 105 (omega arith) (omega arith)
is-mark (ma k v) = pair-mark 109 97 (omega arith) (omega arith)
is-mark (ro ts) = pair-mark 114 111 (omega arith) (omega arith)

-- ---- a type and its place

-- what holds at each of the first n places
abbrev pub Each : (ℕ → Type 0) → ℕ → Type 0
Each P zero = Unit {0}
Each P (suc n) = P 0 × Each (λ k. P (suc k)) n

pub each : (P : ℕ → Type 0) (n : ℕ) → Each P n → (k : ℕ) → k < n → P k
each P zero a k h = absurd (omega arith)
each P (suc n) a zero h = a.0
each P (suc n) a (suc k) h = each (λ j. P (suc j)) n a.1 k (omega arith)

-- the first n lines of a column of the table of types
abbrev column : {A : Type 0} → ℕ → (ℕ → A) → List A
column zero f = []
column (suc n) f = f 0 ∷ column n (λ k. f (suc k))

-- columns that compute to the same agree at each line
pub agree : {A : Type 0} (f g : ℕ → A) (n : ℕ) → column n f ≡ column n g → (k : ℕ) → k < n → f k ≡ g k
agree f g zero e k h = absurd (omega arith)
agree f g (suc n) e zero h = cc
agree f g (suc n) e (suc k) h = agree (λ j. f (suc j)) (λ j. g (suc j)) n (cc) k (omega arith)

pub fixed-at : (f : Fixed) → fixed_at (fixed_place f) ≡ f
unfolding fixed_at fixed_place
fixed-at bo = refl
fixed-at i1 = refl
fixed-at i2 = refl
fixed-at i4 = refl
fixed-at i8 = refl
fixed-at f4 = refl
fixed-at f8 = refl

pub text_at_lem : (t : Text) → text_at (text_place t) ≡ t
unfolding text_at text_place
text_at_lem st = refl
text_at_lem bi = refl

pub fixed-high : (f : Fixed) → fixed_place f < 7
unfolding fixed_place
fixed-high bo = omega arith
fixed-high i1 = omega arith
fixed-high i2 = omega arith
fixed-high i4 = omega arith
fixed-high i8 = omega arith
fixed-high f4 = omega arith
fixed-high f8 = omega arith

pub text-low : (t : Text) → 7 ≤ text_place t
unfolding text_place
text-low st = omega arith
text-low bi = omega arith

pub text-high : (t : Text) → text_place t < 9
unfolding text_place
text-high st = omega arith
text-high bi = omega arith

pub place-fixed : (k : ℕ) → k < 7 → fixed_place (fixed_at k) ≡ k
unfolding fixed_at fixed_place
place-fixed = agree (λ k. fixed_place (fixed_at k)) (λ k. k) 7 refl

text-from : (j : ℕ) → j < 2 → text_place (text_at (7 + j)) ≡ 7 + j
unfolding text_at text_place
text-from = agree (λ j. text_place (text_at (7 + j))) (λ j. 7 + j) 2 refl

pub place-text : (k : ℕ) → 7 ≤ k → k < 9 → text_place (text_at k) ≡ k
place-text k l h =
    let e : 7 + (k - 7) ≡ k = omega arith in
    subst (λ (n : ℕ). text_place (text_at n) ≡ n) e (text-from (k - 7) (omega arith))

pub line-width : (k : ℕ) → k < 7 → (line k).width ≡ width (fixed_at k)
unfolding width
line-width k h = sym (ap (λ n. (line n).width) (place-fixed k h))

-- of kind 0, bool
pub bool_at : (k : ℕ) → k ≡ 0 → fixed_at k ≡ bo
unfolding fixed_at
bool_at k e = rw e

pub bool-one : (k : ℕ) → k ≡ 0 → width (fixed_at k) ≡ 1
unfolding width types fixed_place
bool-one k e = ap width (bool_at k e)

pub mark-two : (k : ℕ) → length (mark_at k) ≡ 2
unfolding mark_at
mark-two k = refl
