-- The place in the table of the type at a position: which it is, and what the type then is. Assumes nothing.
use mathlib.Core.Path.{◌≡◌, refl, ap, sym, ◌∙◌, subst}
use mathlib.Core.List.{List}
use Prim.Native.Nat.{ℕ, ◌+◌, ◌-◌, ◌≤◌, ◌<◌}
use native.Mathlib.Decide.{dec_lt}
use native.Mathlib.Omega.{arith}
use lib.ListN.{length, get_or}
use Rattle.schema.specs.Marks.{types}
use Rattle.schema.specs.Types.{Ty, fix, text, li, ma, ro, Tys, fixed_at, text_at, place}
use Rattle.schema.specs.Kinds.{kind_of_place, kind_of, kind_at, kind_ty, place_at, no_kind}
use Rattle.schema.specs.Walk.{Typed, type_at, next_at, ListAt, MapAt, StructAt}
use Rattle.schema.proofs.Table.{fixed-at, text_at_lem, fixed-high, text-low, text-high}
use Rattle.schema.proofs.Marked.{place_of_kind, Real, place-kind}
use Rattle.schema.proofs.Search.{placed-out, kind-past, kind-short, kind-two}
use Rattle.schema.proofs.Typing.{typed-kind, typed-li, typed-ma, typed-ro}

-- ---- a place and its kind are one

kind-place : (t : Ty) → place_of_kind (kind_ty t) ≡ place t
unfolding place
kind-place (fix f) = refl
kind-place (text t) = refl
kind-place (li t) = refl
kind-place (ma k v) = refl
kind-place (ro ts) = refl

kind-real : (t : Ty) → Real (kind_ty t)
kind-real (fix f) = tt
kind-real (text t) = tt
kind-real (li t) = tt
kind-real (ma k v) = tt
kind-real (ro ts) = tt

module _ (s : List ℕ) (at d : ℕ) (h : Typed s at d) where
  real : kind_at s at ≡ no_kind → ⊥
  real e = subst Real (sym (typed-kind s at d h) ∙ e) (kind-real (type_at s at d))

  mark-two : at + 1 < length s
  mark-two = go (dec_lt (at + 1) (length s))
    where
      past : Dec (at < length s) → (at + 1 < length s → ⊥) → ⊥
      past (yes p) n = real (kind-short s at p (omega arith))
      past (no p) n = real (kind-past s at (omega arith))

      go : Dec (at + 1 < length s) → at + 1 < length s
      go (yes p) = p
      go (no n) = absurd (past (dec_lt at (length s)) n)

  kind-is : kind_of_place (place_at s at) ≡ kind_ty (type_at s at d)
  unfolding place_at
  kind-is = sym (kind-two s at mark-two) ∙ typed-kind s at d h

  place-small : place_at s at < 12
  place-small = go (dec_lt (place_at s at) 12)
    where
      go : Dec (place_at s at < 12) → place_at s at < 12
      go (yes p) = p
      go (no n) = absurd (subst Real (sym kind-is ∙ placed-out (place_at s at) (omega arith)) (kind-real (type_at s at d)))

  pub typed-place : place_at s at ≡ place (type_at s at d)
  typed-place = sym (place-kind (place_at s at) place-small) ∙ ap place_of_kind kind-is ∙ kind-place (type_at s at d)

  kind-of : (k : ℕ) → k ≡ place_at s at → kind_at s at ≡ kind_of_place k
  unfolding place_at
  kind-of k e = kind-two s at mark-two ∙ ap kind_of_place (sym e)

  pub place-li : (k : ℕ) → k ≡ place_at s at → k ≡ 9 → ListAt s at d (at + 2)
  unfolding kind_of_place types kind_of
  place-li k e n = typed-li s at d h (kind-of 9 (sym n ∙ e))

  pub place-ma : (k : ℕ) → k ≡ place_at s at → k ≡ 10 → MapAt s at d (at + 2) (next_at s (at + 2) (d - 1))
  unfolding kind_of_place types kind_of
  place-ma k e n = typed-ma s at d h (kind-of 10 (sym n ∙ e))

  pub place-ro : (k : ℕ) → k ≡ place_at s at → k ≡ 11 → (n : ℕ) → n ≡ get_or s (at + 2) 0 → StructAt s at d (at + 3) n
  unfolding kind_of_place types kind_of
  place-ro k e n = typed-ro s at d h (kind-of 11 (sym n ∙ e))

-- ---- what a place says of a type

pub fixed_of : (t : Ty) (k : ℕ) → k ≡ place t → k < 7 → t ≡ fix (fixed_at k)
unfolding place
fixed_of (fix f) k e h = ap fix (sym (fixed-at f) ∙ ap fixed_at (sym e))
fixed_of (text t) k e h = absurd (omega (arith, text-low t))
fixed_of (li t) k e h = absurd (omega arith)
fixed_of (ma a b) k e h = absurd (omega arith)
fixed_of (ro ts) k e h = absurd (omega arith)

pub text_of : (t : Ty) (k : ℕ) → k ≡ place t → 7 ≤ k → k < 9 → t ≡ text (text_at k)
unfolding place
text_of (fix f) k e l h = absurd (omega (arith, fixed-high f))
text_of (text t) k e l h = ap text (sym (text_at_lem t) ∙ ap text_at (sym e))
text_of (li t) k e l h = absurd (omega arith)
text_of (ma a b) k e l h = absurd (omega arith)
text_of (ro ts) k e l h = absurd (omega arith)

-- a container's place is 9, 10 or 11
pub data Holding : Ty → ℕ → Type 0 where
  list : {t : Ty} → Holding (li t) 9
  map : {k v : Ty} → Holding (ma k v) 10
  struct : {ts : Tys} → Holding (ro ts) 11

pub holding-of : (t : Ty) (k : ℕ) → k ≡ place t → 9 ≤ k → Holding t k
unfolding place
holding-of (fix f) k e h = absurd (omega (arith, fixed-high f))
holding-of (text t) k e h = absurd (omega (arith, text-high t))
holding-of (li t) k e h = subst (Holding (li t)) (sym e) list
holding-of (ma a b) k e h = subst (Holding (ma a b)) (sym e) map
holding-of (ro ts) k e h = subst (Holding (ro ts)) (sym e) struct
