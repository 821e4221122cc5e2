-- The laws of the types by position: sizes, what is left, and a step of reading at each kind. Assumes nothing.
use mathlib.Core.Path.{◌≡◌, refl, ap, sym, ◌∙◌}
use mathlib.Core.List.{List, [], ◌∷◌, ◌++◌}
use Prim.Native.Nat.{ℕ, zero, suc, ◌+◌, ◌-◌, ◌<◌, ◌≤◌}
use native.Mathlib.Omega.{arith}
use borrow.Author.Tests.{le-leb, lt-leb}
use lib.ListN.{length, drop, get_or, length-append, length-drop}
use lib.Seq.{drop-drop, get_or-drop, drop-append_seam}
use Rattle.schema.specs.Marks.{mark_at}
use Rattle.schema.specs.Types.{Ty, fix, text, li, ma, ro, Tys, end, ◌then◌, Fixed, Text, fixed_at, text_at, mark}
use Rattle.schema.specs.House.{schema, schemas}
use Rattle.schema.specs.Kinds.{kind_at, Kind, fixed_kind, text_kind, list_kind, map_kind, struct_kind, no_kind}
use Rattle.schema.specs.Reading.{Parsed, none, some, nones, somes, after, afters, parse_type, parse_all, parse_ro, parse_kind}
use Rattle.schema.specs.Walk.{size, sizes}
use Rattle.schema.proofs.Parse.{Sound, sound}

-- sizes
pub size-fixed : (f : Fixed) → size (fix f) ≡ 2
unfolding size schema mark mark_at
size-fixed f = refl

pub size-text : (t : Text) → size (text t) ≡ 2
unfolding size schema mark mark_at
size-text t = refl

pub size-li : (X : Ty) → size (li X) ≡ 2 + size X
unfolding size schema mark mark_at
size-li X = omega arith

pub size-ma : (K U : Ty) → size (ma K U) ≡ 2 + size K + size U
unfolding size schema mark mark_at
size-ma K U = omega (arith, length-append (schema K) (schema U))

pub size-ro : (ts : Tys) → size (ro ts) ≡ 3 + sizes ts
unfolding size sizes schema mark mark_at
size-ro ts = omega arith

pub sizes-done : sizes end ≡ 0
unfolding sizes schema
sizes-done = refl

pub sizes-more : (X : Ty) (ts : Tys) → sizes (X then ts) ≡ size X + sizes ts
unfolding size sizes schema
sizes-more X ts = length-append (schema X) (schemas ts)

pub size-two : (X : Ty) → 2 ≤ size X
size-two (fix f) = omega (arith, size-fixed f)
size-two (text t) = omega (arith, size-text t)
size-two (li X) = omega (arith, size-li X)
size-two (ma K U) = omega (arith, size-ma K U)
size-two (ro ts) = omega (arith, size-ro ts)

-- what is left after a reading at a position is what stands at the position after it
left-of : (s b r : List ℕ) (at : ℕ) → drop at s ≡ b ++ r → r ≡ drop (at + length b) s
left-of s b r at e = sym (sym (drop-drop (length b) at s) ∙ rw e (drop-append_seam b r))

pub record Rest (s : List ℕ) (at : ℕ) (X : Ty) (r : List ℕ) : Type 0 where
  pub form : r ≡ drop (at + size X) s
  pub room : at + size X ≤ length s

abbrev pub Left : List ℕ → ℕ → Parsed → Type 0
Left s at none = Unit {0}
Left s at (some X r) = Rest s at X r

pub left : (s : List ℕ) (at d : ℕ) → Left s at (parse_type d (drop at s))
unfolding size
left s at d = go (parse_type d (drop at s)) (sound d (drop at s))
  where
    go : (x : Parsed) → Sound d (drop at s) x → Left s at x
    go none h = tt
    go (some X r) h = record {
      form = left-of s (schema X) r at h.form;
      room = omega (arith, size-two X, length-drop at s, ap length h.form, length-append (schema X) r);
    }

-- one step of the reading at a position, by the kind that stands there
module _ (s : List ℕ) (at d : ℕ) (h : 0 < d) where
  step : (κ : Kind) → kind_at s at ≡ κ → parse_type d (drop at s) ≡ parse_kind (parse_type (d - 1)) κ (drop at s)
  step κ e = go d h
    where
      go : (d : ℕ) → 0 < d → parse_type d (drop at s) ≡ parse_kind (parse_type (d - 1)) κ (drop at s)
      go zero k = absurd (omega arith)
      go (suc d) k = let f : suc d - 1 ≡ d = omega arith in rw f (unfold parse_type kind_at in rw e)

  pub step-fixed : (k : ℕ) → kind_at s at ≡ fixed_kind k → parse_type d (drop at s) ≡ some (fix (fixed_at k)) (drop (at + 2) s)
  unfolding parse_kind
  step-fixed k e = step (fixed_kind k) e ∙ rw drop-drop

  pub step-text : (k : ℕ) → kind_at s at ≡ text_kind k → parse_type d (drop at s) ≡ some (text (text_at k)) (drop (at + 2) s)
  unfolding parse_kind
  step-text k e = step (text_kind k) e ∙ rw drop-drop

  pub step-li : kind_at s at ≡ list_kind → parse_type d (drop at s) ≡ after (parse_type (d - 1) (drop (at + 2) s)) none (λ X r. some (li X) r)
  unfolding parse_kind
  step-li e = step list_kind e ∙ rw drop-drop

  pub step-ma : kind_at s at ≡ map_kind → parse_type d (drop at s) ≡ after (parse_type (d - 1) (drop (at + 2) s)) none
      (λ K r. after (parse_type (d - 1) r) none (λ U q. some (ma K U) q))
  unfolding parse_kind
  step-ma e = step map_kind e ∙ rw drop-drop

  pub step-ro : kind_at s at ≡ struct_kind → parse_type d (drop at s) ≡ parse_ro (parse_type (d - 1)) (get_or s (at + 2) 0) (drop (at + 3) s)
  unfolding parse_kind
  step-ro e = step struct_kind e ∙ rw (drop-drop, get_or-drop)

  -- a struct of no fields, and one of too many
  pub step-few : kind_at s at ≡ struct_kind → get_or s (at + 2) 0 < 1 → parse_type d (drop at s) ≡ none
  unfolding parse_ro
  step-few e k = step-ro e ∙ rw (lt-leb _ _ k)

  pub step-many : kind_at s at ≡ struct_kind → 128 < get_or s (at + 2) 0 → parse_type d (drop at s) ≡ none
  unfolding parse_ro
  step-many e k = step-ro e ∙ rw (le-leb 1 (get_or s (at + 2) 0) (omega arith), lt-leb _ _ k)

  pub step-none : kind_at s at ≡ no_kind → parse_type d (drop at s) ≡ none
  unfolding parse_kind
  step-none e = step no_kind e

-- n types one after the other
module _ (s : List ℕ) (at d : ℕ) where
  pub all_none : parse_all (parse_type d) 0 (drop at s) ≡ somes end (drop at s)
  unfolding parse_all
  all_none = refl

  pub all_more : (n : ℕ) → 0 < n → parse_all (parse_type d) n (drop at s) ≡ after (parse_type d (drop at s)) nones
      (λ X r. afters (parse_all (parse_type d) (n - 1) r) nones (λ Xs q. somes (X then Xs) q))
  all_more zero k = absurd (omega arith)
  all_more (suc n) k = let f : suc n - 1 ≡ n = omega arith in rw f (unfold parse_all in refl)
