-- What the walk comes to at the end of a path, by what the tree holds there; and a child's bytes in its container's. Assumes nothing.
use mathlib.Core.Path.{◌≡◌, refl, sym, subst}
use mathlib.Core.Logic.{◌≢◌, ◌⊎◌, inl, inr}
use mathlib.Core.Option.{Option, some, none-ne-some, some-injective}
use mathlib.Core.List.{List, [], ◌∷◌}
use Prim.Native.Nat.{ℕ, zero, suc, ◌≤◌, ◌<◌, ◌^◌}
use native.Mathlib.Omega.{arith}
use native.Mathlib.Decide.{dec_le, dec_lt, ℕ_discrete}
use lib.ListN.{length}
use Rattle.schema.specs.Types.{Ty, fix, text, li, ma, ro, count, field}
use Rattle.layout.specs.Reader.{◌>>◌, assert}
use Rattle.layout.specs.Cells.{Cell, null, leaf, nodes, on_null, flag, parts, part_of}
use Rattle.layout.specs.Layout.{Lays}
use Rattle.layout.specs.Reading.{type_along, placed}
use Rattle.layout.proofs.Stepped as Stepped
use Rattle.layout.proofs.Stepped.{Leafy, Comes}
use Rattle.layout.proofs.Walked as Walked
use Rattle.layout.specs.Refusals.{Refusal, numbered}
use Rattle.layout.specs.Walk.{Seat, Seen, bad, null_at, seen, root_seat, Step, child_ty}
use Rattle.layout.proofs.Walked.{comes, Sits, Finds}
use Rattle.layout.proofs.Tree.{look, Valid, Parted}

-- ---- types along a path

pub asserted : {P : Type 0} {A : Type 0} (d : Dec P) (m : Option A) (a : A) → (assert d >> m) ≡ some a → m ≡ some a
unfolding assert
asserted (yes p) m a e = e
asserted (no n) m a e = absurd (none-ne-some _ e)

pub type-child : (i : ℕ) (p : List ℕ) (t T : Ty) → type_along (i ∷ p) t ≡ some T → type_along p (child_ty t i) ≡ some T
unfolding type_along child_ty
type-child i p (fix f) T e = absurd (none-ne-some _ e)
type-child i p (text s) T e = absurd (none-ne-some _ e)
type-child i p (li t) T e = e
type-child zero p (ma k v) T e = e
type-child (suc zero) p (ma k v) T e = e
type-child (suc (suc i)) p (ma k v) T e = absurd (none-ne-some _ e)
type-child i p (ro ts) T e = asserted (dec_lt i (count ts)) (type_along p (field ts i)) T e

pub type-end : (t T : Ty) → type_along [] t ≡ some T → t ≡ T
unfolding type_along
type-end t T e = some-injective _ _ e

pub placed-type : (p : List ℕ) (t T : Ty) → placed p t ≡ some T → type_along p t ≡ some T
unfolding placed
placed-type p t T e = asserted (dec_le (length p) 16) (type_along p t) T e

-- nothing stands past a leaf
pub leaf-end : (t U : Ty) (j : ℕ) (q : List ℕ) → Leafy t → type_along (j ∷ q) t ≡ some U → ⊥
unfolding type_along
leaf-end (fix f) U j q l h = none-ne-some _ h
leaf-end (text f) U j q l h = none-ne-some _ h
leaf-end (li t) U j q l h = l
leaf-end (ma k v) U j q l h = l
leaf-end (ro ts) U j q l h = l

past-leaf : (t T U : Ty) (j : ℕ) (q : List ℕ) → type_along [] t ≡ some T → Leafy T → type_along (j ∷ q) t ≡ some U → ⊥
past-leaf t T U j q e l h = leaf-end t U j q (subst Leafy (sym (type-end t T e)) l) h

parting : (i j : ℕ) (p q : List ℕ) → Dec (i ≡ j) → (i ≡ j → p ≢ q → Parted p q) → (i ∷ p) ≢ (j ∷ q) → Parted (i ∷ p) (j ∷ q)
unfolding Parted
parting i j p q (yes e) r n = inr (e, r e (λ m. n (rw (e, m))))
parting i j p q (no d) r n = inl d

-- two different paths to leaves are two leaves: at some step they part
pub two-leaves : (p q : List ℕ) (t T U : Ty) → type_along p t ≡ some T → Leafy T → type_along q t ≡ some U → Leafy U → p ≢ q → Parted p q
two-leaves [] [] t T U e l g m n = absurd (n refl)
two-leaves [] (j ∷ q) t T U e l g m n = absurd (past-leaf t T U j q e l g)
two-leaves (i ∷ p) [] t T U e l g m n = absurd (past-leaf t U T i p g m e)
two-leaves (i ∷ p) (j ∷ q) t T U e l g m n =
    parting i j p q (ℕ_discrete i j)
    (λ d k. two-leaves p q (child_ty t i) T U (type-child i p t T e) l
    (subst (λ (a : ℕ). type_along q (child_ty t a) ≡ some U) (sym d) (type-child j q t U g)) m k) n

-- ---- the tree along a path

-- what holds something is no null
parts-flag : (c : Cell) → 0 < length (parts c) → flag c ≡ 0
unfolding parts on_null
parts-flag (null u) h = absurd (omega arith)
parts-flag (leaf u) h = refl
parts-flag (nodes cs) h = refl

valid-flag : (j : ℕ) (p : List ℕ) (c : Cell) → Valid (j ∷ p) c → flag c ≡ 0
unfolding Valid
valid-flag j p c v = parts-flag c (omega (arith, v.0))

pub first-flag : (i j : ℕ) (p : List ℕ) (c : Cell) → Valid (i ∷ j ∷ p) c → flag (part_of i c) ≡ 0
unfolding Valid
first-flag i j p c v = valid-flag j p (part_of i c) v.1

-- a child that is not null: its bytes, which are part of its container's
pub record Below (t : Ty) (c : Cell) (i : ℕ) (b : List ℕ) : Type 0 where
  pub own : List ℕ
  pub lays : Lays (child_ty t i) (part_of i c) own
  pub short : length own ≤ length b

below_by : (t : Ty) (c : Cell) (i : ℕ) (b : List ℕ) (r : Step) → i < length (parts c) → flag (part_of i c) ≡ 0 → Comes t (child_ty t i) c i 0 b r → Below t c i b
below_by t c i b r k f (Stepped.past h) = absurd (omega arith)
below_by t c i b r k f (Stepped.missing l g d) = absurd (omega arith)
below_by t c i b r k f (Stepped.on {j = j} {u = u} l g d a) = record { own = u; lays = d.lays; short = omega (arith, d.room) }

pub below : (t : Ty) (c : Cell) (i : ℕ) (b : List ℕ) → Lays t c b → length b < 2 ^ 32 → i < length (parts c) → flag (part_of i c) ≡ 0 → Below t c i b
below t c i b y lim k f = below_by t c i b _ k f (comes t c i root_seat 0 b y lim)

-- ---- where the walk lands

-- nowhere, since the tree has no such place; at a null; or at bytes of the row that stand for what the tree holds there
pub data Landing (row : List ℕ) (T : Ty) (p : List ℕ) (c : Cell) : Seen → Type 0 where
  off : {n : Refusal} → (n ≡ numbered 5) ⊎ (n ≡ numbered 6) → ¬ Valid p c → Landing row T p c (bad n)
  at_null : {s : Seat} → Valid p c → flag (look p c) ≡ 1 → Landing row T p c (null_at s)
  at_seen : {s : Seat} {o : ℕ} {u : List ℕ} → Valid p c → Lays T (look p c) u → Sits row o u → Landing row T p c (seen s o u)

onward : {row : List ℕ} {T : Ty} {i : ℕ} {p : List ℕ} {c : Cell} {r : Seen} → i < length (parts c) → Landing row T p (part_of i c) r → Landing row T (i ∷ p) c r
unfolding Valid look
onward k (off n g) = off n (λ v. g v.1)
onward k (at_null v f) = at_null (k, v) f
onward k (at_seen v y s) = at_seen (k, v) y s

no_step : (i : ℕ) (p : List ℕ) (c : Cell) → length (parts c) ≤ i → ¬ Valid (i ∷ p) c
unfolding Valid
no_step i p c h v = omega (arith, v.0)

no-null : (i j : ℕ) (p : List ℕ) (c : Cell) → flag (part_of i c) ≡ 1 → ¬ Valid (i ∷ j ∷ p) c
no-null i j p c f v = omega (arith, first-flag i j p c v)

pub lands : (row p : List ℕ) (t : Ty) (c : Cell) (r : Seen) (T : Ty) → type_along p t ≡ some T → Finds row p t c r → Landing row T p c r
unfolding Valid look
lands row [] t c r T e (Walked.here {u = u} y lim st) = at_seen tt (subst (λ (a : Ty). Lays a c u) (type-end t T e) y) st
lands row (i ∷ p) t c r T e (Walked.past h) = off (inl refl) (no_step i p c h)
lands row (i ∷ []) t c r T e (Walked.missing k f) = at_null (k, tt) f
lands row (i ∷ j ∷ p) t c r T e (Walked.under k f) = off (inr refl) (no-null i j p c f)
lands row (i ∷ p) t c r T e (Walked.on k f g) = onward k (lands row p (child_ty t i) (part_of i c) r T (type-child i p t T e) g)
