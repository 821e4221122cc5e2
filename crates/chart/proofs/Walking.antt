-- The walk: a place's own claims, and then the places below it one behind the other. Assumes nothing.
use mathlib.Core.Path.{◌≡◌, refl, ap, ap₂, ◌∙◌}
use mathlib.Core.List.{List, [], ◌∷◌, ◌++◌}
use Prim.Native.Nat.{ℕ, suc, ◌+◌, ◌-◌, ◌≤◌, ◌<◌}
use native.Mathlib.Numerals.{add-one}
use native.Mathlib.Omega.{arith}
use lib.ListN.{take}
use Rattle.answers.specs.declared.Path.{Path}
use Rattle.answers.specs.Paths.{path_of}
use Rattle.table.specs.Tables.{schema_of}
use Rattle.chart.specs.Claims.{claim_all, through}
use Rattle.chart.specs.Labels.{labels_at, followed, drawn_from, drawn}
use Rattle.chart.specs.Room.{Neat, Follows, drawn_below}
use Rattle.chart.proofs.Claiming.{neat-front}

-- no child yet
pub walk_none : (f : ℕ → List ℕ → List ℕ) (m : List ℕ) → m ≡ through f 0 m
unfolding through
walk_none f m = refl

module _ (t row : List ℕ) where
  -- child i of a place of n steps, and all below it
  abbrev pub beneath : ℕ → List ℕ → ℕ → List ℕ → List ℕ
  beneath n p i = drawn_from (15 - n) (schema_of t) row (p ++ (i ∷ []))

  -- a path of sixteen steps claims nothing
  pub walk-last : (p : Path) (m : List ℕ) → 16 ≤ p.len → m ≡ drawn_below t row p m
  unfolding drawn_from
  walk-last p m h = let z : 16 - p.len ≡ 0 = omega arith in rw z

  -- one more child
  pub walk_turn : (n i : ℕ) (p : List ℕ) (q : Path) (m₀ : List ℕ) {m m' : List ℕ} → q.len ≡ n + 1 → path_of q ≡ p ++ (i ∷ [])
      → m ≡ through (beneath n p) i m₀ → m' ≡ drawn_below t row q m → m' ≡ through (beneath n p) (i + 1) m₀
  unfolding through
  walk_turn n i p q m₀ {m} l e f g =
      let d : 16 - q.len ≡ 15 - n = omega arith in
      let u : drawn_below t row q m ≡ beneath n p i m = ap₂ (λ (k : ℕ) (x : List ℕ). drawn_from k (schema_of t) row x m) d e in
      rw (add-one i) (g ∙ u ∙ ap (beneath n p i) f)

  split : (n : ℕ) (p m : List ℕ) → n < 16
      → through (beneath n p) (followed (labels_at (schema_of t) row p) m) (claim_all (labels_at (schema_of t) row p).claims m)
      ≡ drawn_from (16 - n) (schema_of t) row p m
  unfolding drawn_from
  split n p m h = let e : 16 - n ≡ suc (15 - n) = omega arith in rw e

  -- a place and all its children
  pub walk-all : (p : Path) (i k : ℕ) (m₀ : List ℕ) {m m' : List ℕ} → Neat p → p.len < 16 → Follows (labels_at (schema_of t) row (path_of p)) m₀ k m
      → i ≤ k → k ≤ i
      → m' ≡ through (beneath p.len (take p.len p.steps)) i m → m' ≡ drawn_below t row p m₀
  walk-all p i k m₀ {m} {m'} n h d a b g =
      let same : i ≡ k = omega arith in
      g
      ∙ ap₂ (λ (x : List ℕ) (j : ℕ). through (beneath p.len x) j m) (neat-front p n) (same ∙ d.below)
      ∙ ap (through (beneath p.len (path_of p)) (followed (labels_at (schema_of t) row (path_of p)) m₀)) d.chart
      ∙ split p.len (path_of p) m₀ h

  pub walk-root : (p : Path) (m : List ℕ) {m' : List ℕ} → p.len ≡ 0 → path_of p ≡ [] → m' ≡ drawn_below t row p m → m' ≡ drawn (schema_of t) row m
  unfolding drawn
  walk-root p m z e g = g ∙ ap₂ (λ (k : ℕ) (x : List ℕ). drawn_from k (schema_of t) row x m) (ap (λ (n : ℕ). 16 - n) z) e
