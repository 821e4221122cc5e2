-- A path taken from lent steps reads as they do. Assumes nothing.
use mathlib.Core.Path.{◌≡◌, refl, sym, ap, ◌∙◌}
use mathlib.Core.List.{List}
use mathlib.Core.Option.{Option, none}
use Prim.Native.Nat.{ℕ, ◌<◌, ◌≤◌}
use native.Mathlib.Omega.{arith}
use native.Mathlib.Decide.{dec_le}
use lib.ListN.{length, get_or}
use lib.Seq.{ext_get_or}
use Rattle.layout.specs.Reader.{◌>>◌, assert}
use Rattle.layout.specs.Reading.{placed, found, read_in}
use Rattle.layout.specs.Entries.{read_of}
use Rattle.answers.specs.declared.Path.{Path}
use Rattle.answers.specs.Paths.{path_of}
use Rattle.answers.proofs.PathLaws.{length-path, path-at}
use Rattle.codes.specs.Steps.{Taken}

-- ---- there is one such path

pub taken-one : (l : List ℕ) (p p' : Path) → Taken l p → Taken l p' → p ≡ p'
taken-one l p p' t t' =
    one p.steps p'.steps p.len p'.len (ext_get_or 0 p.steps p'.steps (t.room ∙ sym t'.room) each)
    (t.long ∙ sym t'.long)
  where
    each : (i : ℕ) → i < length p.steps → get_or p.steps i 0 ≡ get_or p'.steps i 0
    each i q = go (dec_le (length l) i)
      where
        few : i < 16
        few = rw t.room at q

        go : Dec (length l ≤ i) → get_or p.steps i 0 ≡ get_or p'.steps i 0
        go (yes h) = t.spare i few h ∙ sym (t'.spare i few h)
        go (no n) = let h : i < length l = omega (arith, n) in t.same i few h ∙ sym (t'.same i few h)

    one : (s s' : List ℕ) (n n' : ℕ) → s ≡ s' → n ≡ n' → ◌≡◌ {A = Path} (record { steps = s; len = n }) (record { steps = s'; len = n' })
    one s s' n n' e f = rw (e, f)

-- ---- at most sixteen steps are the path

pub taken-short : (l : List ℕ) (p : Path) → Taken l p → length l ≤ 16 → path_of p ≡ l
taken-short l p t h =
    ext_get_or 0 (path_of p) l (length-path p ∙ t.long)
    (λ i q.
    let e : i < p.len = rw (length-path p) at q in
    let m : i < length l = rw t.long at e in
    path-at p i e ∙ t.same i (omega arith) m)

-- ---- more than sixteen lead to no place, whatever they are

pub no_place : {A : Type 0} {P : Type 0} (q : Dec P) (m : Option A) → (P → ⊥) → (assert q >> m) ≡ none
unfolding assert
no_place (yes p) m h = absurd (h p)
no_place (no n) m h = refl

pub long-alike : (s row p q : List ℕ) → 16 < length p → 16 < length q → read_of s row p ≡ read_of s row q
unfolding read_of read_in placed found
long-alike s row p q a b = rw (no_place (dec_le (length p) 16) _ (λ l. omega (arith, a)), no_place (dec_le (length q) 16) _ (λ l. omega (arith, b)))

pub above : (l : List ℕ) → (length l ≤ 16 → ⊥) → 16 < length l
above l n = omega (arith, n)

pub taken-reads : (l : List ℕ) (p : Path) → Taken l p → (s row : List ℕ) → read_of s row (path_of p) ≡ read_of s row l
taken-reads l p t s row = go (dec_le (length l) 16)
  where
    go : Dec (length l ≤ 16) → read_of s row (path_of p) ≡ read_of s row l
    go (yes h) = ap (read_of s row) (taken-short l p t h)
    go (no n) = long-alike s row (path_of p) l (rw (length-path p ∙ t.long) (above l n)) (above l n)
