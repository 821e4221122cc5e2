-- A path is its first len numbers: those past its length play no part. Assumes nothing.
use mathlib.Core.Path.{◌≡◌, sym, ap, ◌∙◌}
use mathlib.Core.Logic.{◌⊎◌, inl, inr}
use mathlib.Core.List.{List, ◌++◌}
use Prim.Native.Nat.{ℕ, ◌+◌, ◌-◌, ◌<◌, ◌≤◌}
use native.Mathlib.Omega.{arith}
use lib.ListN.{length, take, get_or, length-take, get_or-append, get_or-eq_default, get_or-replicate}
use lib.Seq.{get_or-take, get_or-append-add, ext_get_or}
use Rattle.words.specs.Bytes.{zeros, fill}
use Rattle.words.proofs.Numbers.{length-fill}
use Rattle.words.proofs.Parts.{lt-or-le}
use Rattle.answers.specs.declared.Path.{Path}
use Rattle.answers.specs.Paths.{path_of}

short : (n : ℕ) (l : List ℕ) → length (take n l) ≤ n
short n l = rw length-take (omega arith)

pub length-path : (p : Path) → length (path_of p) ≡ p.len
unfolding path_of
length-path p = length-fill p.len (take p.len p.steps) (short p.len p.steps)

-- zeros behind a list are what a look past its end finds there
get_or-fill : (w : ℕ) (u : List ℕ) (i : ℕ) → i < w → get_or (fill w u) i 0 ≡ get_or u i 0
unfolding fill
get_or-fill w u i h = go (lt-or-le i (length u))
  where
    go : (i < length u) ⊎ (length u ≤ i) → get_or (u ++ zeros (w - length u)) i 0 ≡ get_or u i 0
    go (inl l) = get_or-append u (zeros (w - length u)) 0 i l
    go (inr l) =
        let at : i ≡ length u + (i - length u) = omega arith in
        ap (λ (n : ℕ). get_or (u ++ zeros (w - length u)) n 0) at
        ∙ get_or-append-add u (zeros (w - length u)) (i - length u) 0
        ∙ get_or-replicate (w - length u) (i - length u) 0 0 (omega arith)
        ∙ sym (get_or-eq_default u 0 l)

-- a step of the path is the number held at its place
pub path-at : (p : Path) (k : ℕ) → k < p.len → get_or (path_of p) k 0 ≡ get_or p.steps k 0
unfolding path_of
path-at p k h = get_or-fill p.len (take p.len p.steps) k h ∙ get_or-take p.len p.steps k 0 h

-- paths alike but for the numbers past their length are one path
pub one-path : (p q : Path) → p.len ≡ q.len → ((i : ℕ) → i < p.len → get_or p.steps i 0 ≡ get_or q.steps i 0) → path_of p ≡ path_of q
one-path p q e same =
    ext_get_or 0 (path_of p) (path_of q) (length-path p ∙ e ∙ sym (length-path q))
    (λ i h.
    let l : i < p.len = rw (length-path p) at h in
    path-at p i l ∙ same i l ∙ sym (path-at q i (rw e at l)))
