-- A loop over children that lists one after another: its invariant, its start, turn and end. Assumes nothing.
use mathlib.Core.Path.{◌≡◌, refl, sym, ap, ◌∙◌}
use mathlib.Core.List.{List, [], ◌++◌, append_assoc, append-nil}
use Prim.Native.Nat.{ℕ, ◌+◌, ◌≤◌, ◌<◌}
use native.Mathlib.Omega.{arith}
use native.Mathlib.Numerals.{add-one}
use lib.ListN.{length, get_or, drop, length-append, drop_of_length-le}
use lib.Seq.{drop-cons}
use Rattle.layout.specs.Cells.{Cell}
use Rattle.layout.specs.Listing.{Script, run_put}
use Rattle.listing.specs.Lines.{Written}
use Rattle.listing.proofs.Wrote.{nothing, and_then, same_bytes}

run_step : (ss : List Script) (cs : List Cell) (i : ℕ) (s : Script) (c : Cell) → i < length ss → i < length cs
    → run_put (drop i ss) (drop i cs) ≡ (get_or ss i s).put (get_or cs i c) ++ run_put (drop (i + 1) ss) (drop (i + 1) cs)
unfolding run_put
run_step ss cs i s c h k = rw (add-one i, drop-cons ss i s h, drop-cons cs i c k)

run_end : (ss : List Script) (cs : List Cell) (i : ℕ) → length ss ≤ i → run_put (drop i ss) (drop i cs) ≡ []
unfolding run_put
run_end ss cs i h = rw (drop_of_length-le ss h)

-- before child i: so_far is written, and what is left of the children lists the rest of the whole
pub record Going (ss : List Script) (cs : List Cell) (out₀ : List ℕ) (pos i : ℕ) (out : List ℕ) (p : ℕ) : Type 0 where
  pub so_far : List ℕ
  pub wrote : Written out₀ pos so_far out p
  pub whole : so_far ++ run_put (drop i ss) (drop i cs) ≡ run_put ss cs

pub going_start : (ss : List Script) (cs : List Cell) (out : List ℕ) (pos : ℕ) → Going ss cs out pos 0 out pos
going_start ss cs out pos = record { so_far = []; wrote = nothing out pos; whole = refl }

module _ {ss : List Script} {cs : List Cell} {out₀ : List ℕ} {pos i : ℕ} {out : List ℕ} {p : ℕ} (g : Going ss cs out₀ pos i out p) where
  pub going_end : length ss ≤ i → Written out₀ pos (run_put ss cs) out p
  going_end h = same_bytes (sym (append-nil g.so_far) ∙ rw (run_end ss cs i h) at g.whole) g.wrote

  -- v is what child i lists
  module _ (s : Script) (c : Cell) (h : i < length ss) (k : i < length cs) (v : List ℕ) (e : (get_or ss i s).put (get_or cs i c) ≡ v) where
    split : g.so_far ++ (v ++ run_put (drop (i + 1) ss) (drop (i + 1) cs)) ≡ run_put ss cs
    split = rw (run_step ss cs i s c h k, e) at g.whole

    pub going-room : pos + length (run_put ss cs) ≤ 65536 → p + length v ≤ 65536
    going-room l =
        let n = simp length-append at (ap length split) in
        omega (arith, g.wrote.past)

    pub going_next : {out' : List ℕ} {p' : ℕ} → Written out p v out' p' → Going ss cs out₀ pos (i + 1) out' p'
    going_next f = record { so_far = g.so_far ++ v; wrote = and_then g.wrote f; whole = append_assoc g.so_far v _ ∙ split }
