-- The reading as a loop over the children meets it: the slot of child i, and what is left. Assumes nothing.
use mathlib.Core.Path.{◌≡◌, sym}
use mathlib.Core.List.{List, [], ◌∷◌}
use Prim.Native.Nat.{ℕ, suc, ◌+◌, ◌*◌, ◌/◌, ◌%◌, ◌≤◌, ◌<◌, ◌^◌}
use native.Mathlib.Nat.{pow-succ', mul-le-mul_right, mul_comm, div-div-eq-div-mul}
use native.Mathlib.Omega.{arith}
use native.Mathlib.Decide.{dec_le}
use lib.ListN.{length, get_or, take, drop, length-drop}
use lib.Seq.{drop-cons, drop-drop, drop-length}
use Rattle.layout.specs.Faults.{slot, byte, fault, got, ◌>>=◌, cut_at}
use Rattle.layout.specs.Tiles.{Range}
use Rattle.layout.specs.Cells.{Cell}
use Rattle.layout.specs.Layout.{Kid, kid_get, reads}
use Rattle.layout.proofs.Faults.{assert-yes}

-- no child: what stands past the end of a list of children
abbrev pub nobody : Kid
nobody = record { Fits = λ c. ⊥; slot = λ at c. []; tail = λ c. []; Lays = λ at d rs c s rs'. ⊥; get = λ j at d rs s. fault slot }

abbrev pub kid_at : List Kid → ℕ → Kid
kid_at ks i = get_or ks i nobody

-- one step of the reading, at child i, whose slot is the container's byte j
pub reads-step : (w at : ℕ) (d : List ℕ) (ks : List Kid) (i j m : ℕ) (s : List ℕ) (rs : List Range) → i < length ks → length s ≡ length ks * w
    → reads w at d (drop i ks) j (m / 2 ^ i) (drop (i * w) s) rs
    ≡ (kid_get (kid_at ks i) (m / 2 ^ i % 2) j at d rs (take w (drop (i * w) s))
    >>= λ (p : Cell × List Range). reads w at d (drop (suc i) ks) (j + w) (m / 2 ^ suc i) (drop (suc i * w) s) p.1
    >>= λ (q : List Cell × List Range). got (p.0 ∷ q.0, q.1))
unfolding reads cut_at
reads-step w at d ks i j m s rs h n =
    let l : w ≤ length (drop (i * w) s) = rw (length-drop (i * w) s, n) (omega (arith, mul-le-mul_right {m = suc i} {n = length ks} w h)) in
    let e : m / 2 ^ suc i ≡ m / 2 ^ i / 2 = rw (pow-succ' 2 i, mul_comm 2 (2 ^ i)) (sym (div-div-eq-div-mul m (2 ^ i) 2)) in
    let o : suc i * w ≡ i * w + w = omega arith in
    rw (drop-cons ks i nobody h, assert-yes (byte j) (dec_le w (length (drop (i * w) s))) l, e, o, ← (drop-drop w (i * w) s))

-- the end of it
pub reads_end : (w at n j m : ℕ) (d : List ℕ) (ks : List Kid) (s : List ℕ) (rs : List Range) → length ks ≡ n → reads w at d (drop n ks) j m s rs ≡ got ([], rs)
unfolding reads
reads_end w at n j m d ks s rs h = rw (← h, drop-length ks)
