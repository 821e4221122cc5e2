-- Writing one thing after another. Assumes nothing.
use mathlib.Core.Path.{◌≡◌, refl, ap, ◌∙◌}
use mathlib.Core.List.{List, [], ◌++◌}
use Prim.Native.Nat.{ℕ, ◌+◌, ◌≤◌, ◌<◌}
use native.Mathlib.Omega.{arith}
use lib.ListN.{length, length-append}
use lib.Seq.{sets, length-sets}
use borrow.Author.Tests.{le-leb, lt-leb}
use Rattle.words.specs.Bytes.{le, num}
use Rattle.words.proofs.Numbers.{length-le}
use Rattle.words.proofs.Runs.{sets_then}
use Rattle.schema.specs.Marks.{types, mark_at}
use Rattle.schema.proofs.Table.{each, mark-two}
use Rattle.layout.proofs.Reader.{length-zero}
use Rattle.table.specs.Words.{place_in, mark_in, Lined}
use Rattle.listing.specs.Lines.{Written, Answered}

-- without room nothing is written
pub wrote_none : (out : List ℕ) (pos : ℕ) (v : List ℕ) (n r : ℕ) → length v ≡ n → r ≡ pos + n → length out < r → Written out pos v out r
wrote_none out pos v n r e q h = record { past = omega arith; kept = refl; bytes = λ l. absurd (omega arith) }

pub wrote-run : (out : List ℕ) (pos : ℕ) (v out' : List ℕ) (n r : ℕ) → length v ≡ n → r ≡ pos + n → out' ≡ sets out pos v
    → Written out pos v out' r
wrote-run out pos v out' n r e q s = record { past = omega arith; kept = rw s (length-sets out pos v); bytes = λ _. s }

pub nothing : (out : List ℕ) (pos : ℕ) → Written out pos [] out pos
nothing out pos = record { past = omega arith; kept = refl; bytes = λ _. refl }

module _ {out : List ℕ} {pos : ℕ} {v out' : List ℕ} {r : ℕ} where
  -- v, and then u
  pub and_then : {u out'' : List ℕ} {q : ℕ} → Written out pos v out' r → Written out' r u out'' q → Written out pos (v ++ u) out'' q
  and_then {u} f g = record {
    past = rw length-append (omega (arith, f.past, g.past));
    kept = g.kept ∙ f.kept;
    bytes = λ l.
        let n : pos + (length v + length u) ≤ length out = rw length-append at l in
        g.bytes (omega (arith, f.past, f.kept)) ∙ rw (f.bytes (omega arith)) (sets_then out pos r v u f.past);
  }

  -- where branches have met
  pub met : {x : List ℕ} {y : ℕ} → Written out pos v out' r → x ≡ out' → y ≡ r → Written out pos v x y
  met f ex ey = rw (ex, ey) f

  -- the same bytes under another name
  pub same_bytes : {u : List ℕ} → v ≡ u → Written out pos v out' r → Written out pos u out' r
  same_bytes e f = record { past = f.past ∙ rw e; kept = f.kept; bytes = λ l. f.bytes (rw e l) ∙ rw e }

-- ---- the length first, with no byte lent, and then the bytes where they fit

pub answered-short : (out v w : List ℕ) (r : ℕ) → Written [] 0 v w r → length (w ++ out) < r → Answered out v (w ++ out) r
answered-short out v w r f h =
    let nil : w ≡ [] = length-zero w f.kept in
    let h' : length out < r = rw nil at h in
    let short : length out < length v = omega (arith, f.past) in
    record { need = omega (arith, f.past); bytes = rw (nil, lt-leb (length v) (length out) short) }

pub answered-whole : (out v w out' : List ℕ) (n r : ℕ) → Written [] 0 v w n → n ≤ length (w ++ out) → Written (w ++ out) 0 v out' r
    → Answered out v out' r
answered-whole out v w out' n r f h g =
    let nil : w ≡ [] = length-zero w f.kept in
    let h' : n ≤ length out = rw nil at h in
    let fits : length v ≤ length out = omega (arith, f.past) in
    let g' : Written out 0 v out' r = rw nil at g in
    record { need = omega (arith, g'.past); bytes = g'.bytes (omega arith) ∙ rw (le-leb (length v) (length out) fits) }

-- with room for what is at most m long
pub answered-roomy : (out v out' : List ℕ) (m r : ℕ) → length v ≤ m → m ≤ length out → Written out 0 v out' r → Answered out v out' r
answered-roomy out v out' m r l h f =
    record { need = omega (arith, f.past); bytes = f.bytes (omega arith) ∙ rw (le-leb (length v) (length out) (omega arith)) }

-- ---- marks

pub count-six : (k n : ℕ) → length (mark_at k ++ le 4 n) ≡ 6
count-six k n = rw (length-append, mark-two, length-le)

mark-le : (k : ℕ) → k < 12 → le 2 (num (mark_at k)) ≡ mark_at k
unfolding le num mark_at types
mark-le = each (λ k. le 2 (num (mark_at k)) ≡ mark_at k) 12 (refl, (refl, (refl, (refl, (refl, (refl, (refl, (refl, (refl, (refl, (refl, (refl, tt))))))))))))

-- an entry's mark in two bytes
pub entry-mark : {w m : ℕ} → Lined w → m ≡ mark_in w → le 2 m ≡ mark_at (place_in w)
entry-mark {w} h e = ap (le 2) (e ∙ h.mark) ∙ mark-le (place_in w) h.few
