-- The picture as a whole: its lines one behind the other. Assumes nothing.
use mathlib.Core.Path.{◌≡◌, refl, ap, ◌∙◌}
use mathlib.Core.Option.{Option}
use mathlib.Core.List.{List, ◌++◌}
use Prim.Native.Nat.{ℕ, zero, suc, ◌+◌, ◌-◌, ◌≤◌, ◌<◌}
use native.Mathlib.Nat.{zero-add, suc-add}
use native.Mathlib.Numerals.{add-one}
use native.Mathlib.Omega.{arith}
use lib.ListN.{length, length-append}
use Rattle.words.specs.Bytes.{zeros}
use Rattle.chart.specs.Labels.{drawn}
use Rattle.lettering.specs.Text.{Puts}
use Rattle.lettering.specs.Held.{Spilt, Walked}
use Rattle.lettering.proofs.Putting.{puts_none, puts_then, puts-as, at-used}
use Rattle.picture.specs.Picture.{line_of, under, behind, lines_to, line_count, picture, shown}
use Rattle.picture.proofs.Drawing.{line-most, under-most, behind-most}

-- ---- lines one behind the other

module _ (row m : List ℕ) (f : Option ℕ) where
  lines_more : (u : ℕ) → lines_to row m f u ++ (line_of row m u ++ under f u) ≡ lines_to row m f (u + 1)
  unfolding lines_to
  lines_more u = rw (add-one u)

  grows : (k u : ℕ) → length (lines_to row m f u) ≤ length (lines_to row m f (k + u))
  unfolding lines_to
  grows zero u = rw (zero-add u) (omega arith)
  grows (suc k) u = rw (suc-add k u, length-append) (omega (arith, grows k u))

  lines-grow : (u n : ℕ) → u ≤ n → length (lines_to row m f u) ≤ length (lines_to row m f n)
  lines-grow u n h = let e : n - u + u ≡ n = omega arith in rw e at (grows (n - u) u)

  lines-within : (u : ℕ) → u ≤ line_count row → length (lines_to row m f u) ≤ length (picture row m f)
  unfolding picture
  lines-within u h = omega (arith, lines-grow u (line_count row) h, length-append (lines_to row m f (line_count row)) (behind f (line_count row)))

-- the first u lines, where the whole picture is held
pub record Drawn (row m : List ℕ) (f : Option ℕ) (out₀ : List ℕ) (u used : ℕ) (out : List ℕ) : Type 0 where
  pub room : length out₀ ≡ 262144
  pub passed : u ≤ line_count row
  pub within : used ≤ 229454
  pub long : length out ≡ length out₀
  pub held : length (picture row m f) ≤ 229000 → Puts out₀ 0 (lines_to row m f u) used out

module _ {row m : List ℕ} {f : Option ℕ} where
  pub drawn-start : {out : List ℕ} → length out ≡ 262144 → Drawn row m f out 0 0 out
  unfolding lines_to
  drawn-start {out} e = record { room = e; passed = omega arith; within = omega arith; long = refl; held = λ l. puts_none out 0 }

  pub drawn-next : {out₀ out out₁ out₂ : List ℕ} {u used at k r : ℕ} → Drawn row m f out₀ u used out → u < line_count row → Spilt used at
      → Puts out at (line_of row m u) k out₁ → length out₁ ≡ length out → Puts out₁ k (under f u) r out₂ → length out₂ ≡ length out₁
      → Drawn row m f out₀ (u + 1) r out₂
  drawn-next {u = u} {used = used} d h S p e q g =
      record {
        room = d.room;
        passed = omega arith;
        within = omega (arith, p.next, q.next, S.few, line-most row m u (omega arith), under-most f u);
        long = g ∙ e ∙ d.long;
        held = λ l.
            let A = d.held l in
            let few : used ≤ 229000 = omega (arith, A.next, lines-within row m f u d.passed) in
            puts-as (lines_more row m f u) (puts_then A (puts_then (at-used S few p) q));
      }

  -- what is held of a picture that is held whole is few enough to wait
  pub drawn-few : {out₀ out : List ℕ} {u used : ℕ} → Drawn row m f out₀ u used out → length (picture row m f) ≤ 229000 → used ≤ 229000
  drawn-few {u = u} d l = let A = d.held l in omega (arith, A.next, lines-within row m f u d.passed)

  pub drawn-end : {out₀ out out' : List ℕ} {u used r : ℕ} → Drawn row m f out₀ u used out → line_count row ≤ u
      → Puts out used (behind f (line_count row)) r out' → Walked (picture row m f) out₀ 0 r out'
  unfolding picture
  drawn-end {u = u} d h q =
      let n : u ≡ line_count row = omega (arith, d.passed) in
      record {
        within = omega (arith, d.room, d.within, q.next, behind-most f (line_count row));
        held = λ l. puts_then (puts-as (ap (lines_to row m f) n) (d.held (omega arith))) q;
      }

-- a chart drawn upon zeros
pub drawn-zeros : (s row : List ℕ) {m m' : List ℕ} (f : Option ℕ) → m ≡ zeros 36864 → m' ≡ drawn s row m
    → picture row m' f ≡ shown s row f
drawn-zeros s row f z e = ap (λ (x : List ℕ). picture row x f) (e ∙ ap (drawn s row) z)
