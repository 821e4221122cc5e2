-- Frames passed one after the other: where they lead, where they end, and what was passed. Assumes nothing.
use Rattle.std.specs.Prelude.{Result, Ok, Err, Some, None}
use Rattle.std.specs.Prelude as P
use mathlib.Core.Path.{◌≡◌, refl, sym, ap, ◌∙◌, subst}
use mathlib.Core.Option.{Option, none, some, none-ne-some, some-injective}
use mathlib.Core.List.{List, [], ◌∷◌, ◌++◌, append_assoc, append-nil}
use mathlib.Core.Bool.{Bool, true, false}
use Rattle.std.proofs.Common.{◌⊎◌, inl, inr}
use Prim.Native.Nat.{ℕ, suc, ◌+◌, ◌-◌, ◌*◌, ◌≤◌, ◌<◌}
use native.Mathlib.Omega.{arith}
use lib.ListN.{length, take, drop, get_or, length-append, length-drop}
use lib.Seq.{drop-length, take_at, get_or_at}
use lib.Dec.{eqb}
use borrow.Author.Tests.{eqb-true, eqb-false}
use Rattle.words.specs.Bytes.{part}
use Rattle.words.proofs.Parts.{length_part, lt-or-le}
use Rattle.layout.specs.Refusals as N
use Rattle.layout.specs.Entries.{takes, refused_with}
use Rattle.answers.specs.declared.Refusal.{Refusal}
use Rattle.answers.specs.declared.Refusal.TheVariants as F
use Rattle.answers.specs.declared.Span.{Span}
use Rattle.answers.specs.Meaning.{refusal_means, length_of}
use Rattle.answers.proofs.Unique.{refusal-one}
use Rattle.batch.specs.Frames.{frame, framing, first, framed}
use Rattle.batch.specs.Entries.{or_none, rows_of, counted, count_of}
use Rattle.batch.specs.Places.{Stands, FrameEnd, joined, Passed, no_frame, RowAt, Finds, is_broken, is_past, is_at}
use Rattle.batch.proofs.Framing.{length-frame, framing-append, framing-one, framed-nil, framed-next, framed-broken, joined-joined, joined-nil}

-- a frame has at least 4 bytes
framing-long : (rows : List (List ℕ)) → 4 * length rows ≤ length (framing rows)
unfolding framing
framing-long [] = omega arith
framing-long (row ∷ rows) =
    let e : length (frame row ++ framing rows) ≡ 4 + length row + length (framing rows) =
    length-append (frame row) (framing rows) ∙ ap (λ (n : ℕ). n + length (framing rows)) (length-frame row) in
    omega (arith, framing-long rows)

-- all rows of a batch begin with those passed
record Begins (us rows : List (List ℕ)) : Type 0 where
  pub others : List (List ℕ)
  pub is : rows ≡ us ++ others

begins : (us rows : List (List ℕ)) (m : Option (List (List ℕ))) → some rows ≡ joined us m → Begins us rows
begins us rows none e = absurd (none-ne-some _ (sym e))
begins us rows (some vs) e = record { others = vs; is = some-injective _ _ e }

pub passed_start : (b : List ℕ) → Passed b 0 0
unfolding framing
passed_start b = record { rows = []; counts = refl; size = refl; high = omega arith; left = sym (joined-nil (framed b)) }

pub start-rows : (b : List ℕ) → (passed_start b).rows ≡ []
unfolding passed_start
start-rows b = refl

-- a frame that has an end stands
pub stands_of : (b : List ℕ) (at : ℕ) {end : ℕ} {r : P.Option ℕ} → r ≡ Some end → FrameEnd b at r → Stands b at end
stands_of b at e f = subst (FrameEnd b at) e f

-- and where there is none the bytes end inside it
pub nowhere : (b : List ℕ) (at : ℕ) {r : P.Option ℕ} → r ≡ None → FrameEnd b at r → first (drop at b) ≡ none
nowhere b at e f = subst (FrameEnd b at) e f

module _ {b : List ℕ} {at n : ℕ} (p : Passed b at n) where
  pub passed-few : 4 * n ≤ at
  passed-few = omega (arith, framing-long p.rows, p.counts, p.size)

  -- the number of the next row fits where the bytes do
  pub passed-fits : {end : ℕ} → Stands b at end → n + 1 ≤ length b
  passed-fits s = omega (arith, passed-few, s.low, s.high)

  pub passed-next : {end : ℕ} → Stands b at end → Passed b end (n + 1)
  passed-next {end} s =
      let row = part b (at + 4) (end - (at + 4)) in
      let wide : length row ≡ end - (at + 4) = length_part b (at + 4) (end - (at + 4)) (omega (arith, s.low, s.high)) in
      let long : length (frame row) ≡ 4 + length row = length-frame row in
      let sum : length (framing (p.rows ++ (row ∷ []))) ≡ length (framing p.rows) + length (framing (row ∷ [])) =
      ap length (framing-append p.rows (row ∷ [])) ∙ length-append (framing p.rows) (framing (row ∷ [])) in
      record {
        rows = p.rows ++ (row ∷ []);
        counts = length-append p.rows (row ∷ []) ∙ ap (λ (m : ℕ). m + 1) p.counts;
        size = sum ∙ rw (framing-one row) (omega (arith, p.size, s.low));
        high = s.high;
        left =
            p.left
            ∙ ap (joined p.rows) (framed-next (drop at b) row (drop end b) s.row)
            ∙ joined-joined p.rows (row ∷ []) (framed (drop end b));
      }

  pub next-rows : {end : ℕ} (s : Stands b at end) → (passed-next s).rows ≡ p.rows ++ (part b (at + 4) (end - (at + 4)) ∷ [])
  unfolding passed-next
  next-rows s = refl

  -- the count by another name
  pub passed_to : {k end : ℕ} → n ≤ k → k ≤ n → Stands b at end → Passed b end (k + 1)
  passed_to {k} {end} l h s = let z : n ≡ k = omega arith in subst (λ (m : ℕ). Passed b end (m + 1)) z (passed-next s)

  pub passed-end : at ≡ length b → framed b ≡ some p.rows
  passed-end e =
      let nothing : framed (drop at b) ≡ some [] = ap framed (ap (λ (m : ℕ). drop m b) e ∙ drop-length b) ∙ framed-nil in
      p.left ∙ ap (joined p.rows) nothing ∙ ap some (append-nil p.rows)

  pub passed-broken : at < length b → first (drop at b) ≡ none → framed b ≡ none
  passed-broken l e = p.left ∙ ap (joined p.rows) (framed-broken (drop at b) (rw length-drop (omega arith)) e)

  -- a batch that can be taken apart has ended where no frame ends
  pub passed-over : {rows : List (List ℕ)} → framed b ≡ some rows → first (drop at b) ≡ none → at ≡ length b
  passed-over e f = go (lt-or-le at (length b))
    where
      go : (at < length b) ⊎ (length b ≤ at) → at ≡ length b
      go (inl l) = absurd (none-ne-some _ (sym (passed-broken l f) ∙ e))
      go (inr l) = omega (arith, p.high)

  -- ---- counting

  pub count-end : at ≡ length b → takes n ≡ count_of b
  unfolding count_of
  count-end e = ap takes (sym p.counts) ∙ sym (ap counted (passed-end e))

  pub count-broken : at < length b → first (drop at b) ≡ none → refused_with (N.numbered 10) 0 ≡ count_of b
  unfolding count_of
  count-broken l e = sym (ap counted (passed-broken l e))

  -- ---- finding row k

  -- no frame ends behind these, of which there are at most k
  pub find_none : {k : ℕ} {r : Refusal} → n ≤ k → first (drop at b) ≡ none → r ≡ no_frame b at → Finds b k (Err r)
  find_none {k} l e z = rw z (go (eqb at (length b)) refl)
    where
      go : (v : Bool) → eqb at (length b) ≡ v → Finds b k (Err (no_frame b at))
      go true q = rw q (is_past (record { rows = p.rows; is = passed-end (eqb-true at (length b) q); few = omega (arith, p.counts) }))
      go false q = let m = eqb-false at (length b) q in rw q (is_broken (passed-broken (omega (arith, m, p.high)) e))

  -- the row that comes next is row n
  pub row_next : {end : ℕ} {rows : List (List ℕ)} → Stands b at end → framed b ≡ some rows → RowAt b n (at + 4) end
  unfolding passed-next
  row_next {end} {rows} s e =
      let row = part b (at + 4) (end - (at + 4)) in
      let q = passed-next s in
      let g : Begins (p.rows ++ (row ∷ [])) rows = begins (p.rows ++ (row ∷ [])) rows (framed (drop end b)) (sym e ∙ q.left) in
      let all : rows ≡ p.rows ++ (row ∷ g.others) = g.is ∙ append_assoc p.rows (row ∷ []) g.others in
      let here : rows_of b ≡ p.rows ++ (row ∷ g.others) = ap or_none e ∙ all in
      let few : length rows ≡ length p.rows + suc (length g.others) = ap length all ∙ length-append p.rows (row ∷ g.others) in
      let front : take n (rows_of b) ≡ p.rows = ap (take n) here ∙ take_at p.rows (row ∷ g.others) n p.counts in
      record {
        rows = rows;
        is = e;
        counts = omega (arith, p.counts);
        begins = ap (λ (m : ℕ). m + 4) (sym p.size) ∙ ap (λ (us : List (List ℕ)). length (framing us) + 4) (sym front);
        low = s.low;
        high = s.high;
        row = sym (ap (λ (us : List (List ℕ)). get_or us n []) here ∙ get_or_at p.rows row g.others [] n p.counts);
      }

  -- and row k where as many are passed
  pub find-row : {k end : ℕ} {rows : List (List ℕ)} → n ≤ k → k ≤ n → Stands b at end → framed b ≡ some rows → RowAt b k (at + 4) end
  find-row {k} {end} l h s e = let z : n ≡ k = omega arith in subst (λ (m : ℕ). RowAt b m (at + 4) end) z (row_next s e)

-- where row k is found it stands
pub found_at : {b : List ℕ} {k : ℕ} {f : Result Span Refusal} {x : Span} → f ≡ Ok x → Finds b k f → RowAt b k x.start x.end
found_at e (is_broken h) = let z : ◌≡◌ {A = ℕ} 0 1 = cc in absurd (omega arith)
found_at e (is_past h) = let z : ◌≡◌ {A = ℕ} 0 1 = cc in absurd (omega arith)
found_at {b} {k} {x = x} e (is_at {s = y} h) = let p : y ≡ x = cc in subst (λ (s : Span). RowAt b k s.start s.end) p h

-- what a count says of the rows
pub record Whole (b : List ℕ) (n : ℕ) : Type 0 where
  pub rows : List (List ℕ)
  pub is : framed b ≡ some rows
  pub counts : length rows ≡ n

pub count-whole : {b : List ℕ} (n : ℕ) → takes n ≡ count_of b → Whole b n
unfolding count_of
count-whole {b} n e = go (framed b) refl
  where
    go : (m : Option (List (List ℕ))) → framed b ≡ m → Whole b n
    go none q =
        let z : takes n ≡ refused_with (N.numbered 10) 0 = e ∙ ap counted q in
        let o : ◌≡◌ {A = ℕ} 0 1 = cc in absurd (omega arith)
    go (some rows) q =
        let z : takes n ≡ takes (length rows) = e ∙ ap counted q in
        record { rows = rows; is = q; counts = cc }

-- a count that is refused says that the batch can't be taken apart, with 10
pub record Broken (b : List ℕ) (r : Refusal) : Type 0 where
  pub is : framed b ≡ none
  pub with : r ≡ F.Batch

pub count_none : {b : List ℕ} (r : Refusal) → refused_with (refusal_means r) (length_of r) ≡ count_of b → Broken b r
unfolding count_of
count_none {b} r e = go (framed b) refl
  where
    go : (m : Option (List (List ℕ))) → framed b ≡ m → Broken b r
    go none q =
        let z : refused_with (refusal_means r) (length_of r) ≡ refused_with (N.numbered 10) 0 = e ∙ ap counted q in
        let n : refusal_means r ≡ refusal_means F.Batch = cc in
        let l : length_of r ≡ length_of F.Batch = cc in
        record { is = q; with = refusal-one r F.Batch n l }
    go (some rows) q =
        let z : refused_with (refusal_means r) (length_of r) ≡ takes (length rows) = e ∙ ap counted q in
        let o : ◌≡◌ {A = ℕ} 0 1 = cc in absurd (omega arith)

pub find-broken : {b : List ℕ} (k : ℕ) (r : Refusal) → refused_with (refusal_means r) (length_of r) ≡ count_of b → Finds b k (Err r)
find-broken k r e = let n = count_none r e in rw n.with (is_broken n.is)
