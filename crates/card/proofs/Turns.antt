-- Rows in turn: the text of those passed stands at the front, and the next one is accepted. Assumes nothing.
use Rattle.std.specs.Prelude.{Option, Some, None, Result, Ok, Err}
use mathlib.Core.Path.{◌≡◌, refl, sym, ap, ◌∙◌, subst}
use mathlib.Core.Option.{none}
use mathlib.Core.List.{List, [], ◌∷◌, ◌++◌, append_assoc, append-nil}
use Prim.Native.Nat.{ℕ, suc, ◌+◌, ◌-◌, ◌≤◌, ◌<◌}
use native.Mathlib.Nat.{add-zero, zero-add}
use native.Mathlib.Numerals.{add-one}
use native.Mathlib.Omega.{arith}
use lib.ListN.{length, take, drop, get_or, length-append, take-append-drop}
use lib.Seq.{take-suc, take_all, length-take-le}
use Rattle.words.specs.Bytes.{Bytes, part}
use Rattle.schema.specs.Reading.{judged}
use Rattle.schema.specs.declared.Judged.TheVariants.{Accepted}
use Rattle.answers.specs.declared.Refusal.{Refusal}
use Rattle.answers.specs.Meaning.{number_of}
use Rattle.answers.proofs.Unique.{number-means}
use Rattle.batch.specs.Entries.{done, or_none, rows_of, row_of, Checking, check_of}
use Rattle.batch.specs.Meaning.{check_means}
use Rattle.batch.specs.Frames.{first}
use Rattle.batch.specs.Places.{Stands, FrameEnd, Passed, RowAt}
use Rattle.batch.specs.declared.Fault.{Fault}
use Rattle.batch.specs.declared.Fault.TheVariants.{Whole, Row}
use Rattle.batch.proofs.Passing.{passed-end, passed-over, row_next}
use Rattle.batch.proofs.Batches.{batches}
use Rattle.lettering.specs.Text.{Puts}
use Rattle.lettering.specs.Held.{Spilt, Walked}
use Rattle.lettering.proofs.Putting.{puts_none, puts_then, puts-as, at-used}
use Rattle.leaves.specs.Whole.{card_of}
use Rattle.card.specs.Output.{refusal, Ready}
use Rattle.card.specs.Rows.{heading, rows_text, by_checking, batch_text}
use Rattle.card.proofs.Checked.{accepted-opens}

-- ---- the next row

-- the frame at a place is row n's, which is accepted
pub record Next (s b : List ℕ) (at n end : ℕ) : Type 0 where
  pub stands : Stands b at end
  pub row : RowAt b n (at + 4) end
  pub ready : Ready s (part b (at + 4) (end - (at + 4)))

pub next_row : (s b : List ℕ) {at n end : ℕ} → Bytes b → check_of s b ≡ done → Passed b at n → Stands b at end → Next s b at n end
next_row s b {n = n} hb e p z =
    let v = ((batches s).accepted b).0 e in
    let r = row_next p z v.is in
    let few : n < length (rows_of b) = rw r.is r.counts in
    let is = accepted-opens s (row_of b n) (sym ((batches s).each b n hb e few).checks) in
    record { stands = z; row = r; ready = subst (Ready s) (sym r.row) is }

-- an accepted batch has ended where no frame stands
pub at_end : (s b : List ℕ) {at n : ℕ} → check_of s b ≡ done → Passed b at n → (r : Option ℕ) → FrameEnd b at r → ((m : ℕ) → r ≡ Some m → ⊥)
    → at ≡ length b
at_end s b {at} e p r f none_is = passed-over p (((batches s).accepted b).0 e).is (go r f none_is)
  where
    go : (r : Option ℕ) → FrameEnd b at r → ((m : ℕ) → r ≡ Some m → ⊥) → first (drop at b) ≡ none
    go None f none_is = f
    go (Some m) f none_is = absurd (none_is m refl)

-- ---- texts one behind the other

module _ (s : List ℕ) where
  rows_append : (k : ℕ) (us vs : List (List ℕ)) → rows_text s k (us ++ vs) ≡ rows_text s k us ++ rows_text s (k + length us) vs
  unfolding rows_text
  rows_append k [] vs = rw (add-zero k)
  rows_append k (u ∷ us) vs =
      let e : suc k + length us ≡ k + suc (length us) = omega arith in
      rw (rows_append (suc k) us vs, e, append_assoc, append_assoc)

  rows-one : (n : ℕ) (rows : List (List ℕ)) → n < length rows
      → rows_text s 0 (take (n + 1) rows) ≡ rows_text s 0 (take n rows) ++ (heading n ++ card_of s (get_or rows n []))
  unfolding rows_text
  rows-one n rows l =
      let e : 0 + length (take n rows) ≡ n = zero-add _ ∙ length-take-le n rows (omega arith) in
      rw (add-one, take-suc rows n [] l, rows_append, e, append-nil)

  rows-front : (n : ℕ) (rows : List (List ℕ)) → length (rows_text s 0 (take n rows)) ≤ length (rows_text s 0 rows)
  rows-front n rows =
      let e = ap (λ (us : List (List ℕ)). length (rows_text s 0 us)) (sym (take-append-drop n rows)) in
      omega (arith, rw (rows_append, length-append) at e)

-- ---- what stands of the rows passed

-- the text of the first n rows, where the whole text is held
pub record Written (s b out₀ : List ℕ) (n used : ℕ) (out : List ℕ) : Type 0 where
  pub room : length out₀ ≡ 262144
  pub within : used ≤ length out₀
  pub long : length out ≡ length out₀
  pub held : length (rows_text s 0 (rows_of b)) ≤ 229000 → Puts out₀ 0 (rows_text s 0 (take n (rows_of b))) used out

pub written_start : (s b : List ℕ) {out : List ℕ} → length out ≡ 262144 → Written s b out 0 0 out
unfolding rows_text
written_start s b {out} e = record { room = e; within = omega arith; long = refl; held = λ l. puts_none out 0 }

pub written_next : {s b out₀ out out₁ out₂ : List ℕ} {at n end used next m r : ℕ} → Written s b out₀ n used out → Next s b at n end
    → Spilt used next → Puts out next (heading n) m out₁ → length out₁ ≡ length out
    → Walked (card_of s (part b (at + 4) (end - (at + 4)))) out₁ m r out₂ → length out₂ ≡ length out₁
    → Written s b out₀ (n + 1) r out₂
written_next {s} {b} {out₁ = out₁} {out₂ = out₂} {n = n} {used = used} {m = m} {r = r} w x S h e W g =
    let row = row_of b n in
    let before = rows_text s 0 (take n (rows_of b)) in
    let few : n < length (rows_of b) = rw x.row.is x.row.counts in
    let all = rows-one s n (rows_of b) few in
    let long : length (rows_text s 0 (take (n + 1) (rows_of b))) ≡ length before + (length (heading n) + length (card_of s row)) =
    ap length all ∙ rw (length-append, length-append) in
    record {
      room = w.room;
      within = omega (arith, W.within, w.long);
      long = g ∙ e ∙ w.long;
      held = λ l.
          let A = w.held l in
          let most = rows-front s (n + 1) (rows_of b) in
          let u : used ≤ 229000 = omega (arith, A.next) in
          let H = at-used S u h in
          let c = subst (λ (t : List ℕ). Walked (card_of s t) out₁ m r out₂) x.row.row W in
          puts-as (sym all) (puts_then A (puts_then H (c.held (omega (arith, A.next, H.next)))));
    }

-- what is held of rows that are held whole is few enough to wait, and so is the next row's text behind its heading
pub written-few : {s b out₀ out : List ℕ} {at n end used : ℕ} → Written s b out₀ n used out → Next s b at n end
    → length (rows_text s 0 (rows_of b)) ≤ 229000 → used ≤ 229000
written-few {s} {b} {n = n} w x l =
    let few : n < length (rows_of b) = rw x.row.is x.row.counts in
    let long : length (rows_text s 0 (take (n + 1) (rows_of b)))
    ≡ length (rows_text s 0 (take n (rows_of b))) + (length (heading n) + length (card_of s (row_of b n))) =
    ap length (rows-one s n (rows_of b) few) ∙ rw (length-append, length-append) in
    let most = rows-front s (n + 1) (rows_of b) in
    let A = w.held l in
    omega (arith, A.next)

pub written-fits : {s b out₀ out out₁ : List ℕ} {at n end used next m : ℕ} → Written s b out₀ n used out → Next s b at n end
    → Spilt used next → Puts out next (heading n) m out₁ → length (rows_text s 0 (rows_of b)) ≤ 229000
    → m + length (card_of s (part b (at + 4) (end - (at + 4)))) ≤ 229000
written-fits {s} {b} {at = at} {n = n} {end = end} {used = used} w x S h l =
    let few : n < length (rows_of b) = rw x.row.is x.row.counts in
    let long : length (rows_text s 0 (take (n + 1) (rows_of b)))
    ≡ length (rows_text s 0 (take n (rows_of b))) + (length (heading n) + length (card_of s (row_of b n))) =
    ap length (rows-one s n (rows_of b) few) ∙ rw (length-append, length-append) in
    let most = rows-front s (n + 1) (rows_of b) in
    let A = w.held l in
    let u : used ≤ 229000 = omega (arith, A.next) in
    let H = at-used S u h in
    let same : length (card_of s (part b (at + 4) (end - (at + 4)))) ≡ length (card_of s (row_of b n)) =
    ap (λ (t : List ℕ). length (card_of s t)) x.row.row in
    omega (arith, A.next, H.next, same)

pub written-end : {s b out₀ out : List ℕ} {at n used : ℕ} → Written s b out₀ n used out → Passed b at n → at ≡ length b
    → Walked (rows_text s 0 (rows_of b)) out₀ 0 used out
written-end {s} {b} {n = n} w p e =
    let rows : rows_of b ≡ p.rows = ap or_none (passed-end p e) in
    let all : take n (rows_of b) ≡ rows_of b = take_all n (rows_of b) (rw rows (omega (arith, p.counts))) in
    record { within = w.within; held = λ l. puts-as (ap (rows_text s 0) all) (w.held (omega arith)) }

-- ---- by what check answers

-- an accepted batch has an accepted schema
pub batch-judged : (s b : List ℕ) → check_of s b ≡ done → judged s ≡ Accepted
batch-judged s b e = (((batches s).accepted b).0 e).schema

module _ (s b : List ℕ) (c : Result (Unit {0}) Fault) (m : check_means c ≡ check_of s b) where
  pub batch-accepted : c ≡ Ok tt → check_of s b ≡ done
  batch-accepted e = sym m ∙ ap check_means e

  by_answer : (k : Result (Unit {0}) Fault) → c ≡ k → by_checking (check_means k) (rows_text s 0 (rows_of b)) ≡ batch_text s b
  unfolding batch_text
  by_answer k e = ap (λ (v : Checking). by_checking v (rows_text s 0 (rows_of b))) (ap check_means (sym e) ∙ m)

  pub batch-done : c ≡ Ok tt → rows_text s 0 (rows_of b) ≡ batch_text s b
  batch-done e = by_answer (Ok tt) e

  pub batch-refused : (f : Refusal) (n : ℕ) → c ≡ Err (Whole f) → n ≡ number_of f → refusal n ≡ batch_text s b
  batch-refused f n e q = ap refusal (q ∙ sym (number-means f)) ∙ by_answer (Err (Whole f)) e

  pub row-refused : (k : ℕ) (f : Refusal) (n : ℕ) → c ≡ Err (Row k f) → n ≡ number_of f → refusal n ≡ batch_text s b
  row-refused k f n e q = ap refusal (q ∙ sym (number-means f)) ∙ by_answer (Err (Row k f)) e
