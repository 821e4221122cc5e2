-- Rows checked in turn: where the walk over the frames stands, what the next row's check makes of it, and its end. Assumes nothing.
use mathlib.Core.Path.{◌≡◌, refl, sym, ap, ◌∙◌}
use mathlib.Core.Option.{Option, none, some}
use mathlib.Core.List.{List, []}
use Prim.Native.Nat.{ℕ, suc, ◌+◌, ◌-◌, ◌<◌}
use native.Mathlib.Numerals.{add-one}
use lib.ListN.{length, drop}
use lib.Seq.{drop-cons, drop-length}
use Rattle.words.specs.Bytes.{part}
use Rattle.schema.specs.Reading.{judged}
use Rattle.schema.specs.declared.Judged.TheVariants.{Accepted, Refused}
use Rattle.layout.specs.Refusals as N
use Rattle.layout.specs.Entries.{Verdict, verdict, check_of as row_check}
use Rattle.layout.specs.Entries as E
use Rattle.batch.specs.Frames.{framed}
use Rattle.batch.specs.Entries.{or_none, rows_of, row_of, row_bad, in_turn, check_rows, check_of}
use Rattle.batch.specs.Entries as B
use Rattle.batch.specs.Places.{Stands, Passed, RowAt, refused_in}
use Rattle.batch.proofs.Passing.{passed-end, row_next}
use Rattle.batch.proofs.Taken.{check-row-is, from-done, from-refused}

-- the rows before row n are in order: where the batch can be taken apart, the others decide
pub record InOrder (s b : List ℕ) (n : ℕ) : Type 0 where
  pub is : (rows : List (List ℕ)) → framed b ≡ some rows → check_of s b ≡ check_rows s n (drop n (rows_of b))

module _ (s b : List ℕ) where
  pub check-no : judged s ≡ Refused → B.refused (N.numbered 1) ≡ check_of s b
  unfolding check_of
  check-no a = rw a

  pub check-broken : judged s ≡ Accepted → framed b ≡ none → B.refused (N.numbered 10) ≡ check_of s b
  unfolding check_of
  check-broken a e = rw (a, e)

  pub order-start : judged s ≡ Accepted → InOrder s b 0
  unfolding check_of
  order-start a = record { is = λ rows e. rw (a, e) }

pub order-end : {s b : List ℕ} {at n : ℕ} → Passed b at n → at ≡ length b → InOrder s b n → B.done ≡ check_of s b
unfolding check_rows
order-end {s} {b} {n = n} p e c =
    let rows : rows_of b ≡ p.rows = ap or_none (passed-end p e) in
    let nothing : drop n (rows_of b) ≡ [] = ap (drop n) rows ∙ ap (λ (m : ℕ). drop m p.rows) (sym p.counts) ∙ drop-length p.rows in
    sym (c.is p.rows (passed-end p e) ∙ ap (check_rows s n) nothing)

module _ {s b : List ℕ} {n : ℕ} (a : judged s ≡ Accepted) (c : InOrder s b n) where
  module _ {start end : ℕ} (at : RowAt b n start end) where
    turn : check_of s b ≡ in_turn n (row_bad s (row_of b n)) (check_rows s (suc n) (drop (suc n) (rows_of b)))
    unfolding check_rows
    turn =
        let l : n < length (rows_of b) = rw at.is at.counts in
        c.is at.rows at.is ∙ ap (check_rows s n) (drop-cons (rows_of b) n [] l)

    verdict-is : (v : Verdict) → v ≡ row_check s (part b start (end - start)) → verdict (row_bad s (row_of b n)) ≡ v
    verdict-is v e = sym (check-row-is s (row_of b n) a) ∙ ap (row_check s) (sym at.row) ∙ sym e

  module _ {at end : ℕ} (p : Passed b at n) (f : Stands b at end) where
    pub order-next : E.done ≡ row_check s (part b (at + 4) (end - (at + 4))) → InOrder s b (n + 1)
    order-next e = rw add-one (record {
      is = λ rows q.
          let r = row_next p f q in
          let sound : row_bad s (row_of b n) ≡ none = from-done (row_bad s (row_of b n)) (verdict-is r E.done e) in
          turn r ∙ rw sound;
    })

    pub order-refused : (m : N.Refusal) → E.refused m ≡ row_check s (part b (at + 4) (end - (at + 4))) → refused_in (framed b) n m ≡ check_of s b
    order-refused m e = go (framed b) refl
      where
        go : (rows : Option (List (List ℕ))) → framed b ≡ rows → refused_in (framed b) n m ≡ check_of s b
        go none q = rw q (check-broken s b a q)
        go (some rows) q =
            let r = row_next p f q in
            let bad : row_bad s (row_of b n) ≡ some m = from-refused (row_bad s (row_of b n)) m (verdict-is r (E.refused m) e) in
            rw q (sym (turn r ∙ rw bad))
