-- Check accepts a batch exactly when it accepts every row. Assumes nothing.
use mathlib.Core.Path.{◌≡◌, refl, sym, ap, ◌∙◌}
use mathlib.Core.Option.{Option, none, some}
use mathlib.Core.List.{List, [], ◌∷◌}
use Prim.Native.Nat.{ℕ, zero, suc, ◌<◌}
use native.Mathlib.Omega.{arith}
use lib.ListN.{length, get_or, set}
use Rattle.schema.specs.Reading.{judged}
use Rattle.schema.specs.declared.Judged.{Judged}
use Rattle.schema.specs.declared.Judged.TheVariants.{Accepted, Refused}
use Rattle.layout.specs.Refusals as N
use Rattle.layout.specs.Entries.{verdict, check_of as row_check}
use Rattle.layout.specs.Entries as E
use Rattle.batch.specs.Frames.{framed}
use Rattle.batch.specs.Entries.{row_bad, Checking, in_turn, check_rows, check_of}
use Rattle.batch.specs.Entries as B
use Rattle.batch.specs.Batches.{AllChecked, checked_none, checked_row, Sound}
use Rattle.batch.proofs.Taken.{check-row-is, from-done}

module _ (s : List ℕ) where
  in-turn : (k : ℕ) (m : Option N.Refusal) (c : Checking) → in_turn k m c ≡ B.done → (m ≡ none) × (c ≡ B.done)
  in-turn k none c e = (refl, e)
  in-turn k (some n) c e = let z : ◌≡◌ {A = ℕ} 0 1 = cc in absurd (omega arith)

  all-forth : judged s ≡ Accepted → (k : ℕ) (rows : List (List ℕ)) → check_rows s k rows ≡ B.done → AllChecked s rows
  unfolding check_rows
  all-forth a k [] e = checked_none
  all-forth a k (row ∷ rows) e =
      let p = in-turn k (row_bad s row) (check_rows s (suc k) rows) e in
      checked_row (check-row-is s row a ∙ ap verdict p.0) (all-forth a (suc k) rows p.1)

  all_back : judged s ≡ Accepted → (k : ℕ) {rows : List (List ℕ)} → AllChecked s rows → check_rows s k rows ≡ B.done
  unfolding check_rows
  all_back a k checked_none = refl
  all_back a k (checked_row {row = row} {rows = rows} e h) =
      ap (λ (m : Option N.Refusal). in_turn k m (check_rows s (suc k) rows)) (from-done (row_bad s row) (sym (check-row-is s row a) ∙ e)) ∙ all_back a (suc k) h

  pub sound : (b : List ℕ) → check_of s b ≡ B.done → Sound s b
  unfolding check_of
  sound b e = go (judged s) refl (framed b) refl
    where
      go : (j : Judged) → judged s ≡ j → (m : Option (List (List ℕ))) → framed b ≡ m → Sound s b
      go Refused a m q = let z : B.refused (N.numbered 1) ≡ B.done = rw a at e in let o : ◌≡◌ {A = ℕ} 0 1 = cc in absurd (omega arith)
      go Accepted a none q = let z : B.refused (N.numbered 10) ≡ B.done = rw (a, q) at e in let o : ◌≡◌ {A = ℕ} 0 1 = cc in absurd (omega arith)
      go Accepted a (some rows) q =
          let z : check_rows s 0 rows ≡ B.done = rw (a, q) at e in
          record { schema = a; rows = rows; is = q; checked = all-forth a 0 rows z }

  pub done : (b : List ℕ) → Sound s b → check_of s b ≡ B.done
  unfolding check_of
  done b h = rw (h.schema, h.is) (all_back h.schema 0 h.checked)

  pub checked-at : {rows : List (List ℕ)} (k : ℕ) → AllChecked s rows → k < length rows → row_check s (get_or rows k []) ≡ E.done
  checked-at k checked_none l = absurd (omega arith)
  checked-at zero (checked_row e h) l = e
  checked-at (suc k) (checked_row e h) l = checked-at k h (omega arith)

  pub checked-set : {rows : List (List ℕ)} (k : ℕ) (row : List ℕ) → row_check s row ≡ E.done → AllChecked s rows → AllChecked s (set rows k row)
  checked-set k row e checked_none = checked_none
  checked-set zero row e (checked_row q h) = checked_row e h
  checked-set (suc k) row e (checked_row q h) = checked_row q (checked-set k row e h)
