-- What appending answers, and what it leaves in the room. Assumes nothing.
use Rattle.std.specs.Prelude.{Ok, Err}
use mathlib.Core.Path.{◌≡◌, refl, sym, ap, ◌∙◌}
use mathlib.Core.Bool.{Bool, true, false}
use mathlib.Core.Option.{Option, none, some}
use mathlib.Core.List.{List, [], ◌∷◌}
use Prim.Native.Nat.{ℕ, ◌+◌, ◌≤◌, ◌<◌}
use native.Mathlib.Omega.{arith}
use lib.ListN.{length, take}
use lib.Seq.{sets}
use lib.Dec.{leb}
use borrow.Author.Tests.{lt-leb, le-leb, leb-true}
use Rattle.words.specs.Bytes.{part}
use Rattle.words.proofs.Parts.{part-whole}
use Rattle.words.proofs.Runs.{sets_then}
use Rattle.schema.specs.Reading.{judged}
use Rattle.schema.specs.declared.Judged.{Judged}
use Rattle.schema.specs.declared.Judged.TheVariants.{Accepted, Refused}
use Rattle.layout.specs.Refusals as N
use Rattle.layout.specs.Setting.{◌or◌}
use Rattle.layout.specs.Entries.{Verdict, verdict, Sized, takes, refused_with, schema_bad, sized_after, check_of as row_check}
use Rattle.layout.specs.Entries as E
use Rattle.answers.specs.declared.Refusal.{Refusal}
use Rattle.answers.specs.declared.Refusal.TheVariants as F
use Rattle.answers.specs.Meaning.{Length, refusal_means, length_of}
use Rattle.answers.proofs.Unique.{no_length}
use Rattle.row.specs.Demand1.{Ends}
use Rattle.row.specs.Demand1 as D
use Rattle.row.proofs.Among.{not-among}
use Rattle.row.proofs.Demand1.{demand1}
use Rattle.layout.proofs.Reader.{cut-some, cut-none}
use Rattle.batch.specs.Frames.{be, frame, framed}
use Rattle.batch.specs.Entries.{row_bad, lent_rows, framed_at, append_of, appended_of}
use Rattle.batch.specs.Meaning.{Appends, after_schema}
use Rattle.batch.specs.Places.{PutsRow}
use Rattle.batch.proofs.Sizes.{length-be}
use Rattle.batch.proofs.Framing.{length-frame}

-- a refusal of a check is not 4, so it has no length
number_of : (r : N.Refusal) (v : Verdict) → Ends (1 ∷ 3 ∷ 7 ∷ []) v → E.refused r ≡ v → r ≡ N.numbered 4 → ⊥
number_of r v D.done e = let z : ◌≡◌ {A = ℕ} 0 1 = cc in absurd (omega arith)
number_of r v (D.refused (D.number {n = m} o _)) e = λ q. let z : m ≡ 4 = cc in not-among 4 o refl z
number_of r v (D.refused (D.place o)) e = λ q. let z : ◌≡◌ {A = ℕ} 0 1 = cc in absurd (omega arith)

-- a checked row is short
pub row_small : (s row : List ℕ) → E.done ≡ row_check s row → length row ≤ 16384
unfolding row_check
row_small s row e = go (judged s) refl (leb (length row) 16384) refl
  where
    go : (j : Judged) → judged s ≡ j → (v : Bool) → leb (length row) 16384 ≡ v → length row ≤ 16384
    go Refused a v h = let z : E.done ≡ E.refused (N.numbered 1) = rw a at e in let o : ◌≡◌ {A = ℕ} 0 1 = cc in absurd (omega arith)
    go Accepted a false h = let z : E.done ≡ E.refused (N.numbered 3) = rw (a, h) at e in let o : ◌≡◌ {A = ℕ} 0 1 = cc in absurd (omega arith)
    go Accepted a true h = leb-true (length row) 16384 h

module _ (room : List ℕ) (used : ℕ) where
  pub lent_none : length room < used → lent_rows room used ≡ none
  unfolding lent_rows
  lent_none h = rw (cut-none used room h)

  pub lent_is : used ≤ length room → lent_rows room used ≡ framed (take used room)
  unfolding lent_rows
  lent_is h = rw (cut-some used room h)

-- a row put in its frame
module _ (room : List ℕ) (used : ℕ) (row : List ℕ) (needed : ℕ) (n : needed ≡ used + 4 + length row) where
  whole : used + length (frame row) ≡ needed
  whole = omega (arith, length-frame row)

  pub put-short : length room < needed → PutsRow room used row (Err (F.Room needed)) room
  put-short h =
      let z : refused_with (N.numbered 4) needed ≡ sized_after none (used + length (frame row)) (length room) =
      rw (whole, lt-leb needed (length room) h) in
      record { answers = z; leaves = ap (λ (v : Sized). framed_at v room used row) z }

  pub put-done : needed ≤ length room → {mid room' : List ℕ} → mid ≡ sets room used (be 4 (length row))
      → room' ≡ sets mid (used + 4) (part row 0 (length row)) → PutsRow room used row (Ok needed) room'
  unfolding frame
  put-done h {mid} {room'} u w =
      let z : takes needed ≡ sized_after none (used + length (frame row)) (length room) = rw (whole, le-leb needed (length room) h) in
      let size : used + 4 ≡ used + length (be 4 (length row)) = ap (λ (m : ℕ). used + m) (sym (length-be 4 (length row))) in
      let t : sets mid (used + 4) (part row 0 (length row)) ≡ sets room used (frame row) =
      rw (u, part-whole row) (sets_then room used (used + 4) (be 4 (length row)) row size) in
      record { answers = z; leaves = w ∙ t ∙ ap (λ (v : Sized). framed_at v room used row) z }

module _ (s room : List ℕ) (used : ℕ) (row : List ℕ) where
  -- what an answer leaves
  leaves : (n : N.Refusal) (k : ℕ) → refused_with n k ≡ append_of s room used row → room ≡ appended_of s room used row
  unfolding appended_of
  leaves n k e = rw (← e)

  pub append-broken : {r : Refusal} → lent_rows room used ≡ none → r ≡ after_schema (judged s) F.Batch → Appends s room used row (Err r) room
  unfolding append_of
  append-broken e z = rw z (record { answers = go (judged s) refl; leaves = leaves _ _ (go (judged s) refl) })
    where
      go : (j : Judged) → judged s ≡ j
          → refused_with (refusal_means (after_schema (judged s) F.Batch)) (length_of (after_schema (judged s) F.Batch)) ≡ append_of s room used row
      go Accepted a = rw (a, e)
      go Refused a = rw a

  module _ {rows : List (List ℕ)} (e : lent_rows room used ≡ some rows) where
    -- the batch in order, the row's check decides
    sized : Verdict → Sized
    sized E.done = sized_after none (used + length (frame row)) (length room)
    sized (E.refused n) = refused_with n 0

    sized-after : (m : Option N.Refusal) → sized_after m (used + length (frame row)) (length room) ≡ sized (verdict m)
    unfolding sized
    sized-after none = refl
    sized-after (some n) = refl

    append-is : append_of s room used row ≡ sized (row_check s row)
    unfolding append_of row_check
    append-is = rw e (again (schema_bad s) (row_bad s row))
      where
        again : (m n : Option N.Refusal) → sized_after (m or none or n) (used + length (frame row)) (length room) ≡ sized (verdict (m or n))
        again none n = sized-after n
        again (some i) n = sized-after (some i)

    pub append-refused : (r : Refusal) → E.refused (refusal_means r) ≡ row_check s row → Appends s room used row (Err r) room
    unfolding sized
    append-refused r q =
        let l : length_of r ≡ 0 = no_length r (number_of (refusal_means r) (row_check s row) (demand1.check s row) q) in
        let z : refused_with (refusal_means r) (length_of r) ≡ append_of s room used row = ap (refused_with (refusal_means r)) l ∙ ap sized q ∙ sym append-is in
        record { answers = z; leaves = leaves _ _ z }

    pub append-put : E.done ≡ row_check s row → {r : Length} {room' : List ℕ} → PutsRow room used row r room' → Appends s room used row r room'
    unfolding sized appended_of
    append-put q p =
        let z : sized_after none (used + length (frame row)) (length room) ≡ append_of s room used row = ap sized q ∙ sym append-is in
        record { answers = p.answers ∙ z; leaves = p.leaves ∙ ap (λ (v : Sized). framed_at v room used row) z }
