-- What each entry's refusals come to, in their order. Assumes nothing.
use Rattle.std.specs.Prelude.{Result, Ok, Err}
use mathlib.Core.Path.{◌≡◌, refl, sym, ap, ◌∙◌, subst}
use mathlib.Core.Option.{Option, none, some}
use mathlib.Core.List.{List, [], ◌++◌, append_assoc}
use Prim.Native.Nat.{ℕ, ◌+◌, ◌-◌, ◌≤◌, ◌<◌}
use native.Mathlib.Omega.{arith}
use lib.ListN.{length, take, drop, get_or}
use lib.Seq.{sets, sets-eq, drop-drop}
use borrow.Rule.Slice.PartMut.{put_mid}
use borrow.Author.Tests.{lt-ltb, le-ltb}
use Rattle.words.specs.Bytes.{part}
use Rattle.words.proofs.Parts.{length_part}
use Rattle.words.proofs.Runs.{sets_same}
use Rattle.schema.specs.Reading.{judged}
use Rattle.schema.specs.declared.Judged.{Judged}
use Rattle.schema.specs.declared.Judged.TheVariants.{Accepted, Refused}
use Rattle.layout.specs.Refusals as N
use Rattle.layout.specs.Setting.{Setting}
use Rattle.layout.specs.Setting as S
use Rattle.layout.specs.Reading as R
use Rattle.layout.specs.Entries.{Verdict, verdict, set_verdict, row_after, judge_of, check_of as row_check, read_of as row_read, set_of as row_set}
use Rattle.layout.specs.Entries as E
use Rattle.answers.specs.declared.Refusal.{Refusal}
use Rattle.answers.specs.declared.Refusal.TheVariants as F
use Rattle.answers.specs.declared.Span.{Span}
use Rattle.answers.specs.Meaning.{Outcome, refusal_means}
use Rattle.setting.specs.Writes.{SetAs}
use Rattle.batch.specs.Frames.{framed}
use Rattle.batch.specs.Entries.{row_of, start_of, no_row, row_bad, Fetching, range, fetch_after, fetch_of, read_of, within, set_of}
use Rattle.batch.specs.Entries as B
use Rattle.batch.specs.Meaning.{after_schema}
use Rattle.batch.specs.Places.{Ended, RowAt, Finds, is_broken, is_past, is_at, FindsAfter}
use Rattle.batch.specs.Places as L
use Rattle.batch.proofs.Taken.{set_long}

-- a part put back is a run of stores
put-mid : (b : List ℕ) (at n : ℕ) (u : List ℕ) → length u ≡ n → at + n ≤ length b → put_mid at n b u ≡ sets b at u
put-mid b at n u h room =
    ap (λ (t : List ℕ). take at b ++ (u ++ t)) (drop-drop n at b ∙ ap (λ (m : ℕ). drop (at + m) b) (sym h))
    ∙ sym (append_assoc (take at b) u (drop (at + length u) b))
    ∙ sym (sets-eq u b at (omega arith))

-- what the check of row k makes of a fetch
abbrev fetched : Verdict → ℕ → ℕ → Fetching
fetched E.done o n = range o n
fetched (E.refused m) o n = B.refused m

fetched-after : (m : Option N.Refusal) (o n : ℕ) → fetch_after m o n ≡ fetched (verdict m) o n
fetched-after none o n = refl
fetched-after (some m) o n = refl

-- ---- 1, 10 and 5

-- the refusal of an entry that asks of row k, where there is none
pub record NoRow (s b : List ℕ) (k : ℕ) (r : Refusal) : Type 0 where
  pub is : no_row s b k ≡ some (refusal_means r)

module _ {s b : List ℕ} {k : ℕ} where
  broken : framed b ≡ none → NoRow s b k (after_schema (judged s) F.Batch)
  broken e = record { is = go (judged s) refl }
    where
      go : (j : Judged) → judged s ≡ j → no_row s b k ≡ some (refusal_means (after_schema (judged s) F.Batch))
      go Accepted a = rw (a, e)
      go Refused a = rw a

  past : Ended b k → NoRow s b k (after_schema (judged s) F.NoPlace)
  past e = record { is = go (judged s) refl }
    where
      go : (j : Judged) → judged s ≡ j → no_row s b k ≡ some (refusal_means (after_schema (judged s) F.NoPlace))
      go Accepted a = rw (a, e.is, le-ltb k (length e.rows) e.few)
      go Refused a = rw a

  pub none-found : {f : Result Span Refusal} {r : Refusal} → f ≡ Err r → Finds b k f → NoRow s b k (after_schema (judged s) r)
  none-found {r = r} e (is_broken h) = let p : r ≡ F.Batch = cc in rw p (broken h)
  none-found {r = r} e (is_past h) = let p : r ≡ F.NoPlace = cc in rw p (past h)
  none-found e (is_at h) = let z : ◌≡◌ {A = ℕ} 0 1 = cc in absurd (omega arith)

  pub no-row-found : {f : Result Span Refusal} {r : Refusal} → f ≡ Err r → FindsAfter s b k f → NoRow s b k r
  no-row-found {r = r} e (L.no_row {r = q} h) = let p : after_schema (judged s) q ≡ r = cc in subst (NoRow s b k) p (none-found refl h)
  no-row-found e (L.a_row h) = let z : ◌≡◌ {A = ℕ} 0 1 = cc in absurd (omega arith)

  pub row_found : {f : Result Span Refusal} {x : Span} → f ≡ Ok x → FindsAfter s b k f → RowAt b k x.start x.end
  row_found e (L.no_row h) = let z : ◌≡◌ {A = ℕ} 0 1 = cc in absurd (omega arith)
  row_found {x = x} e (L.a_row {x = y} h) = let p : y ≡ x = cc in subst (λ (z : Span). RowAt b k z.start z.end) p h

module _ {s b : List ℕ} {k : ℕ} {r : Refusal} where
  pub fetch-none : NoRow s b k r → B.refused (refusal_means r) ≡ fetch_of s b k
  unfolding fetch_of
  fetch-none n = rw n.is

  pub read_none : (p : List ℕ) → NoRow s b k r → R.refused (refusal_means r) ≡ read_of s b k p
  unfolding read_of
  read_none p n = rw n.is

  pub set-none : (p : List ℕ) (x : Setting) → NoRow s b k r → SetAs (set_of s b k p x) b b (Err r)
  unfolding set_of
  set-none p x n = rw n.is (record { answers = refl; after = refl })

-- ---- row k: an entry that asks of it answers as for that row alone

module _ (s b : List ℕ) (k : ℕ) {rows : List (List ℕ)} (e : framed b ≡ some rows) (l : k < length rows) where
  fetch-there : fetch_of s b k ≡ fetched (row_check s (row_of b k)) (start_of b k) (length (row_of b k))
  unfolding fetch_of row_check
  fetch-there = go (judged s) refl
    where
      go : (j : Judged) → judged s ≡ j → fetch_of s b k ≡ fetched (row_check s (row_of b k)) (start_of b k) (length (row_of b k))
      go Accepted a = rw (a, e, lt-ltb k (length rows) l) (fetched-after (row_bad s (get_or rows k [])) _ _)
      go Refused a = rw a

  pub read-there : (p : List ℕ) → read_of s b k p ≡ row_read s (row_of b k) p
  unfolding read_of row_read
  read-there p = go (judged s) refl
    where
      go : (j : Judged) → judged s ≡ j → read_of s b k p ≡ row_read s (row_of b k) p
      go Accepted a = rw (a, e, lt-ltb k (length rows) l)
      go Refused a = rw a

  pub set_there : (p : List ℕ) (x : Setting) → set_of s b k p x ≡ within b (start_of b k) (row_set s (row_of b k) p x)
  unfolding set_of row_set
  set_there p x = go (judged s) refl
    where
      go : (j : Judged) → judged s ≡ j → set_of s b k p x ≡ within b (start_of b k) (row_set s (row_of b k) p x)
      go Accepted a = rw (a, e, lt-ltb k (length rows) l)
      go Refused a = rw a

module _ (s : List ℕ) {b : List ℕ} {k start end : ℕ} (at : RowAt b k start end) where
  abbrev lent : List ℕ
  lent = part b start (end - start)

  long : length lent ≡ end - start
  long = length_part b start (end - start) (omega (arith, at.low, at.high))

  fetch-by : (v : Verdict) → v ≡ row_check s lent → fetched v start (end - start) ≡ fetch_of s b k
  fetch-by v e =
      let n : end - start ≡ length (row_of b k) = sym long ∙ ap length at.row in
      let w : v ≡ row_check s (row_of b k) = e ∙ ap (row_check s) at.row in
      rw (w, n, at.begins) (sym (fetch-there s b k at.is at.counts))

  pub fetch-done : E.done ≡ row_check s lent → range start (end - start) ≡ fetch_of s b k
  fetch-done e = fetch-by E.done e

  pub fetch-refused : (n : N.Refusal) → E.refused n ≡ row_check s lent → B.refused n ≡ fetch_of s b k
  fetch-refused n e = fetch-by (E.refused n) e

  pub read_by : (p : List ℕ) (r : R.Answer) → r ≡ row_read s lent p → r ≡ read_of s b k p
  read_by p r e = e ∙ ap (λ (row : List ℕ). row_read s row p) at.row ∙ sym (read-there s b k at.is at.counts p)

  module _ (p : List ℕ) (x : Setting) where
    set-as : set_of s b k p x ≡ within b start (row_set s lent p x)
    set-as =
        set_there s b k at.is at.counts p x
        ∙ ap (λ (o : ℕ). within b o (row_set s (row_of b k) p x)) (sym at.begins)
        ∙ ap (λ (row : List ℕ). within b start (row_set s row p x)) (sym at.row)

    same-verdict : (o : S.Outcome) → set_verdict o ≡ set_verdict (within b start o)
    same-verdict (S.refuses n) = refl
    same-verdict (S.becomes row) = refl

    same_bytes : (o : S.Outcome) → sets b start (row_after o lent) ≡ row_after (within b start o) b
    same_bytes (S.refuses n) = sets_same b start (end - start) (omega (arith, at.low, at.high))
    same_bytes (S.becomes row) = refl

    after-keeps : length (row_after (row_set s lent p x) lent) ≡ length lent
    after-keeps = go (row_set s lent p x) refl
      where
        go : (o : S.Outcome) → row_set s lent p x ≡ o → length (row_after o lent) ≡ length lent
        go (S.refuses n) e = refl
        go (S.becomes row) e = set_long s lent p x row e

    -- the row's part of the batch, lent to the setting of a row
    pub set-mid : {row' : List ℕ} {r : Outcome} → SetAs (row_set s lent p x) lent row' r → SetAs (set_of s b k p x) b (put_mid start (end - start) b row') r
    set-mid {row'} w =
        let keeps : length row' ≡ end - start = ap length w.after ∙ after-keeps ∙ long in
        let bytes = put-mid b start (end - start) row' keeps (omega (arith, at.low, at.high)) in
        rw set-as (record {
          answers = w.answers ∙ same-verdict (row_set s lent p x);
          after = bytes ∙ ap (sets b start) w.after ∙ same_bytes (row_set s lent p x);
        })

-- what the judgement of a schema says
module _ (s : List ℕ) where
  pub judged-yes : E.done ≡ judge_of s → judged s ≡ Accepted
  unfolding judge_of
  judged-yes e = go (judged s) refl
    where
      go : (j : Judged) → judged s ≡ j → judged s ≡ Accepted
      go Accepted a = a
      go Refused a =
          let z : E.done ≡ E.refused (N.numbered 1) = e ∙ rw a in
          let o : ◌≡◌ {A = ℕ} 0 1 = cc in absurd (omega arith)

  pub judged-no : (n : N.Refusal) → E.refused n ≡ judge_of s → judged s ≡ Refused
  unfolding judge_of
  judged-no n e = go (judged s) refl
    where
      go : (j : Judged) → judged s ≡ j → judged s ≡ Refused
      go Refused a = a
      go Accepted a =
          let z : E.refused n ≡ E.done = e ∙ rw a in
          let o : ◌≡◌ {A = ℕ} 0 1 = cc in absurd (omega arith)
