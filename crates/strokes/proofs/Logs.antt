-- A log walked row by row: what was passed, what it holds, and what a refused row makes of the whole. Assumes nothing.
use Rattle.std.specs.Prelude.{Ok, Err}
use Rattle.std.proofs.Common.{◌≡◌, ℕ, ◌+◌, ◌-◌, ◌*◌, ◌<◌, ◌≤◌, Bool, true, false, List, [], ◌∷◌, ◌++◌, length, drop, sym, refl, ap, ◌∙◌, append_assoc, append-nil, arith, length-append}
use mathlib.Core.Option.{Option, none, some}
use Rattle.words.specs.Bytes.{Bytes, part}
use Rattle.words.proofs.Parts.{bytes-part}
use Rattle.layout.specs.Refusals as N
use Rattle.layout.specs.Setting.{◌or◌}
use Rattle.layout.specs.Entries.{verdict}
use Rattle.layout.specs.Entries as E
use Rattle.answers.specs.declared.Refusal.{Refusal}
use Rattle.answers.specs.declared.Refusal.TheVariants as F
use Rattle.answers.specs.Meaning.{refusal_means}
use Rattle.batch.specs.Frames.{framing, first, framed}
use Rattle.batch.specs.Places.{Stands, joined, Passed}
use Rattle.batch.proofs.Passing.{passed_start, start-rows, passed-few, passed-next, next-rows, passed-end, passed-broken}
use Rattle.batch.proofs.Taken.{from-done, from-refused}
use Rattle.chords.specs.Chords.{no_stroke, chord_at, row_bad}
use Rattle.strokes.specs.Log.{with_second, chords_in, chords_of, rows_bad}
use Rattle.chords.specs.Places.{Keeps}
use Rattle.chords.proofs.Judging.{or_assoc}
use Rattle.strokes.specs.declared.Judged.{Judged}
use Rattle.strokes.specs.Places.{but_last, JudgedAs, is_sound, is_refused, RefusedAt}
use Rattle.strokes.proofs.Numbers.{row-length}

-- ---- rows one behind another

pub bad-append : (us vs : List (List ℕ)) → rows_bad (us ++ vs) ≡ (rows_bad us or rows_bad vs)
unfolding rows_bad
bad-append [] vs = refl
bad-append (u ∷ us) vs = ap (λ (m : Option N.Refusal). row_bad u or m) (bad-append us vs) ∙ or_assoc (row_bad u) (rows_bad us) (rows_bad vs)

or_nothing : (m : Option N.Refusal) → (m or none) ≡ m
or_nothing none = refl
or_nothing (some r) = refl

pub bad-one : (row : List ℕ) → rows_bad (row ∷ []) ≡ row_bad row
unfolding rows_bad
bad-one row = or_nothing (row_bad row)

pub chords-append : (us vs : List (List ℕ)) → chords_of (us ++ vs) ≡ chords_of us ++ chords_of vs
unfolding chords_of
chords-append [] vs = refl
chords-append (u ∷ us) vs = rw (chords-append us vs) (sym (append_assoc (chords_in u) (chords_of us) (chords_of vs)))

pub chords-one : (row : List ℕ) → chords_of (row ∷ []) ≡ chords_in row
unfolding chords_of
chords-one row = append-nil (chords_in row)

pub but_last_lem : (us : List (List ℕ)) (row : List ℕ) → but_last (us ++ (row ∷ [])) ≡ us
unfolding but_last
but_last_lem [] row = refl
but_last_lem (u ∷ []) row = refl
but_last_lem (u ∷ (v ∷ us)) row = ap (λ (l : List (List ℕ)). u ∷ l) (but_last_lem (v ∷ us) row)

pub one-or-two : (row : List ℕ) → length (chords_in row) ≤ 2
unfolding chords_in
one-or-two row = go (no_stroke row 1)
  where
    go : (v : Bool) → length (with_second v (chord_at row 0) (chord_at row 1)) ≤ 2
    go true = omega arith
    go false = omega arith

pub one-at-least : (row : List ℕ) → 1 ≤ length (chords_in row)
unfolding chords_in
one-at-least row = go (no_stroke row 1)
  where
    go : (v : Bool) → 1 ≤ length (with_second v (chord_at row 0) (chord_at row 1))
    go true = omega arith
    go false = omega arith

-- a row of a free second place has one chord, any other two
pub has_one : (row : List ℕ) {v : Bool} → v ≡ no_stroke row 1 → v ≡ true → chords_in row ≡ chord_at row 0 ∷ []
unfolding chords_in
has_one row e t = rw (sym e ∙ t)

pub has-two : (row : List ℕ) {v : Bool} → v ≡ no_stroke row 1 → v ≡ false → chords_in row ≡ chord_at row 0 ∷ chord_at row 1 ∷ []
unfolding chords_in
has-two row e t = rw (sym e ∙ t)

chords-few : (rows : List (List ℕ)) → length (chords_of rows) ≤ 2 * length rows
unfolding chords_of
chords-few [] = omega arith
chords-few (row ∷ rows) = rw (length-append (chords_in row) (chords_of rows)) (omega (arith, one-or-two row, chords-few rows))

-- ---- the walk of the judge

-- n rows were passed, up to the byte numbered at, and are as a log may have them; the last of them starts at last, and they have count chords
pub record Walked (log : List ℕ) (at n last count : ℕ) : Type 0 where
  pub bytes : Bytes log
  pub passed : Passed log at n
  pub sound : rows_bad passed.rows ≡ none
  pub begins : length (framing (but_last passed.rows)) ≡ last
  pub counts : length (chords_of passed.rows) ≡ count

pub walked_start : {log : List ℕ} → Bytes log → Walked log 0 0 0 0
unfolding rows_bad but_last chords_of framing
walked_start {log} b = record {
  bytes = b;
  passed = passed_start log;
  sound = rw start-rows;
  begins = rw start-rows;
  counts = rw start-rows;
}

-- the row of the frame that stands from at to end, as the code lends it
abbrev pub row_at : List ℕ → ℕ → ℕ → List ℕ
row_at log at end = part log (at + 4) (end - (at + 4))

module _ {log : List ℕ} {at n last count end : ℕ} (w : Walked log at n last count) (s : Stands log at end) where
  pub walked_keeps : E.done ≡ verdict (row_bad (row_at log at end)) → Keeps (row_at log at end)
  walked_keeps e = record { bytes = bytes-part (at + 4) (end - (at + 4)) w.bytes; sound = from-done _ (sym e) }

  pub walked-fits : count + 2 ≤ length log
  walked-fits = omega (arith, chords-few w.passed.rows, w.counts, w.passed.counts, passed-few w.passed, s.low, s.high)

  pub walked_next : {k : ℕ} → Keeps (row_at log at end) → k ≡ length (chords_in (row_at log at end)) → Walked log end (n + 1) at (count + k)
  walked_next {k} h e =
      let rows = w.passed.rows in
      let row = row_at log at end in
      let is : (passed-next w.passed s).rows ≡ rows ++ (row ∷ []) = next-rows w.passed s in
      record {
        bytes = w.bytes;
        passed = passed-next w.passed s;
        sound = rw (is, bad-append rows (row ∷ []), w.sound, bad-one row) h.sound;
        begins = rw (is, but_last_lem rows row) w.passed.size;
        counts = rw (is, chords-append rows (row ∷ []), chords-one row, length-append (chords_of rows) (chords_in row), w.counts) (rw e refl);
      }

  pub walked-refused : {r : Refusal} → E.refused (refusal_means r) ≡ verdict (row_bad (row_at log at end)) → RefusedAt log end (n + 1) r
  walked-refused {r} e =
      let rows = w.passed.rows in
      let row = row_at log at end in
      let is : (passed-next w.passed s).rows ≡ rows ++ (row ∷ []) = next-rows w.passed s in
      record {
        passed = passed-next w.passed s;
        refused = rw (is, bad-append rows (row ∷ []), w.sound, bad-one row) (from-refused _ _ (sym e));
        none = row-length row r e;
      }

-- what the judge tells of an accepted log
abbrev pub judged : ℕ → ℕ → Judged
judged last count = record { last = last; count = count }

pub walked_end : {log : List ℕ} {at n last count : ℕ} → Walked log at n last count → length log ≤ at → JudgedAs log (Ok (judged last count))
walked_end {log} {at} {n} {last} {count} w h =
    let is : framed log ≡ some w.passed.rows = passed-end w.passed (omega (arith, w.passed.high)) in
    is_sound {j = judged last count} (record {
      ends = record { sound = record { bytes = w.bytes; rows = w.passed.rows; is = is; sound = w.sound }; begins = w.begins };
      counts = rw is w.counts;
      few = omega (arith, chords-few w.passed.rows, w.counts, w.passed.counts, passed-few w.passed, w.passed.high);
    })

pub log-broken : {log : List ℕ} → framed log ≡ none → JudgedAs log (Err F.Batch)
log-broken e = is_refused {r = F.Batch} (rw e refl) refl

pub walked-broken : {log : List ℕ} {at n last count : ℕ} → Walked log at n last count → at < length log → first (drop at log) ≡ none
    → JudgedAs log (Err F.Batch)
walked-broken w l e = log-broken (passed-broken w.passed l e)

-- a refused row refuses a log that can be taken apart
pub row-refused : {log : List ℕ} {end n : ℕ} {r : Refusal} {rows : List (List ℕ)} → RefusedAt log end n r → framed log ≡ some rows
    → JudgedAs log (Err r)
row-refused {log} {end} {n} {r} {rows} f e = is_refused {r = r} (rw e (go (framed (drop end log)) (sym e ∙ f.passed.left))) f.none
  where
    go : (m : Option (List (List ℕ))) → some rows ≡ joined f.passed.rows m → rows_bad rows ≡ some (refusal_means r)
    go none q = cc
    go (some vs) q =
        let all : rows ≡ f.passed.rows ++ vs = cc in
        rw (all, bad-append f.passed.rows vs, f.refused)
