-- An accepted log walked a second time: every frame stands, every row is one that a log may have, and the chords come in order. Assumes nothing.
use Rattle.std.proofs.Common.{◌≡◌, ℕ, zero, suc, ◌+◌, ◌-◌, ◌<◌, ◌≤◌, Bool, true, false, ◌⊎◌, List, [], ◌∷◌, ◌++◌, length, get_or, drop, sym, refl, ap, ◌∙◌, inl, inr, append_assoc, arith, length-append, get_or-append-add}
use mathlib.Core.Option.{Option, none, some}
use lib.ListN.{get_or-append}
use lib.Seq.{sets, length-sets}
use Rattle.words.proofs.Parts.{lt-or-le, bytes-part}
use Rattle.words.proofs.Runs.{sets_then}
use Rattle.batch.specs.Frames.{first, framed}
use Rattle.batch.specs.Entries.{or_none, rows_of}
use Rattle.batch.specs.Places.{Stands, joined, Passed}
use Rattle.batch.proofs.Passing.{passed_start, start-rows, passed-next, next-rows, passed-end, passed-over}
use Rattle.layout.proofs.Entered.{or-none}
use Rattle.chords.specs.declared.Chord.{Chord}
use Rattle.chords.specs.Chords.{chord, no_stroke, chord_at, row_bad}
use Rattle.strokes.specs.Log.{with_second, chords_in, chords_of, rows_bad}
use Rattle.strokes.specs.Entries.{numbers_of, numbers_in}
use Rattle.chords.specs.Places.{Keeps}
use Rattle.strokes.specs.Places.{Sound}
use Rattle.chords.proofs.Readings.{keeps-first}
use Rattle.strokes.proofs.Logs.{bad-append, chords-append, chords-one, row_at}
use Rattle.strokes.proofs.Listed.{numbers-append}

-- ---- the next row

-- the rows of a log: those that were passed, the one at the next frame, and others
record Next (rows us : List (List ℕ)) (row : List ℕ) : Type 0 where
  pub others : List (List ℕ)
  pub is : rows ≡ us ++ (row ∷ others)

module _ {log : List ℕ} {at n end : ℕ} (w : Sound log) (p : Passed log at n) (s : Stands log at end) where
  next_of : Next w.rows p.rows (row_at log at end)
  next_of = go (framed (drop end log)) (sym w.is ∙ (passed-next p s).left)
    where
      go : (m : Option (List (List ℕ))) → some w.rows ≡ joined (passed-next p s).rows m → Next w.rows p.rows (row_at log at end)
      go none q = let z : ◌≡◌ {A = ℕ} 0 1 = cc in absurd (omega arith)
      go (some vs) q =
          let all : w.rows ≡ (passed-next p s).rows ++ vs = cc in
          record { others = vs; is = all ∙ ap (λ (l : List (List ℕ)). l ++ vs) (next-rows p s) ∙ append_assoc p.rows (row_at log at end ∷ []) vs }

  pub next-keeps : Keeps (row_at log at end)
  unfolding rows_bad
  next-keeps =
      let row = row_at log at end in
      let q = next_of in
      let e = or-none (rows_bad p.rows) (rows_bad (row ∷ q.others)) (sym (bad-append p.rows (row ∷ q.others)) ∙ ap rows_bad (sym q.is) ∙ w.sound) in
      record { bytes = bytes-part (at + 4) (end - (at + 4)) w.bytes; sound = (or-none (row_bad row) (rows_bad q.others) e.1).0 }

  -- the chords of the log: of the rows that were passed, of the next one, and of others
  next-chords : chords_of w.rows ≡ chords_of p.rows ++ (chords_in (row_at log at end) ++ chords_of next_of.others)
  unfolding chords_of
  next-chords = let q = next_of in ap chords_of q.is ∙ chords-append p.rows (row_at log at end ∷ q.others)

  passed-chords : chords_of (passed-next p s).rows ≡ chords_of p.rows ++ chords_in (row_at log at end)
  passed-chords =
      ap chords_of (next-rows p s) ∙ chords-append p.rows (row_at log at end ∷ [])
      ∙ ap (λ (l : List Chord). chords_of p.rows ++ l) (chords-one (row_at log at end))

rows_are : {log : List ℕ} (w : Sound log) → rows_of log ≡ w.rows
rows_are w = ap or_none w.is

-- ---- chord n

-- rows with fewer than n + 1 chords were passed, and left more are to be passed
pub record Seeking (log : List ℕ) (n at left : ℕ) : Type 0 where
  pub sound : Sound log
  pub count : ℕ
  pub passed : Passed log at count
  pub counts : length (chords_of passed.rows) + left ≡ n
  pub there : n < length (chords_of sound.rows)

pub seek-start : {log : List ℕ} {n : ℕ} → Sound log → n < length (chords_of (rows_of log)) → Seeking log n 0 n
unfolding chords_of
seek-start {log} {n} w h = record { sound = w; count = 0; passed = passed_start log; counts = rw start-rows (omega arith); there = rw (rows_are w) at h }

-- the chord of a row's stroke i is its i-th chord
chord-in : (row : List ℕ) (i : ℕ) → i < length (chords_in row) → chord_at row i ≡ get_or (chords_in row) i (chord 0 0)
unfolding chords_in
chord-in row i h = go (no_stroke row 1) i h
  where
    go : (v : Bool) (i : ℕ) → i < length (with_second v (chord_at row 0) (chord_at row 1))
        → chord_at row i ≡ get_or (with_second v (chord_at row 0) (chord_at row 1)) i (chord 0 0)
    go true zero h = refl
    go true (suc i) h = absurd (omega arith)
    go false zero h = refl
    go false (suc zero) h = refl
    go false (suc (suc i)) h = absurd (omega arith)

-- and is there
stroke-in : {row : List ℕ} → Keeps row → (i : ℕ) → i < length (chords_in row) → no_stroke row i ≡ false
unfolding chords_in
stroke-in {row} k i h = go (no_stroke row 1) refl i h
  where
    go : (v : Bool) → no_stroke row 1 ≡ v → (i : ℕ) → i < length (with_second v (chord_at row 0) (chord_at row 1)) → no_stroke row i ≡ false
    go v e zero h = keeps-first k
    go true e (suc i) h = absurd (omega arith)
    go false e (suc zero) h = e
    go false e (suc (suc i)) h = absurd (omega arith)

module _ {log : List ℕ} {n at left : ℕ} (k : Seeking log n at left) where
  -- the log has not ended: all its chords would have been passed
  seek-before : at < length log
  seek-before = go (lt-or-le at (length log))
    where
      go : (at < length log) ⊎ (length log ≤ at) → at < length log
      go (inl l) = l
      go (inr l) =
          let e : some k.passed.rows ≡ some k.sound.rows = sym (passed-end k.passed (omega (arith, k.passed.high))) ∙ k.sound.is in
          let r : k.passed.rows ≡ k.sound.rows = cc in
          let c : length (chords_of k.passed.rows) ≡ length (chords_of k.sound.rows) = ap (λ (l : List (List ℕ)). length (chords_of l)) r in
          absurd (omega (arith, k.counts, k.there))

  pub seek-ends : first (drop at log) ≡ none → ⊥
  seek-ends f = let e = passed-over k.passed k.sound.is f in omega (arith, seek-before)

  module _ {end : ℕ} (s : Stands log at end) where
    pub seek-keeps : Keeps (row_at log at end)
    seek-keeps = next-keeps k.sound k.passed s

    pub seek-stroke : {held : ℕ} → held ≡ length (chords_in (row_at log at end)) → left < held → no_stroke (row_at log at end) left ≡ false
    seek-stroke e l = stroke-in seek-keeps left (omega arith)

    pub seek_found : {held : ℕ} → held ≡ length (chords_in (row_at log at end)) → left < held → {c : Chord} → c ≡ chord_at (row_at log at end) left
        → c ≡ get_or (chords_of (rows_of log)) n (chord 0 0)
    seek_found {held} e l {c} q =
        let us = k.passed.rows in
        let row = row_at log at end in
        let more = chords_of (next_of k.sound k.passed s).others in
        let all : chords_of (rows_of log) ≡ chords_of us ++ (chords_in row ++ more) = ap chords_of (rows_are k.sound) ∙ next-chords k.sound k.passed s in
        let there : left < length (chords_in row) = omega arith in
        q ∙ chord-in row left there ∙ sym (get_or-append (chords_in row) more (chord 0 0) left there)
        ∙ sym (get_or-append-add (chords_of us) (chords_in row ++ more) left (chord 0 0))
        ∙ ap (λ (i : ℕ). get_or (chords_of us ++ (chords_in row ++ more)) i (chord 0 0)) k.counts
        ∙ ap (λ (l : List Chord). get_or l n (chord 0 0)) (sym all)

    pub seek-next : {held : ℕ} → held ≡ length (chords_in (row_at log at end)) → held ≤ left → Seeking log n end (left - held)
    seek-next {held} e l = record {
      sound = k.sound;
      count = k.count + 1;
      passed = passed-next k.passed s;
      counts = rw (passed-chords k.sound k.passed s, length-append (chords_of k.passed.rows) (chords_in (row_at log at end)))
          (omega (arith, k.counts));
      there = k.there;
    }

-- ---- all chords

-- the numbers of the chords of the rows that were passed stand in out', which was out
pub record Putting (log out out' : List ℕ) (at i : ℕ) : Type 0 where
  pub sound : Sound log
  pub count : ℕ
  pub passed : Passed log at count
  pub next : length (numbers_of (chords_of passed.rows)) ≡ i
  pub room : length (numbers_in log) ≤ length out
  pub holds : out' ≡ sets out 0 (numbers_of (chords_of passed.rows))

pub put-start : {log out : List ℕ} → Sound log → length (numbers_in log) ≤ length out → Putting log out out 0 0
unfolding chords_of numbers_of
put-start {log} w h = record { sound = w; count = 0; passed = passed_start log; next = rw start-rows; room = h; holds = rw start-rows }

module _ {log out out' : List ℕ} {at i : ℕ} (k : Putting log out out' at i) where
  module _ {end : ℕ} (s : Stands log at end) where
    pub put_keeps : Keeps (row_at log at end)
    put_keeps = next-keeps k.sound k.passed s

    pub put-room : i + length (numbers_of (chords_in (row_at log at end))) ≤ length out'
    put-room =
        let us = k.passed.rows in
        let row = row_at log at end in
        let more = chords_of (next_of k.sound k.passed s).others in
        let all : numbers_in log ≡ numbers_of (chords_of us) ++ (numbers_of (chords_in row) ++ numbers_of more) =
        ap (λ (l : List (List ℕ)). numbers_of (chords_of l)) (rows_are k.sound) ∙ ap numbers_of (next-chords k.sound k.passed s)
        ∙ numbers-append (chords_of us) (chords_in row ++ more) ∙ ap (λ (l : List ℕ). numbers_of (chords_of us) ++ l) (numbers-append (chords_in row) more) in
        let size : length (numbers_in log) ≡ length (numbers_of (chords_of us)) + (length (numbers_of (chords_in row)) + length (numbers_of more)) =
        ap length all ∙ simp length-append in
        let same : length out' ≡ length out = ap length k.holds ∙ length-sets out 0 (numbers_of (chords_of us)) in
        omega (arith, k.next, k.room)

    pub put_next : {j : ℕ} {out'' : List ℕ} → (j ≡ i + length (numbers_of (chords_in (row_at log at end))))
        × (out'' ≡ sets out' i (numbers_of (chords_in (row_at log at end)))) → Putting log out out'' end j
    put_next {j} {out''} e =
        let us = k.passed.rows in
        let row = row_at log at end in
        let all : numbers_of (chords_of (passed-next k.passed s).rows) ≡ numbers_of (chords_of us) ++ numbers_of (chords_in row) =
        ap numbers_of (passed-chords k.sound k.passed s) ∙ numbers-append (chords_of us) (chords_in row) in
        record {
          sound = k.sound;
          count = k.count + 1;
          passed = passed-next k.passed s;
          next = ap length all ∙ length-append (numbers_of (chords_of us)) (numbers_of (chords_in row)) ∙ rw k.next (sym e.0);
          room = k.room;
          holds = e.1 ∙ ap (λ (l : List ℕ). sets l i (numbers_of (chords_in row))) k.holds
              ∙ sets_then out 0 i (numbers_of (chords_of us)) (numbers_of (chords_in row)) (omega (arith, k.next)) ∙ ap (sets out 0) (sym all);
        }

  pub put-long : length out' ≡ length out
  put-long = ap length k.holds ∙ length-sets out 0 (numbers_of (chords_of k.passed.rows))

  pub put-end : first (drop at log) ≡ none → out' ≡ sets out 0 (numbers_in log)
  put-end f =
      let e : rows_of log ≡ k.passed.rows = ap or_none (passed-end k.passed (passed-over k.passed k.sound.is f)) in
      k.holds ∙ ap (λ (r : List (List ℕ)). sets out 0 (numbers_of (chords_of r))) (sym e)
