-- A log with a chord added: its rows can be framed, are ones that a log may have, and hold the chords before and that one. Assumes nothing.
use Rattle.std.proofs.Common.{◌≡◌, ℕ, ◌+◌, ◌*◌, ◌^◌, ◌<◌, ◌≤◌, Bool, true, false, cond, leb, List, [], ◌∷◌, ◌++◌, length, take, drop, sym, refl, ap, ◌∙◌, subst, append_assoc, append-nil, arith, leb-true}
use mathlib.Core.Option.{Option, none, some}
use lib.Seq.{take-append_seam, drop-append_seam}
use Rattle.words.specs.Bytes.{Bytes, empty, part, num}
use Rattle.words.proofs.Numbers.{bytes-append, bytes_take, bytes_drop, num-lt}
use Rattle.words.proofs.Parts.{bytes-part, length_part}
use Rattle.layout.specs.Setting.{◌or◌}
use Rattle.batch.specs.Frames.{be, frame, framing, Framable, no_rows, another}
use Rattle.layout.proofs.Entered.{or-none}
use Rattle.batch.proofs.Sizes.{bytes-be}
use Rattle.chords.specs.declared.Chord.{Chord}
use Rattle.chords.specs.Chords.{Proper, row_for, no_stroke, chord_at, row_bad}
use Rattle.strokes.specs.Log.{chords_in, chords_of, rows_bad, gap, joins, added}
use Rattle.chords.specs.Places.{Keeps}
use Rattle.chords.proofs.Readings.{start_in, no-stroke, stroke, keeps-checked, keeps-nulls}
use Rattle.chords.proofs.RowLaws.{SecondProper, one-long, two-long, row-bytes, row-sound, row-free, row-full, row_first, row-second}

-- ---- rows that a log may have, one behind another

pub data AllKeep : List (List ℕ) → Type 0 where
  keep_none : AllKeep []
  keep_row : {row : List ℕ} {rows : List (List ℕ)} → Keeps row → AllKeep rows → AllKeep (row ∷ rows)

bytes-front : (xs ys : List ℕ) → Bytes (xs ++ ys) → Bytes xs
bytes-front xs ys h = subst Bytes (take-append_seam xs ys) (bytes_take (length xs) h)

bytes_back : (xs ys : List ℕ) → Bytes (xs ++ ys) → Bytes ys
bytes_back xs ys h = subst Bytes (drop-append_seam xs ys) (bytes_drop (length xs) h)

pub all_keep : (rows : List (List ℕ)) → Bytes (framing rows) → rows_bad rows ≡ none → AllKeep rows
unfolding framing frame rows_bad
all_keep [] b e = keep_none
all_keep (row ∷ rows) b e =
    let q = or-none (row_bad row) (rows_bad rows) e in
    keep_row (record { bytes = bytes_back (be 4 (length row)) row (bytes-front (frame row) (framing rows) b); sound = q.0 })
    (all_keep rows (bytes_back (frame row) (framing rows) b) q.1)

pub all-bytes : {rows : List (List ℕ)} → AllKeep rows → Bytes (framing rows)
unfolding framing frame
all-bytes keep_none = empty
all-bytes (keep_row {row = row} k ks) = bytes-append (bytes-append (bytes-be 4 (length row)) k.bytes) (all-bytes ks)

pub all_sound : {rows : List (List ℕ)} → AllKeep rows → rows_bad rows ≡ none
unfolding rows_bad
all_sound keep_none = refl
all_sound (keep_row k ks) = rw k.sound (all_sound ks)

-- ---- the first chord of a row has 32 bits

number_small : {row : List ℕ} → Keeps row → (at : ℕ) → at + 4 ≤ length row → num (part row at 4) < 2 ^ 32
number_small {row} k at h = subst (λ (n : ℕ). num (part row at 4) < 256 ^ n) (length_part row at 4 h) (num-lt (bytes-part at 4 k.bytes))

pub first-proper : {row : List ℕ} → Keeps row → Proper (chord_at row 0)
unfolding chord_at
first-proper {row} k =
    let c = keeps-checked k in
    let n = keeps-nulls k in
    let s = stroke c 0 (omega arith) (sym (no-stroke c 0 (omega arith)) ∙ n.first) in
    let t = s.numbers 0 (omega arith) (sym (s.nulls 0 (omega arith)) ∙ n.numbers 0 0 (omega arith) (omega arith)) in
    let m = s.numbers 1 (omega arith) (sym (s.nulls 1 (omega arith)) ∙ n.numbers 0 1 (omega arith) (omega arith)) in
    record {
      tick = rw t (number_small k (start_in row 0 + (8 + 8 * 0)) (omega (arith, s.room)));
      keys = rw m (number_small k (start_in row 0 + (8 + 8 * 1)) (omega (arith, s.room)));
    }

-- ---- the last row, and the one that takes its place or follows it

pub record Joins (row : List ℕ) (c : Chord) (window : ℕ) : Type 0 where
  pub free : no_stroke row 1 ≡ true
  pub near : gap c.tick (chord_at row 0).tick ≤ window

pub joins-by : (row : List ℕ) (c : Chord) (window : ℕ) → joins row c.tick window ≡ true → Joins row c window
unfolding joins
joins-by row c window e = go (no_stroke row 1) refl (leb (gap c.tick (chord_at row 0).tick) window) refl
  where
    go : (v : Bool) → no_stroke row 1 ≡ v → (u : Bool) → leb (gap c.tick (chord_at row 0).tick) window ≡ u → Joins row c window
    go true f true l = record { free = f; near = leb-true _ window l }
    go true f false l = let z : false ≡ true = rw (f, l) at e in let o : ◌≡◌ {A = ℕ} 0 1 = cc in absurd (omega arith)
    go false f u l = let z : false ≡ true = rw f at e in let o : ◌≡◌ {A = ℕ} 0 1 = cc in absurd (omega arith)

pub chords-one : (c : Chord) → Proper c → chords_in (row_for c none) ≡ c ∷ []
unfolding chords_in
chords-one c p = rw (row-free c p, row_first c none p tt)

pub chords-two : (c d : Chord) → Proper c → Proper d → chords_in (row_for c (some d)) ≡ c ∷ d ∷ []
unfolding chords_in
chords-two c d p q = rw (row-full c d p q, row_first c (some d) p q, row-second c d p q)

pub new-keeps : (c : Chord) (d : Option Chord) → Proper c → SecondProper d → Keeps (row_for c d)
new-keeps c d p q = record { bytes = row-bytes c d p q; sound = row-sound c d p q }

-- ---- what adding makes of the rows

-- the rows rows' are rows that a log may have, can be framed, and hold the chords cs
pub record Holding (rows' : List (List ℕ)) (cs : List Chord) : Type 0 where
  pub keep : AllKeep rows'
  pub fits : Framable rows'
  pub chords : chords_of rows' ≡ cs

module _ (c : Chord) (window : ℕ) (p : Proper c) where
  short-one : (c : Chord) → Proper c → length (row_for c none) < 256 ^ 4
  short-one c p = rw (one-long c p) (omega arith)

  short-two : (c d : Chord) → Proper c → Proper d → length (row_for c (some d)) < 256 ^ 4
  short-two c d p q = rw (two-long c d p q) (omega arith)

  last-holds : (row : List ℕ) → Keeps row → length row < 256 ^ 4 → (v : Bool) → joins row c.tick window ≡ v
      → Holding (cond v (row_for (chord_at row 0) (some c) ∷ []) (row ∷ row_for c none ∷ [])) (chords_in row ++ (c ∷ []))
  unfolding chords_of chords_in
  last-holds row k l true e =
      let j = joins-by row c window e in
      let f = first-proper k in
      record {
        keep = keep_row (new-keeps (chord_at row 0) (some c) f p) keep_none;
        fits = another (short-two (chord_at row 0) c f p) no_rows;
        chords = rw (chords-two (chord_at row 0) c f p, j.free);
      }
  last-holds row k l false e = record {
    keep = keep_row k (keep_row (new-keeps c none p tt) keep_none);
    fits = another l (another (short-one c p) no_rows);
    chords = ap (λ (cs : List Chord). chords_in row ++ cs) (rw (chords-one c p));
  }

  pub added-holds : {rows : List (List ℕ)} → AllKeep rows → Framable rows → Holding (added rows c window) (chords_of rows ++ (c ∷ []))
  unfolding added chords_of
  added-holds keep_none no_rows = record {
    keep = keep_row (new-keeps c none p tt) keep_none;
    fits = another (short-one c p) no_rows;
    chords = rw (chords-one c p);
  }
  added-holds (keep_row {row = row} {rows = []} k keep_none) (another l no_rows) =
      let h = last-holds row k l (joins row c.tick window) refl in
      record { keep = h.keep; fits = h.fits; chords = h.chords ∙ rw append-nil }
  added-holds (keep_row {row = row} {rows = next ∷ rows} k ks) (another l ls) =
      let h = added-holds ks ls in
      record {
        keep = keep_row k h.keep;
        fits = another l h.fits;
        chords = ap (λ (cs : List Chord). chords_in row ++ cs) h.chords ∙ sym (append_assoc (chords_in row) (chords_of (next ∷ rows)) (c ∷ []));
      }
