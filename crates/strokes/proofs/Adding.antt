-- A chord added to a log: the gap, the last row, and the frame that is laid down where it begins. Assumes nothing.
use Rattle.std.specs.Prelude.{Ok, Err}
use Rattle.std.specs.Result.{result_or}
use Rattle.std.proofs.Common.{◌≡◌, ℕ, ◌+◌, ◌-◌, ◌%◌, ◌^◌, ◌<◌, ◌≤◌, Bool, true, false, not, leb, List, [], ◌∷◌, ◌++◌, length, take, drop, sym, refl, ap, ◌∙◌, subst, append_assoc, arith, length-append, length-take-le, take-take, take_at, drop_at}
use mathlib.Core.Option.{none, some}
use borrow.Author.Tests.{not-true, not-false}
use lib.Seq.{sets}
use Rattle.words.specs.Bytes.{Bytes}
use Rattle.words.proofs.Numbers.{bytes_drop}
use Rattle.words.proofs.Parts.{drop-take}
use Rattle.words.proofs.Runs.{sets_then, sets_same}
use Rattle.layout.specs.Refusals as N
use Rattle.layout.specs.Setting.{◌or◌}
use Rattle.layout.specs.Entries.{Sized, takes, refused_with, filled}
use Rattle.answers.specs.declared.Refusal.{Refusal}
use Rattle.answers.specs.declared.Refusal.TheVariants as F
use Rattle.answers.specs.Meaning.{Length, refusal_means, length_of, length_means}
use Rattle.batch.specs.Frames.{be, frame, framing}
use Rattle.batch.specs.Entries.{or_none, rows_of, framed_at}
use Rattle.batch.specs.Places.{PutsRow}
use Rattle.layout.proofs.Entered.{or-none}
use Rattle.batch.proofs.Sizes.{length-be}
use Rattle.batch.proofs.Framing.{length-frame, framing-append, framing-one, framed-forth}
use Rattle.chords.specs.declared.Chord.{Chord}
use Rattle.chords.specs.Chords.{row_for, no_stroke, chord_at, row_bad}
use Rattle.strokes.specs.Log.{rows_bad, gap, joins, added}
use Rattle.strokes.specs.Entries.{held_after}
use Rattle.chords.specs.Places.{Keeps}
use Rattle.strokes.specs.Places.{PutsFrame, but_last, Ends, AddsTo}
use Rattle.strokes.proofs.Logs.{bad-append, bad-one, but_last_lem, row_at}

-- ---- the gap

-- what wraps back to a tick, added to an earlier one, is the gap between them
pub gap_is : (later earlier r : ℕ) → later < 2 ^ 32 → earlier < 2 ^ 32 → r < 2 ^ 32 → (r + earlier) % 2 ^ 32 ≡ later → r ≡ gap later earlier
unfolding gap
gap_is later earlier r l e h w = omega arith

-- whether a row takes a chord, by what the code knows: that its second place is free or not, and the wrapped difference r
module _ (row : List ℕ) (tick window : ℕ) {v : Bool} (e : v ≡ no_stroke row 1) where
  pub joins-full : not v ≡ true → false ≡ joins row tick window
  unfolding joins
  joins-full h = rw (sym e ∙ not-true v h)

  pub joins-free : not v ≡ false → {first : Chord} {r : ℕ} → first ≡ chord_at row 0 → tick < 2 ^ 32 → first.tick < 2 ^ 32 → r < 2 ^ 32
      → (r + first.tick) % 2 ^ 32 ≡ tick → leb r window ≡ joins row tick window
  unfolding joins
  joins-free h {first} {r} q l m k w =
      rw (sym e ∙ not-false v h, sym (ap (λ (c : Chord). c.tick) q), gap_is tick first.tick r l m k w) refl

-- ---- a row in its frame, with 11 for 4

module _ {room row room' : List ℕ} {at : ℕ} where
  frame-done : {r : Length} {n : ℕ} → r ≡ Ok n → PutsRow room at row r room' → PutsFrame room at row (Ok n) room'
  frame-done {r} {n} e p = go (leb (at + length (frame row)) (length room)) refl
    where
      go : (v : Bool) → leb (at + length (frame row)) (length room) ≡ v → PutsFrame room at row (Ok n) room'
      go true q =
          let z : takes n ≡ takes (at + length (frame row)) = sym (ap length_means e) ∙ p.answers ∙ rw q refl in
          record { answers = rw q z; leaves = rw q (p.leaves ∙ rw q refl) }
      go false q =
          let z : takes n ≡ refused_with (N.numbered 4) (at + length (frame row)) = sym (ap length_means e) ∙ p.answers ∙ rw q refl in
          let o : ◌≡◌ {A = ℕ} 0 1 = cc in absurd (omega arith)

  frame-short : {r : Length} {f : Refusal} → r ≡ Err f → PutsRow room at row r room' → PutsFrame room at row (Err F.Log) room'
  frame-short {r} {f} e p = go (leb (at + length (frame row)) (length room)) refl
    where
      go : (v : Bool) → leb (at + length (frame row)) (length room) ≡ v → PutsFrame room at row (Err F.Log) room'
      go true q =
          let z : refused_with (refusal_means f) (length_of f) ≡ takes (at + length (frame row)) = sym (ap length_means e) ∙ p.answers ∙ rw q refl in
          let o : ◌≡◌ {A = ℕ} 0 1 = cc in absurd (omega arith)
      go false q = record { answers = rw q refl; leaves = rw q (p.leaves ∙ rw q refl) }

  pub frame-put : (r : Length) → PutsRow room at row r room' → PutsFrame room at row (result_or r (Err F.Log)) room'
  frame-put (Ok n) p = frame-done refl p
  frame-put (Err f) p = frame-short refl p

-- ---- what adding makes of the rows

pub added-joins : (us : List (List ℕ)) (row : List ℕ) (c : Chord) (window : ℕ) → joins row c.tick window ≡ true
    → added (us ++ (row ∷ [])) c window ≡ us ++ (row_for (chord_at row 0) (some c) ∷ [])
unfolding added
added-joins [] row c window e = rw e
added-joins (u ∷ []) row c window e = rw e
added-joins (u ∷ (v ∷ us)) row c window e = ap (λ (l : List (List ℕ)). u ∷ l) (added-joins (v ∷ us) row c window e)

pub added-starts : (us : List (List ℕ)) (row : List ℕ) (c : Chord) (window : ℕ) → joins row c.tick window ≡ false
    → added (us ++ (row ∷ [])) c window ≡ (us ++ (row ∷ [])) ++ (row_for c none ∷ [])
unfolding added
added-starts [] row c window e = rw e
added-starts (u ∷ []) row c window e = rw e
added-starts (u ∷ (v ∷ us)) row c window e = ap (λ (l : List (List ℕ)). u ∷ l) (added-starts (v ∷ us) row c window e)

-- a frame laid down behind rows that stand at the room's start is those rows and one more
pub adds-behind : {room room' row : List ℕ} {at window : ℕ} {rows : List (List ℕ)} (us : List (List ℕ)) {c : Chord} {r : Length} → at ≤ length room
    → framing us ≡ take at room → added rows c window ≡ us ++ (row ∷ []) → PutsFrame room at row r room' → AddsTo room rows c window r room'
adds-behind {room} {room'} {row} {at} {window} {rows} us {c} {r} h f a p =
    let size : length (framing us) ≡ at = ap length f ∙ length-take-le at room h in
    let is : framing (added rows c window) ≡ framing us ++ frame row = ap framing a ∙ framing-append us (row ∷ [])
    ∙ ap (λ (l : List ℕ). framing us ++ l) (framing-one row) in
    let long : length (framing (added rows c window)) ≡ at + length (frame row) = ap length is ∙ length-append (framing us) (frame row)
    ∙ ap (λ (n : ℕ). n + length (frame row)) size in
    let same : sets room 0 (framing us) ≡ room = ap (sets room 0) f ∙ sets_same room 0 at (omega arith) in
    let there : sets room at (frame row) ≡ sets room 0 (framing us ++ frame row) =
    ap (λ (l : List ℕ). sets l at (frame row)) (sym same) ∙ sets_then room 0 at (framing us) (frame row) (omega arith) in
    record { answers = rw long p.answers; leaves = rw (long, is) (p.leaves ∙ go (held_after none (at + length (frame row)) (length room)) there) }
  where
    go : (z : Sized) → sets room at (frame row) ≡ sets room 0 (framing us ++ frame row) → framed_at z room at row ≡ filled z (framing us ++ frame row) room
    go (takes n) t = t
    go (refused_with q k) t = refl

-- ---- the last row

-- rows that are not none have a last one
record Ending (rows : List (List ℕ)) : Type 0 where
  pub before : List (List ℕ)
  pub last : List ℕ
  pub is : rows ≡ before ++ (last ∷ [])

ending : (row : List ℕ) (rows : List (List ℕ)) → Ending (row ∷ rows)
ending row [] = record { before = []; last = row; is = refl }
ending row (next ∷ rows) =
    let e = ending next rows in
    record { before = row ∷ e.before; last = e.last; is = ap (λ (l : List (List ℕ)). row ∷ l) e.is }

-- the last row of the log that the first used bytes of a room are, whose frame starts at the byte numbered last
pub record Last (room : List ℕ) (used last : ℕ) : Type 0 where
  pub before : List (List ℕ)
  pub rows : rows_of (take used room) ≡ before ++ (row_at room last used ∷ [])
  pub stands : framing before ≡ take last room
  pub all : framing (before ++ (row_at room last used ∷ [])) ≡ take used room
  pub low : last + 4 ≤ used
  pub keeps : Keeps (row_at room last used)

-- the row of a frame stands behind its size
row-behind : (us : List (List ℕ)) (row : List ℕ) {at : ℕ} → length (framing us) ≡ at → drop (at + 4) (framing us ++ frame row) ≡ row
unfolding frame
row-behind us row {at} e =
    let size : length (framing us ++ be 4 (length row)) ≡ at + 4 =
    length-append (framing us) (be 4 (length row)) ∙ rw (e, length-be 4 (length row)) refl in
    ap (drop (at + 4)) (sym (append_assoc (framing us) (be 4 (length row)) row)) ∙ drop_at (framing us ++ be 4 (length row)) row (at + 4) size

module _ (room : List ℕ) (used last : ℕ) (h : used ≤ length room) (e : Ends (take used room) last) where
  whole : framing e.sound.rows ≡ take used room
  whole = (framed-forth e.sound.bytes e.sound.is).whole

  last-in : (rows : List (List ℕ)) → e.sound.rows ≡ rows → last < used → Last room used last
  unfolding but_last framing
  last-in [] q l =
      let z : length (framing e.sound.rows) ≡ used = ap length whole ∙ length-take-le used room h in
      let o : length (framing e.sound.rows) ≡ 0 = rw q refl in absurd (omega arith)
  last-in (first ∷ rest) q l =
      let d = ending first rest in
      let us = d.before in
      let row = d.last in
      let is : e.sound.rows ≡ us ++ (row ∷ []) = q ∙ d.is in
      let all : framing (us ++ (row ∷ [])) ≡ take used room = rw is at whole in
      let split : framing us ++ frame row ≡ take used room =
      sym (framing-append us (row ∷ []) ∙ ap (λ (l : List ℕ). framing us ++ l) (framing-one row)) ∙ all in
      let size : length (framing us) ≡ last = rw (is, but_last_lem us row) at e.begins in
      let long : length (framing us) + length (frame row) ≡ used =
      sym (length-append (framing us) (frame row)) ∙ ap length split ∙ length-take-le used room h in
      let stands : framing us ≡ take last room = sym (take_at (framing us) (frame row) last size) ∙ ap (take last) split
      ∙ take-take last used room (omega arith) in
      let there : row_at room last used ≡ row = sym (drop-take (last + 4) used room) ∙ ap (drop (last + 4)) (sym split)
      ∙ row-behind us row size in
      record {
        before = us;
        rows = rw there (ap or_none e.sound.is ∙ is);
        stands = stands;
        all = rw there all;
        low = omega (arith, length-frame row);
        keeps = rw there (record {
          bytes = subst Bytes (ap (drop (last + 4)) (sym split) ∙ row-behind us row size) (bytes_drop (last + 4) e.sound.bytes);
          sound = (or-none (rows_bad us) (row_bad row) (rw (is, bad-append us (row ∷ []), bad-one row) at e.sound.sound)).1;
        });
      }

  pub last_of : last < used → Last room used last
  last_of = last-in e.sound.rows refl

  -- a log whose last row starts nowhere before its end has no rows
  none_in : (rows : List (List ℕ)) → e.sound.rows ≡ rows → used ≤ last → (rows_of (take used room) ≡ []) × (used ≡ 0)
  unfolding framing
  none_in [] q l =
      let z : length (framing e.sound.rows) ≡ used = ap length whole ∙ length-take-le used room h in
      let o : length (framing e.sound.rows) ≡ 0 = rw q refl in
      (ap or_none e.sound.is ∙ q, omega arith)
  none_in (first ∷ rest) q l =
      let d = ending first rest in
      let us = d.before in
      let row = d.last in
      let is : e.sound.rows ≡ us ++ (row ∷ []) = q ∙ d.is in
      let size : length (framing us) ≡ last = rw (is, but_last_lem us row) at e.begins in
      let all : length (framing (us ++ (row ∷ []))) ≡ used = ap length (rw is at whole) ∙ length-take-le used room h in
      let sum : length (framing (us ++ (row ∷ []))) ≡ length (framing us) + length (frame row) =
      ap length (framing-append us (row ∷ []) ∙ ap (λ (l : List ℕ). framing us ++ l) (framing-one row)) ∙ length-append (framing us) (frame row) in
      absurd (omega (arith, length-frame row))

  pub none_of : used ≤ last → (rows_of (take used room) ≡ []) × (used ≡ 0)
  none_of = none_in e.sound.rows refl

-- ---- what the code has added

module _ {room room' : List ℕ} {used last window : ℕ} {c : Chord} {r : Length} where
  -- to the last row, which takes the chord
  pub adds-joined : (t : Last room used last) → used ≤ length room → {v : Bool} → not v ≡ false → v ≡ joins (row_at room last used) c.tick window
      → {first : Chord} → first ≡ chord_at (row_at room last used) 0 → PutsFrame room last (row_for first (some c)) r room'
      → AddsTo room (rows_of (take used room)) c window r room'
  adds-joined t h {v} n j q p =
      adds-behind t.before (omega (arith, t.low)) t.stands
      (ap (λ (l : List (List ℕ)). added l c window) t.rows ∙ added-joins t.before (row_at room last used) c window (sym j ∙ not-false v n)) (rw q at p)

  -- behind the last row, which does not
  pub adds-started : (t : Last room used last) → used ≤ length room → {v : Bool} → not v ≡ true → v ≡ joins (row_at room last used) c.tick window
      → PutsFrame room used (row_for c none) r room' → AddsTo room (rows_of (take used room)) c window r room'
  adds-started t h {v} n j p =
      adds-behind (t.before ++ (row_at room last used ∷ [])) h t.all
      (ap (λ (l : List (List ℕ)). added l c window) t.rows ∙ added-starts t.before (row_at room last used) c window (sym j ∙ not-true v n)) p

  -- in a log without rows
  pub adds-first : used ≤ length room → Ends (take used room) last → used ≤ last → PutsFrame room used (row_for c none) r room'
      → AddsTo room (rows_of (take used room)) c window r room'
  unfolding added framing
  adds-first h e l p =
      let z = none_of room used last h e l in
      adds-behind [] h (sym (ap (λ (n : ℕ). take n room) z.1)) (ap (λ (l : List (List ℕ)). added l c window) z.0) p
