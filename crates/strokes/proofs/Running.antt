-- A run of chords from the empty log: the rows it made, and that reading gives the chords again. Assumes nothing.
use Rattle.std.proofs.Common.{◌≡◌, ℕ, ◌+◌, ◌*◌, ◌<◌, ◌≤◌, Bool, true, false, cond, leb, ◌⊎◌, List, [], ◌∷◌, ◌++◌, length, take, drop, sym, refl, ap, ◌∙◌, subst, inl, inr, append_assoc, append-nil, arith, take_at, le-ltb, lt-ltb, le-leb, leb-true}
use mathlib.Core.Option.{Option, none, some, none-ne-some}
use lib.Seq.{sets, sets-eq}
use Rattle.words.specs.Bytes.{Bytes}
use Rattle.words.proofs.Numbers.{bytes_take}
use Rattle.words.proofs.Parts.{lt-or-le}
use Rattle.words.proofs.Runs.{bytes-sets}
use Rattle.layout.specs.Refusals as N
use Rattle.layout.specs.Setting.{◌or◌}
use Rattle.layout.specs.Entries.{Sized, takes, refused_with, filled}
use Rattle.batch.specs.Frames.{framing, Framable, framed}
use Rattle.batch.specs.Entries.{or_none, batch_bad, lent_rows}
use Rattle.layout.proofs.Entered.{or-none}
use Rattle.batch.proofs.Taken.{rows-of}
use Rattle.batch.proofs.Framing.{framed-nil, framed-back, framed-forth}
use Rattle.batch.proofs.Added.{lent_none, lent_is}
use Rattle.chords.specs.declared.Chord.{Chord}
use Rattle.chords.specs.Chords.{chord, Proper, row_for, chord_at}
use Rattle.strokes.specs.Log.{chords_of, rows_bad, log_bad, joins, added, window_bad}
use Rattle.strokes.specs.Entries.{held_after, log_with, add_of, added_of, numbers_of, numbers_in, read_of, read_into, chord_of}
use Rattle.strokes.specs.Entries as S
use Rattle.strokes.specs.Kept.{Given, chords_of_all, AllProper, nothing, another, Run, stay, next, turned, Gives, Made, no_rows, one, two, MadeOf}
use Rattle.chords.proofs.RowLaws.{row-full, row_first}
use Rattle.strokes.proofs.Listed.{numbers-long}
use Rattle.strokes.proofs.Demanded.{demand1}
use Rattle.strokes.proofs.Growing.{AllKeep, keep_none, keep_row, all_keep, all-bytes, all_sound, joins-by, chords-one, chords-two, new-keeps}
use Rattle.strokes.proofs.Growing.{Holding, added-holds}

-- ---- what reading an accepted log gives

-- a log that can be taken apart, and is accepted
module _ (log : List ℕ) {rows : List (List ℕ)} (e : framed log ≡ some rows) (k : rows_bad rows ≡ none) where
  numbers-in : length (numbers_in log) ≡ 2 * length (chords_of rows)
  numbers-in = rw e (numbers-long (chords_of rows))

  read_is : (room : ℕ) → 2 * length (chords_of rows) ≤ room → read_of log room ≡ takes (2 * length (chords_of rows))
  unfolding read_of
  read_is room h = rw (numbers-in, e, k, le-leb (2 * length (chords_of rows)) room h)

  numbers-at : (out : List ℕ) → 2 * length (chords_of rows) ≤ length out
      → sets out 0 (numbers_of (chords_of rows)) ≡ numbers_of (chords_of rows) ++ drop (2 * length (chords_of rows)) out
  numbers-at out h =
      let long : 0 + length (numbers_of (chords_of rows)) ≡ 2 * length (chords_of rows) = omega (arith, numbers-long (chords_of rows)) in
      sets-eq (numbers_of (chords_of rows)) out 0 (omega arith) ∙ ap (λ (k : ℕ). numbers_of (chords_of rows) ++ drop k out) long

  pub gives : Gives log (chords_of rows)
  unfolding read_into chord_of
  gives = record {
    all = λ out h. read_is (length out) h;
    numbers = λ out h. rw (read_is (length out) h, e) (numbers-at out h);
    each = λ n h. rw (e, k, lt-ltb n (length (chords_of rows)) h);
    past = λ n h. rw (e, k, le-ltb n (length (chords_of rows)) h);
  }

-- ---- what an accepted chord was added to

-- the log was accepted; the room then begins with the log that has the chord, which takes n bytes
pub record Grown (room : List ℕ) (used : ℕ) (c : Chord) (window n : ℕ) : Type 0 where
  pub rows : List (List ℕ)
  pub is : framed (take used room) ≡ some rows
  pub sound : rows_bad rows ≡ none
  pub keep : AllKeep rows
  pub fits : Framable rows
  pub whole : framing rows ≡ take used room
  pub long : length (framing (added rows c window)) ≡ n
  pub held : n ≤ length room
  pub now : added_of room used c window ≡ sets room 0 (framing (added rows c window))

held_by : (m : Option N.Refusal) (need room n : ℕ) → held_after m need room ≡ takes n → (m ≡ none) × (need ≡ n) × (need ≤ room)
held_by (some r) need room n e = let z : ◌≡◌ {A = ℕ} 0 1 = cc in absurd (omega arith)
held_by none need room n e = go (leb need room) refl
  where
    go : (v : Bool) → leb need room ≡ v → (◌≡◌ {A = Option N.Refusal} none none) × (need ≡ n) × (need ≤ room)
    go true q = let z : takes need ≡ takes n = rw q at e in (refl, cc, leb-true need room q)
    go false q = let z : refused_with (N.numbered 11) 0 ≡ takes n = rw q at e in let o : ◌≡◌ {A = ℕ} 0 1 = cc in absurd (omega arith)

-- a room that lends rows has the bytes that it says
lent-within : (room : List ℕ) (used : ℕ) {rows : List (List ℕ)} → lent_rows room used ≡ some rows → used ≤ length room
lent-within room used e = go (lt-or-le (length room) used)
  where
    go : (length room < used) ⊎ (used ≤ length room) → used ≤ length room
    go (inl l) = let z : ◌≡◌ {A = Option (List (List ℕ))} none (some _) = sym (lent_none room used l) ∙ e in absurd (none-ne-some _ z)
    go (inr l) = l

module _ (room : List ℕ) (used : ℕ) (c : Chord) (window n : ℕ) (b : Bytes room) (e : add_of room used c window ≡ takes n) where
  pub grown : Grown room used c window n
  unfolding add_of added_of log_with
  grown =
      let h = held_by (log_bad (lent_rows room used) or window_bad window) (length (log_with room used c window)) (length room) n e in
      let q = or-none (log_bad (lent_rows room used)) (window_bad window) h.0 in
      let j = or-none (batch_bad (lent_rows room used)) (rows_bad (or_none (lent_rows room used))) q.0 in
      let r = rows-of (lent_rows room used) j.0 in
      let w = lent-within room used r.is in
      let is : framed (take used room) ≡ some r.rows = sym (lent_is room used w) ∙ r.is in
      let sound : rows_bad r.rows ≡ none = sym (ap (λ (m : Option (List (List ℕ))). rows_bad (or_none m)) r.is) ∙ j.1 in
      let a = framed-forth (bytes_take used b) is in
      let log : log_with room used c window ≡ framing (added r.rows c window) =
      ap (λ (m : Option (List (List ℕ))). framing (added (or_none m) c window)) r.is in
      record {
        rows = r.rows;
        is = is;
        sound = sound;
        keep = all_keep r.rows (rw a.whole (bytes_take used b)) sound;
        fits = a.fits;
        whole = a.whole;
        long = sym (ap length log) ∙ h.1;
        held = omega (arith, h.1, h.2);
        now = ap (λ (z : Sized). filled z (log_with room used c window) room) e ∙ ap (sets room 0) log;
      }

  -- its first n bytes are the rows with the chord
  new-log : take n (added_of room used c window) ≡ framing (added grown.rows c window)
  new-log =
      let g = grown in
      let u = framing (added g.rows c window) in
      ap (take n) (g.now ∙ sets-eq u room 0 (omega (arith, g.long, g.held))) ∙ take_at u _ n g.long

  module _ (p : Proper c) where
    held_then : Holding (added grown.rows c window) (chords_of grown.rows ++ (c ∷ []))
    held_then = added-holds c window p grown.keep grown.fits

    pub grown-rows : framed (take n (added_of room used c window)) ≡ some (added grown.rows c window)
    grown-rows = ap framed new-log ∙ framed-back held_then.fits

    pub grown-bytes : Bytes (added_of room used c window)
    grown-bytes = rw grown.now (bytes-sets 0 b (all-bytes held_then.keep))

    pub grown-gives : Gives (take n (added_of room used c window)) (chords_of grown.rows ++ (c ∷ []))
    grown-gives =
        subst (Gives (take n (added_of room used c window))) held_then.chords
        (gives (take n (added_of room used c window)) grown-rows (all_sound held_then.keep))

-- ---- the rows that a run made

-- another row is behind the first where there are more chords
added-on : {g : Given} {gs : List Given} {rows : List (List ℕ)} (row : List ℕ) (c : Chord) (window : ℕ) → Made (g ∷ gs) rows
    → added (row ∷ rows) c window ≡ row ∷ added rows c window
unfolding added
added-on row c window (one m) = refl
added-on row c window (two h m) = refl

full-row : (c d : Chord) → Proper c → Proper d → (tick window : ℕ) → joins (row_for c (some d)) tick window ≡ false
unfolding joins
full-row c d p q tick window = rw (row-full c d p q)

made-grows : {gs : List Given} {rows : List (List ℕ)} (g : Given) → AllProper gs → Made gs rows → Made (gs ++ (g ∷ [])) (added rows g.chord g.window)
unfolding added
made-grows g nothing no_rows = one no_rows
made-grows g (another {g = f} p nothing) (one no_rows) = go (joins (row_for f.chord none) g.chord.tick g.window) refl
  where
    go : (v : Bool) → joins (row_for f.chord none) g.chord.tick g.window ≡ v
        → Made (f ∷ g ∷ []) (cond v (row_for (chord_at (row_for f.chord none) 0) (some g.chord) ∷ []) (row_for f.chord none ∷ row_for g.chord none ∷ []))
    go true e =
        let j = joins-by (row_for f.chord none) g.chord g.window e in
        rw (row_first f.chord none p tt) (two (rw (row_first f.chord none p tt) at j.near) no_rows)
    go false e = one (one no_rows)
made-grows g (another {g = f} p (another q ps)) (one m) =
    rw (added-on (row_for f.chord none) g.chord g.window m) (one (made-grows g (another q ps) m))
made-grows g (another {g = f} p (another {g = h} q nothing)) (two l no_rows) =
    rw (full-row f.chord h.chord p q g.chord.tick g.window) (two l (one no_rows))
made-grows g (another {g = f} p (another {g = h} q (another r ps))) (two l m) =
    rw (added-on (row_for f.chord (some h.chord)) g.chord g.window m) (two l (made-grows g (another r ps) m))

made-chords : {gs : List Given} {rows : List (List ℕ)} → AllProper gs → Made gs rows → chords_of rows ≡ chords_of_all gs
unfolding chords_of
made-chords nothing no_rows = refl
made-chords (another {g = f} p ps) (one m) = rw (chords-one f.chord p) (ap (λ (cs : List Chord). f.chord ∷ cs) (made-chords ps m))
made-chords (another {g = f} p (another {g = h} q ps)) (two l m) =
    rw (chords-two f.chord h.chord p q) (ap (λ (cs : List Chord). f.chord ∷ h.chord ∷ cs) (made-chords ps m))

made-keep : {gs : List Given} {rows : List (List ℕ)} → AllProper gs → Made gs rows → AllKeep rows
made-keep nothing no_rows = keep_none
made-keep (another {g = f} p ps) (one m) = keep_row (new-keeps f.chord none p tt) (made-keep ps m)
made-keep (another {g = f} p (another {g = h} q ps)) (two l m) = keep_row (new-keeps f.chord (some h.chord) p q) (made-keep ps m)

proper-more : {gs : List Given} (g : Given) → AllProper gs → Proper g.chord → AllProper (gs ++ (g ∷ []))
proper-more g nothing p = another p nothing
proper-more g (another q qs) p = another q (proper-more g qs p)

-- ---- the run

-- a log that a run made, in its room
record Stage (room : List ℕ) (used : ℕ) (gs : List Given) : Type 0 where
  pub bytes : Bytes room
  pub proper : AllProper gs
  pub log : MadeOf (take used room) gs

stage-next : {room : List ℕ} {used n : ℕ} {gs : List Given} (g : Given) → Stage room used gs → Proper g.chord
    → add_of room used g.chord g.window ≡ takes n → Stage (added_of room used g.chord g.window) n (gs ++ (g ∷ []))
stage-next {room} {used} {n} {gs} g s p e =
    let w = grown room used g.chord g.window n s.bytes e in
    let same : some w.rows ≡ some s.log.rows = sym w.is ∙ s.log.is in
    let rows : w.rows ≡ s.log.rows = cc in
    record {
      bytes = grown-bytes room used g.chord g.window n s.bytes e p;
      proper = proper-more g s.proper p;
      log = record {
        rows = added w.rows g.chord g.window;
        is = grown-rows room used g.chord g.window n s.bytes e p;
        made = rw rows (made-grows g s.proper s.log.made);
      };
    }

run-stage : {room room' : List ℕ} {used used' : ℕ} {fs gs : List Given} → Stage room used fs → AllProper gs → Run room used gs room' used'
    → Stage room' used' (fs ++ gs)
run-stage {fs = fs} s ps stay = subst (Stage _ _) (sym (append-nil fs)) s
run-stage {fs = fs} s (another p ps) (next {g = g} {gs = gs} e r) =
    subst (Stage _ _) (append_assoc fs (g ∷ []) gs) (run-stage (stage-next g s p e) ps r)
run-stage {room} {used = used} {fs = fs} s ps (turned g e r) =
    run-stage (subst (λ (u : List ℕ). Stage u used fs) (sym (demand1.add-leaves room used g.chord g.window _ _ e)) s) ps r

start : {room : List ℕ} → Bytes room → Stage room 0 []
start b = record { bytes = b; proper = nothing; log = record { rows = []; is = framed-nil; made = no_rows } }

pub run-rows : {room room' : List ℕ} {gs : List Given} {used' : ℕ} → Bytes room → AllProper gs → Run room 0 gs room' used' → MadeOf (take used' room') gs
run-rows b ps r = (run-stage (start b) ps r).log

pub run-gives : {room room' : List ℕ} {gs : List Given} {used' : ℕ} → Bytes room → AllProper gs → Run room 0 gs room' used'
    → Gives (take used' room') (chords_of_all gs)
run-gives {room' = room'} {used' = used'} b ps r =
    let m = run-rows b ps r in
    subst (Gives (take used' room')) (made-chords ps m.made) (gives (take used' room') m.is (all_sound (made-keep ps m.made)))
