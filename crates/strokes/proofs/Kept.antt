-- What holds of logs. Assumes nothing.
use Rattle.std.proofs.Common.{◌≡◌, ℕ, ◌+◌, ◌%◌, ◌^◌, ◌<◌, ◌≤◌, List, [], ◌∷◌, ◌++◌, length, get_or, take, sym, refl, ap, ◌∙◌, arith, length-append, length-take, get_or-take}
use mathlib.Core.Option.{Option, none, some}
use lib.ListN.{get_or-append}
use lib.Seq.{sets}
use Rattle.words.specs.Bytes.{Bytes}
use Rattle.words.proofs.Runs.{get_or-sets-in, get_or-sets-hi}
use Rattle.layout.specs.Setting.{◌or◌}
use Rattle.layout.specs.Entries.{row_long, layout_bad, takes, check_of}
use Rattle.layout.specs.Entries as E
use Rattle.batch.specs.Frames.{framing, framed}
use Rattle.batch.specs.Entries as B
use Rattle.batch.specs.Entries.{or_none, batch_bad}
use Rattle.batch.specs.Batches.{AllChecked, checked_none, checked_row}
use Rattle.batch.proofs.Batches.{batches}
use Rattle.layout.proofs.Entered.{or-none}
use Rattle.batch.proofs.Taken.{rows-of}
use Rattle.batch.proofs.Framing.{framing-append}
use Rattle.chords.specs.declared.Chord.{Chord}
use Rattle.chords.specs.Chords.{Proper, schema, nulls_bad, row_bad}
use Rattle.strokes.specs.Log.{chords_of, rows_bad, log_bad, gap, added}
use Rattle.strokes.specs.Entries.{add_of, added_of}
use Rattle.strokes.specs.Places.{but_last}
use Rattle.strokes.specs.Kept.{Appended, Kept}
use Rattle.chords.proofs.Readings.{schema-good}
use Rattle.chords.proofs.RowLaws.{row-writes}
use Rattle.strokes.proofs.Running.{gives, Grown, grown, grown-gives, run-rows, run-gives}

-- ---- the rows ahead of the last

-- us are the first of the rows
record Begins (us rows : List (List ℕ)) : Type 0 where
  pub others : List (List ℕ)
  pub is : rows ≡ us ++ others

behind : {us rows : List (List ℕ)} (row : List ℕ) → Begins us rows → Begins (row ∷ us) (row ∷ rows)
behind row b = record { others = b.others; is = ap (λ (l : List (List ℕ)). row ∷ l) b.is }

rows-begin : (rows : List (List ℕ)) → Begins (but_last rows) rows
unfolding but_last
rows-begin [] = record { others = []; is = refl }
rows-begin (row ∷ []) = record { others = row ∷ []; is = refl }
rows-begin (row ∷ (next ∷ rows)) = behind row (rows-begin (next ∷ rows))

added-begin : (rows : List (List ℕ)) (c : Chord) (window : ℕ) → Begins (but_last rows) (added rows c window)
unfolding but_last added
added-begin [] c window = record { others = _; is = refl }
added-begin (row ∷ []) c window = record { others = _; is = refl }
added-begin (row ∷ (next ∷ rows)) c window = behind row (added-begin (next ∷ rows) c window)

-- a byte of the first rows is the same in every log that begins with them
begun-at : {us rows : List (List ℕ)} → Begins us rows → (i : ℕ) → i < length (framing us) → get_or (framing rows) i 0 ≡ get_or (framing us) i 0
begun-at {us} {rows} b i h =
    ap (λ (l : List (List ℕ)). get_or (framing l) i 0) b.is ∙ ap (λ (l : List ℕ). get_or l i 0) (framing-append us b.others)
    ∙ get_or-append (framing us) (framing b.others) 0 i h

begun-long : {us rows : List (List ℕ)} → Begins us rows → length (framing us) ≤ length (framing rows)
begun-long {us} {rows} b =
    let e : length (framing rows) ≡ length (framing us) + length (framing b.others) =
    ap (λ (l : List (List ℕ)). length (framing l)) b.is ∙ ap length (framing-append us b.others) ∙ length-append (framing us) (framing b.others) in
    omega arith

set_first : (b v : List ℕ) → length v ≤ length b → (i : ℕ) → i < length v → get_or (sets b 0 v) i 0 ≡ get_or v i 0
set_first b v h i l = let e : i ≡ 0 + i = omega arith in ap (λ (k : ℕ). get_or (sets b 0 v) k 0) e ∙ get_or-sets-in b 0 v (omega arith) i l

module _ {room : List ℕ} {used : ℕ} {c : Chord} {window n : ℕ} (g : Grown room used c window n) where
  ahead : (i : ℕ) → i < length (framing (but_last g.rows)) → get_or (added_of room used c window) i 0 ≡ get_or room i 0
  ahead i h =
      let u = framing (added g.rows c window) in
      let new = added-begin g.rows c window in
      let old = rows-begin g.rows in
      let long = begun-long new in
      let short = begun-long old in
      let most : length (take used room) ≤ used = simp length-take (omega arith) in
      let fits : i < used = omega (arith, ap length g.whole) in
      ap (λ (l : List ℕ). get_or l i 0) g.now ∙ set_first room u (omega (arith, g.long, g.held)) i (omega arith)
      ∙ begun-at new i h ∙ sym (begun-at old i h) ∙ ap (λ (l : List ℕ). get_or l i 0) g.whole ∙ get_or-take used room i 0 fits

  after : (i : ℕ) → n ≤ i → get_or (added_of room used c window) i 0 ≡ get_or room i 0
  after i h =
      let u = framing (added g.rows c window) in
      ap (λ (l : List ℕ). get_or l i 0) g.now ∙ get_or-sets-hi room 0 u (omega (arith, g.long, g.held)) i (omega (arith, g.long))

appended : (room : List ℕ) (used : ℕ) (c : Chord) (window n : ℕ) → Bytes room → Proper c → add_of room used c window ≡ takes n
    → Appended room used c n (added_of room used c window)
appended room used c window n b p e =
    let g = grown room used c window n b e in
    record {
      before = chords_of g.rows;
      was = gives (take used room) g.is g.sound;
      now = grown-gives room used c window n b e p;
      ahead = λ i h. ahead g i (rw g.is at h);
      behind = after g;
    }

-- ---- a log is a batch

row-checked : (row : List ℕ) → row_bad row ≡ none → check_of schema row ≡ E.done
unfolding row_bad check_of
row-checked row e =
    let a = or-none (row_long row) (layout_bad schema row or nulls_bad row) e in
    let b = or-none (layout_bad schema row) (nulls_bad row) a.1 in
    rw (schema-good, a.0, b.0)

all-checked : (rows : List (List ℕ)) → rows_bad rows ≡ none → AllChecked schema rows
unfolding rows_bad
all-checked [] e = checked_none
all-checked (row ∷ rows) e = let q = or-none (row_bad row) (rows_bad rows) e in checked_row (row-checked row q.0) (all-checked rows q.1)

batch-done : (log : List ℕ) → log_bad (framed log) ≡ none → B.check_of schema log ≡ B.done
batch-done log e =
    let q = or-none (batch_bad (framed log)) (rows_bad (or_none (framed log))) e in
    let r = rows-of (framed log) q.0 in
    let sound : rows_bad r.rows ≡ none = sym (ap (λ (m : Option (List (List ℕ))). rows_bad (or_none m)) r.is) ∙ q.1 in
    ((batches schema).accepted log).1 (record { schema = schema-good; rows = r.rows; is = r.is; checked = all-checked r.rows sound })

-- ---- gaps

gap_below : (later earlier : ℕ) → gap later earlier < 2 ^ 32
unfolding gap
gap_below later earlier = omega arith

gap_back : (later earlier : ℕ) → later < 2 ^ 32 → earlier < 2 ^ 32 → (gap later earlier + earlier) % 2 ^ 32 ≡ later
unfolding gap
gap_back later earlier l e = omega arith

pub kept : Kept
kept = record {
  run = λ room gs room' used' b ps r. run-gives b ps r;
  rows = λ room gs room' used' b ps r. run-rows b ps r;
  writes_one = λ c p. row-writes c none p tt;
  writes-two = λ c d p q. row-writes c (some d) p q;
  adds = appended;
  batch = batch-done;
  gap_below = gap_below;
  gap_back = gap_back;
}
