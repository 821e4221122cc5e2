-- Which rows a log may have, and the chords of one, as the code asks the row's bytes. Assumes nothing.
use mathlib.Core.Path.{◌≡◌, refl, sym, ap, ap₂, ◌∙◌}
use mathlib.Core.Bool.{Bool, true, false, ◌||◌}
use mathlib.Core.Option.{Option, none, some}
use mathlib.Core.List.{List, [], ◌∷◌}
use Prim.Native.Nat.{ℕ, ◌+◌, ◌*◌, ◌≤◌, ◌<◌}
use native.Mathlib.Omega.{arith}
use lib.ListN.{length}
use Rattle.words.specs.Bytes.{Bytes, num, part}
use Rattle.words.specs.Bits.{bit}
use Rattle.words.specs.Reads.{Reads}
use Rattle.words.specs.Slots.{Offset}
use Rattle.schema.specs.Marks.{types}
use Rattle.schema.specs.Types.{fixed_place, count}
use Rattle.table.specs.Words.{lower, line_word, word, place_in, count_in, bytes_in}
use Rattle.table.specs.Tables.{many, manys, entries, entries_all, table_of, schema_of, Table}
use Rattle.layout.specs.Refusals.{Refusal, broken_at}
use Rattle.layout.specs.Setting.{◌or◌}
use Rattle.layout.specs.Entries.{done, refused, verdict, row_long, layout_bad, check_of, read_of}
use Rattle.chords.specs.Chords.{schema, chord, bits_of, no_stroke, no_number, stroke_start, chord_at, null_bad, nulls_bad, row_bad}
use Rattle.chords.specs.Places.{Checked, Keeps, lacks}
use Rattle.chords.proofs.Readings.{fields-are, start_in, no-stroke, no-numbers, Stroke, stroke, schema-good, keeps-checked, keeps-nulls}

-- ---- the constant table

abbrev table : List ℕ
table =
    0x1C01021B0006F72 ∷ 0x1002022B0006F72 ∷ 0xC03003311F3469 ∷ 0x1004003311F3469 ∷ 0x1C05022B0006F72 ∷ 0x1806003311F3469 ∷ 0x1C07003311F3469 ∷ []

-- to unfold this is to unfold what a table is read by
computes : Unit {0}
unfolding schema types fixed_place count lower line_word word place_in count_in bytes_in many manys entries entries_all table_of schema_of
computes = tt

table-says : schema_of table ≡ schema
unfolding computes
table-says = refl

table-of : table ≡ table_of schema
unfolding computes
table-of = rw fields-are

-- it is the table of the schema
pub table_is : Table table
table_is = record { accepted = rw table-says schema-good; given = rw table-says table-of }

-- ---- nulls

-- a number of stroke i is null
abbrev stroke_bad : List ℕ → ℕ → Option Refusal
stroke_bad row i = null_bad (no_number row i 0) (stroke_start row i) or null_bad (no_number row i 1) (stroke_start row i)

pub or_assoc : (a b c : Option Refusal) → a or (b or c) ≡ (a or b) or c
or_assoc none b c = refl
or_assoc (some r) b c = refl

either-null : (a b : Bool) (p : ℕ) → null_bad a p or null_bad b p ≡ null_bad (a || b) p
either-null true b p = refl
either-null false b p = refl

by-strokes : (row : List ℕ) → nulls_bad row ≡ null_bad (no_stroke row 0) 0 or (stroke_bad row 0 or stroke_bad row 1)
unfolding nulls_bad
by-strokes row =
    ap (λ (r : Option Refusal). null_bad (no_stroke row 0) 0 or r)
    (or_assoc (null_bad (no_number row 0 0) (stroke_start row 0)) (null_bad (no_number row 0 1) (stroke_start row 0)) (stroke_bad row 1))

-- a stroke that is null has no null number; another has one where its bitmap says so
null-fine : {row : List ℕ} → Checked row → (i : ℕ) → i < 2 → bit row 0 i ≡ true → stroke_bad row i ≡ none
null-fine k i h e = rw (no-numbers k i 0 h (omega arith) e, no-numbers k i 1 h (omega arith) e)

stroke-bad : {row : List ℕ} → Checked row → (i : ℕ) → i < 2 → bit row 0 i ≡ false → {at : ℕ} → Offset row (8 + 8 * i) at
    → stroke_bad row i ≡ null_bad (lacks row at) at
stroke-bad {row} k i h e {at} o =
    let s = stroke k i h e in
    rw (o.is, s.nulls 0 (omega arith), s.nulls 1 (omega arith), s.starts)
    (either-null (bit row (start_in row i) 0) (bit row (start_in row i) 1) (start_in row i))

-- a stroke's bitmap is in the row
pub begins-in : {row : List ℕ} → Checked row → (i : ℕ) → i < 2 → bit row 0 i ≡ false → {at : ℕ} → Offset row (8 + 8 * i) at → at < length row
begins-in k i h e o = rw o.is (omega (arith, (stroke k i h e).room))

-- Only the second stroke may be null.
module _ {row : List ℕ} (k : Checked row) where
  pub first-null : bit row 0 0 ≡ true → refused (broken_at 0) ≡ verdict (nulls_bad row)
  first-null e = rw (by-strokes row, no-stroke k 0 (omega arith), e)

  module _ (e : bit row 0 0 ≡ false) {at : ℕ} (o : Offset row 8 at) where
    after_first : nulls_bad row ≡ null_bad (lacks row at) at or stroke_bad row 1
    after_first = by-strokes row ∙ rw (no-stroke k 0 (omega arith), e, stroke-bad k 0 (omega arith) e o)

    pub first-lacks : lacks row at ≡ true → refused (broken_at at) ≡ verdict (nulls_bad row)
    first-lacks f = rw (after_first, f)

    module _ (f : lacks row at ≡ false) where
      pub second-null : bit row 0 1 ≡ true → done ≡ verdict (nulls_bad row)
      second-null g = rw (after_first, f, null-fine k 1 (omega arith) g)

      module _ (g : bit row 0 1 ≡ false) {at' : ℕ} (o' : Offset row 16 at') where
        after-second : nulls_bad row ≡ null_bad (lacks row at') at'
        after-second = after_first ∙ rw (f, stroke-bad k 1 (omega arith) g o')

        pub second-lacks : lacks row at' ≡ true → refused (broken_at at') ≡ verdict (nulls_bad row)
        second-lacks n = rw (after-second, n)

        pub none-lacks : lacks row at' ≡ false → done ≡ verdict (nulls_bad row)
        none-lacks n = rw (after-second, n)

-- ---- a row

judged-on : (a b : Option Refusal) → verdict a ≡ done → verdict b ≡ verdict (a or b)
judged-on none b e = refl
judged-on (some r) b e = let z : ◌≡◌ {A = ℕ} 0 1 = cc in absurd (omega arith)

judged-off : (a b : Option Refusal) (r : Refusal) → verdict a ≡ refused r → refused r ≡ verdict (a or b)
judged-off none b r e = let z : ◌≡◌ {A = ℕ} 0 1 = cc in absurd (omega arith)
judged-off (some n) b r e = sym e

-- a check by the table is one of the row alone
check-is : (row : List ℕ) → check_of (schema_of table) row ≡ verdict (row_long row or layout_bad schema row)
unfolding check_of
check-is row = rw (table-says, schema-good)

row_is : (row : List ℕ) → (row_long row or layout_bad schema row) or nulls_bad row ≡ row_bad row
unfolding row_bad
row_is row = sym (or_assoc (row_long row) (layout_bad schema row) (nulls_bad row))

module _ (row : List ℕ) where
  pub done-checked : done ≡ check_of (schema_of table) row → Bytes row → Checked row
  done-checked e hb = record { bytes = hb; done = rw table-says at (sym e) }

  pub done-nulls : done ≡ check_of (schema_of table) row → verdict (nulls_bad row) ≡ verdict (row_bad row)
  done-nulls e = judged-on (row_long row or layout_bad schema row) (nulls_bad row) (sym (check-is row) ∙ sym e) ∙ ap verdict (row_is row)

  pub refused-row : (n : Refusal) → refused n ≡ check_of (schema_of table) row → refused n ≡ verdict (row_bad row)
  refused-row n e =
      judged-off (row_long row or layout_bad schema row) (nulls_bad row) n (sym (check-is row) ∙ sym e)
      ∙ ap verdict (row_is row)

-- ---- the chords of a row that a log may have

module _ {row : List ℕ} (k : Keeps row) (i : ℕ) (h : i < 2) (e : no_stroke row i ≡ false) where
  kept : Stroke row i
  kept = stroke (keeps-checked k) i h (sym (no-stroke (keeps-checked k) i h) ∙ e)

  number_is : (j : ℕ) → j < 2 → bits_of (read_of schema row (i ∷ j ∷ [])) ≡ num (part row (start_in row i + (8 + 8 * j)) 4)
  number_is j l = kept.numbers j l (sym (kept.nulls j l) ∙ (keeps-nulls k).numbers i j h l)

  pub stroke-room : {at : ℕ} → Offset row (8 + 8 * i) at → at + 24 ≤ length row
  stroke-room o = rw o.is kept.room

  pub chord-is : {at t m : ℕ} → Offset row (8 + 8 * i) at → Reads row (at + 8) 4 t → Reads row (at + 16) 4 m → chord t m ≡ chord_at row i
  unfolding chord_at
  chord-is {at} {t} {m} o p q =
      ap₂ chord (rw o.is at p.is ∙ sym (number_is 0 (omega arith))) (rw o.is at q.is ∙ sym (number_is 1 (omega arith)))
