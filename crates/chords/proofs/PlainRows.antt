-- A row whose words are as a log's rows have them may stand in a log: one chord with any word under the null, or two chords in either order.
-- Assumes nothing.
use mathlib.Core.Path.{◌≡◌, refl, sym, ap, ◌∙◌}
use mathlib.Core.Logic.{inl, ⊎_elim}
use mathlib.Core.Option.{none, some}
use mathlib.Core.List.{List, [], ◌∷◌, ◌++◌}
use Prim.Native.Nat.{ℕ, ◌+◌, ◌*◌, ◌/◌, ◌^◌, ◌≤◌}
use native.Mathlib.Omega.{arith}
use lib.Bits.{bit_or, or_add_and, and_le_l, and_le_r}
use lib.Dec.{eqb}
use lib.ListN.{length}
use borrow.Author.Tests.{eqb-true}
use Rattle.words.specs.Bytes.{Bytes, le, part}
use Rattle.words.proofs.Numbers.{le-num}
use Rattle.words.proofs.Parts.{length_part, bytes-part, part-add, part-whole}
use Rattle.schema.specs.Types.{ro}
use Rattle.schema.specs.Walk.{fields_of}
use Rattle.layout.specs.Tiles.{range, total}
use Rattle.layout.specs.Layout.{AllLay, Lays}
use Rattle.layout.proofs.Containers.{lays-content}
use Rattle.chords.specs.declared.Chord.{Chord}
use Rattle.chords.specs.Chords.{chord, Proper, schema, no_stroke, row_bad}
use Rattle.chords.specs.Plain.{word_at, StrokeAt, SeesStroke, TwoSlots}
use Rattle.chords.proofs.RowLaws.{computes, stroke_cell, stroke_ty, cell_for, stroke-fits, slotted, stroke-is, lay_for, number-reads}
use Rattle.chords.proofs.RowLaws.{Holds, lays-faultless, both-sound, lay-sound}

-- ---- two strokes of which the second lies first

abbrev crossed : Chord → Chord → List ℕ
crossed c d = le 8 0 ++ (le 8 (48 * 2 ^ 32 + 24) ++ (le 8 (24 * 2 ^ 32 + 24) ++ (slotted d ++ slotted c)))

stroke-lays : (c : Chord) → Proper c → Lays stroke_ty (stroke_cell c) (slotted c)
unfolding computes
stroke-lays c p = lays-content stroke_ty (stroke_cell c) (stroke-fits c p)

crossed-lays : (c d : Chord) → Proper c → Proper d → Lays (ro (fields_of schema)) (cell_for 0 c (some d)) (crossed c d)
unfolding computes AllLay total
crossed-lays c d p q = record {
  plain = refl;
  body = record {
    slots = le 8 (48 * 2 ^ 32 + 24) ++ le 8 (24 * 2 ^ 32 + 24);
    variable = slotted d ++ slotted c;
    ranges = range 24 24 ∷ range 48 24 ∷ [];
    whole = refl;
    children = record {
      slot = le 8 (48 * 2 ^ 32 + 24);
      left = le 8 (24 * 2 ^ 32 + 24);
      ranges = range 48 24 ∷ [];
      whole = refl;
      one = record {
        place = 48;
        own = slotted c;
        behind = [];
        lays = stroke-lays c p;
        slot = refl;
        stands = record { low = omega arith; high = omega arith; eight = refl; clear = tt };
        there = refl;
        more = refl;
      };
      others = record {
        slot = le 8 (24 * 2 ^ 32 + 24);
        left = [];
        ranges = range 24 24 ∷ range 48 24 ∷ [];
        whole = refl;
        one = record {
          place = 24;
          own = slotted d;
          behind = slotted c;
          lays = stroke-lays d q;
          slot = refl;
          stands = record { low = omega arith; high = omega arith; eight = refl; clear = (inl (omega arith), tt) };
          there = refl;
          more = refl;
        };
        others = (refl, refl);
      };
    };
    ends = refl;
  };
}

crossed-first : (c d : Chord) → Proper c → Holds (crossed c d) 0 c
unfolding computes no_stroke
crossed-first c d p = record { there = refl; tick = number-reads c.tick p.tick _ _; keys = number-reads c.keys p.keys _ _ }

crossed-second : (c d : Chord) → Proper d → Holds (crossed c d) 1 d
unfolding computes no_stroke
crossed-second c d q = record { there = refl; tick = number-reads d.tick q.tick _ _; keys = number-reads d.keys q.keys _ _ }

crossed-long : (c d : Chord) → length (crossed c d) ≡ 72
unfolding le
crossed-long c d = refl

crossed-sound : (c d : Chord) → Proper c → Proper d → row_bad (crossed c d) ≡ none
crossed-sound c d p q =
    let n = crossed-long c d in
    let f = lays-faultless (ro (fields_of schema)) (cell_for 0 c (some d)) (crossed c d) (crossed-lays c d p q) (omega arith) in
    both-sound (crossed c d) c d (omega arith) f (crossed-first c d p) (crossed-second c d q)

-- ---- the bytes that words say

-- the chord of the stroke at a byte
abbrev struck : List ℕ → ℕ → Chord
struck row at = chord (word_at row (at + 8)) (word_at row (at + 16))

struck-proper : (row : List ℕ) (at : ℕ) → StrokeAt row at → Proper (struck row at)
struck-proper row at s = record { tick = s.tick; keys = s.keys }

module _ (row : List ℕ) (hb : Bytes row) where
  word-is : (at : ℕ) → at + 8 ≤ length row → part row at 8 ≡ le 8 (word_at row at)
  unfolding word_at
  word-is at f = sym (rw (length_part row at 8 f) at (le-num (bytes-part at 8 hb)))

  word-said : (at x : ℕ) → at + 8 ≤ length row → word_at row at ≡ x → part row at 8 ≡ le 8 x
  word-said at x f e = word-is at f ∙ ap (le 8) e

  stroke-said : (at : ℕ) → at + 24 ≤ length row → StrokeAt row at → part row at 24 ≡ slotted (struck row at)
  stroke-said at f s =
      let e : at + 8 + 8 ≡ at + 16 = omega arith in
      part-add row at 8 16
      ∙ rw (
        part-add row (at + 8) 8 8,
        e,
        word-said at 0 (omega arith) s.none,
        word-is (at + 8) (omega arith),
        word-is (at + 16) (omega arith),
        stroke-is (struck row at) (struck-proper row at s),
      )

  -- three words and the rest
  row-split : (n : ℕ) → length row ≡ 8 + (8 + (8 + n)) → row ≡ part row 0 8 ++ (part row 8 8 ++ (part row 16 8 ++ part row 24 n))
  row-split n e =
      sym (part-whole row) ∙ ap (part row 0) e ∙ part-add row 0 8 (8 + (8 + n)) ∙ rw (part-add row 8 8 (8 + n), part-add row 16 8 n)

  pub one-sound : length row ≡ 48 → word_at row 0 ≡ 2 → word_at row 8 ≡ 24 * 2 ^ 32 + 24 → StrokeAt row 24 → row_bad row ≡ none
  one-sound n a b s =
      let e : row ≡ lay_for (word_at row 16) (struck row 24) none = row-split 24 n
      ∙ rw (
        word-said 0 2 (omega arith) a,
        word-said 8 (24 * 2 ^ 32 + 24) (omega arith) b,
        word-is 16 (omega arith),
        stroke-said 24 (omega arith) s,
      ) in
      ap row_bad e ∙ lay-sound (word_at row 16) (struck row 24) none (struck-proper row 24 s) tt

  two_said : (x y : ℕ) → length row ≡ 72 → word_at row 0 ≡ 0 → word_at row 8 ≡ x → word_at row 16 ≡ y → StrokeAt row 24 → StrokeAt row 48
      → row ≡ le 8 0 ++ (le 8 x ++ (le 8 y ++ (slotted (struck row 24) ++ slotted (struck row 48))))
  two_said x y n a b c s t =
      row-split 48 n
      ∙ rw (
        word-said 0 0 (omega arith) a,
        word-said 8 x (omega arith) b,
        word-said 16 y (omega arith) c,
        part-add row 24 24 24,
        stroke-said 24 (omega arith) s,
        stroke-said 48 (omega arith) t,
      )

  pub two-sound : {x y : ℕ} → length row ≡ 72 → word_at row 0 ≡ 0 → x ≡ word_at row 8 → y ≡ word_at row 16 → TwoSlots x y
      → StrokeAt row 24 → StrokeAt row 48 → row_bad row ≡ none
  two-sound n a b c o s t =
      let p = struck-proper row 24 s in
      let q = struck-proper row 48 t in
      ⊎_elim
      (λ e. ap row_bad (two_said _ _ n a (sym b ∙ e.0) (sym c ∙ e.1) s t) ∙ lay-sound 0 (struck row 24) (some (struck row 48)) p q)
      (λ e. ap row_bad (two_said _ _ n a (sym b ∙ e.0) (sym c ∙ e.1) s t) ∙ crossed-sound (struck row 48) (struck row 24) q p)
      o

-- ---- one test of three words

or-none : (a b : ℕ) → bit_or a b ≡ 0 → (a ≡ 0) × (b ≡ 0)
or-none a b e =
    let h = or_add_and a b in
    let l = and_le_l a b in
    let r = and_le_r a b in
    (omega arith, omega arith)

pub stroke-seen : (row : List ℕ) (at : ℕ) {x y z : ℕ} → x ≡ word_at row at → y ≡ word_at row (at + 8) → z ≡ word_at row (at + 16)
    → SeesStroke row at (eqb (bit_or (bit_or x (y / 2 ^ 32)) (z / 2 ^ 32)) 0)
stroke-seen row at {x} {y} {z} a b c = record {
  there = λ e.
      let o = or-none (bit_or x (y / 2 ^ 32)) (z / 2 ^ 32) (eqb-true _ 0 e) in
      let i = or-none x (y / 2 ^ 32) o.0 in
      record { none = sym a ∙ i.0; tick = omega arith; keys = omega arith };
  seen = λ s.
      let i : x ≡ 0 = a ∙ s.none in
      let k : y / 2 ^ 32 ≡ 0 = omega (arith, s.tick) in
      let l : z / 2 ^ 32 ≡ 0 = omega (arith, s.keys) in
      rw (i, k, l);
}
