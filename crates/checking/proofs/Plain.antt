-- A struct of fewer than 64 fields, all of them leaves, whose values stand in the order of their slots: its bitmap is one word, and the
-- loop over its fields never moves its cursor. Assumes nothing.
use mathlib.Core.Path.{◌≡◌, refl, sym, ap, ◌∙◌, subst}
use mathlib.Core.Bool.{Bool, true, false, not}
use mathlib.Core.List.{List}
use Prim.Native.Nat.{ℕ, ◌+◌, ◌*◌, ◌-◌, ◌/◌, ◌^◌, ◌≤◌, ◌<◌}
use native.Mathlib.Decide.{ℕ_discrete}
use native.Mathlib.Omega.{arith}
use mir.Val.{Fits}
use mir.Syntax.{w64}
use lib.Bits.{bit_and}
use lib.Dec.{eqb, ltb}
use lib.ListN.{length}
use borrow.Author.Tests.{eq-eqb, ne_eqb, not-false}
use Rattle.words.proofs.Powers.{mask_is, eights}
use Rattle.words.specs.Bytes.{Bytes, num, pad, bitmap, part}
use Rattle.words.specs.Bits.{bit_of, bit}
use Rattle.words.specs.Reads.{Reads}
use Rattle.words.specs.Slots.{Offset, Size}
use Rattle.words.proofs.BitLaws.{bit-num}
use Rattle.words.proofs.Turns.{shift-test}
use Rattle.schema.specs.Types.{ro, fixed_at, text_at}
use Rattle.table.specs.Words.{place_in, top_in}
use Rattle.table.specs.Tables.{EntryAt, types_of}
use Rattle.checking.specs.Sound.{fault_of}
use Rattle.spelling.specs.Spelling.{Padded, Spelling}
use Rattle.checking.specs.Room.{Fields, FieldRoom, field_good}
use Rattle.checking.proofs.Fields.{field-whole, field-above, above-shift}
use Rattle.checking.proofs.Loops.{fields, At, loop-null, loop-plain}
use Rattle.checking.proofs.Cursor.{Here, here-next}
use Rattle.checking.proofs.Values.{place-fits}
use Rattle.checking.proofs.StructLoops.{FieldAt, fields-whole, leaves-start, field-stands, one_on}
use Rattle.checking.proofs.StructLoops.{reached-vary, reached-text, reached-leaf, leaf_room, leaf-passes}

-- before field i, whose entry stands i places behind the first one's
pub record PlainAt (t : List ℕ) (first d n : ℕ) (b : List ℕ) (nulls i cur : ℕ) : Type 0 where
  pub given : Fields t first n d b
  pub some : 1 ≤ n
  pub few : n < 64
  pub word : Reads b 0 8 nulls
  pub past : nulls / 2 ^ n ≡ 0
  pub field : FieldAt t first d n b 8 (8 + 8 * n) (first + i) i (8 + 8 * i) cur n 0 0

-- ---- where the loop begins

module _ {t : List ℕ} {first n d : ℕ} {b : List ℕ} (f : Fields t first n d b) (some : 1 ≤ n) (few : n < 64) where
  pub plain-add : Fits w64 (8 + 8 * n)
  plain-add = omega arith

  module _ (room : 8 + 8 * n ≤ length b) where
    pub plain_word : 8 ≤ length b
    plain_word = omega arith

    pub plain-start : bit_and (length b) 7 ≡ 0 → Bytes b → {nulls : ℕ} → Reads b 0 8 nulls → nulls / 2 ^ n ≡ 0
        → PlainAt t first d n b nulls 0 (8 + 8 * n)
    plain-start mask hb r z = record {
      given = f;
      some = some;
      few = few;
      word = r;
      past = z;
      field = leaves-start
          (record {
            table = f.table;
            typed = f.typed;
            high = f.high;
            slots = record { small = f.small; whole = eights (length b) mask; room = omega arith };
          })
          (omega arith) hb;
    }

module _ {t : List ℕ} {first d n : ℕ} {b : List ℕ} {nulls i cur : ℕ} (a : PlainAt t first d n b nulls i cur) where
  -- ---- where it ends

  one_word : 8 ≡ bitmap n
  one_word = omega (arith, a.some, a.few)

  -- no bit is set past the fields' own
  clear : eqb (nulls / 2 ^ n) 0 ≡ ltb (num (part b (8 - bitmap n) (bitmap n))) (2 ^ n)
  clear = shift-test nulls n ∙ rw (← one_word) (ap (λ (x : ℕ). ltb x (2 ^ n)) a.word.is)

  pub plain-whole : n ≤ i → eqb cur (length b) ≡ true → 0 ≡ fault_of (ro (types_of t first d n)) b
  plain-whole over e =
      fields-whole a.given one_word (mask_is (length b) 3 ∙ a.field.state.fixed.whole)
      (omega (arith, a.field.state.fixed.room)) clear (rw (eq-eqb (nulls / 2 ^ n) 0 a.past)) (loop-plain a.field.state over e)

  -- ---- its body

  module _ (l : i < n) where
    pub plain-place : Fits w64 (first + i)
    plain-place = place-fits (field-stands a.field l)

    pub plain-shift : i < 64
    plain-shift = omega (arith, a.few)

    pub plain-slot-mul : Fits w64 (8 * i)
    plain-slot-mul = omega (arith, a.few)

    pub plain-slot : Fits w64 (8 + 8 * i)
    plain-slot = omega (arith, a.few)

    -- a value's padding ends behind the bitmap, and in the struct, which is whole units
    module _ {s to : ℕ} (size : Size b (8 + 8 * i) s) (e : to ≡ pad (cur + s)) where
      pub plain-behind : 8 ≤ to
      plain-behind = omega (arith, a.field.state.sum)

      pub plain-within : cur + s ≤ length b → to ≤ length b
      plain-within h = omega (arith, a.field.state.fixed.whole)

      pub plain-padded : cur + s ≤ length b → Padded b cur (cur + s) to
      plain-padded h = record { from = omega arith; pad = omega arith; word = plain-behind; room = plain-within h }

    -- the field's bit, as the word has it
    bit_is : bit b 0 i ≡ eqb (bit_and (nulls / 2 ^ i) 1) 1
    bit_is =
        sym (bit-num 0 8 i a.field.state.fixed.bytes (omega (arith, plain-shift)))
        ∙ ap (λ (x : ℕ). bit_of x i) (sym a.word.is) ∙ ap (λ (x : ℕ). eqb x 1) (sym (mask_is (nulls / 2 ^ i) 1))

    bit-null : (bit_and (nulls / 2 ^ i) 1 ≡ 0 → ⊥) → bit b 0 i ≡ true
    bit-null ne = bit_is ∙ eq-eqb (bit_and (nulls / 2 ^ i) 1) 1 (omega (arith, mask_is (nulls / 2 ^ i) 1))

    bit-here : bit_and (nulls / 2 ^ i) 1 ≡ 0 → bit b 0 i ≡ false
    bit-here e = bit_is ∙ ne_eqb (bit_and (nulls / 2 ^ i) 1) 1 (λ q. omega arith)

    -- the field's entry is w, and its kind k
    module _ {w k : ℕ} (ew : EntryAt t (first + i) d w) (ek : k ≡ place_in w) where
      -- behind a leaf stands the next field
      next : k < 9 → {cur' : ℕ} → At (fields (types_of t first d n)) b n 8 (8 + 8 * n) (i + 1) (8 + 8 * i + 8) cur' n 0 0
          → PlainAt t first d n b nulls (i + 1) cur'
      next h {cur'} s =
          let q : 8 + 8 * i + 8 ≡ 8 + 8 * (i + 1) = omega arith in
          record {
            given = a.given;
            some = a.some;
            few = a.few;
            word = a.word;
            past = a.past;
            field = subst (λ (x : ℕ). FieldAt t first d n b 8 (8 + 8 * n) (first + (i + 1)) (i + 1) x cur' n 0 0) q
                (reached-leaf a.field l ew ek h (one_on first i) s);
          }

      pub plain-null : k < 9 → (bit_and (nulls / 2 ^ i) 1 ≡ 0 → ⊥) → PlainAt t first d n b nulls (i + 1) cur
      plain-null h ne = next h (loop-null a.field.state l refl (bit-null ne))

      -- a field of a fixed width: an int64 and a float64 have no bit above their highest
      module _ (h : k < 7) where
        room : FieldRoom b i (8 + 8 * i) w
        room = leaf_room a.field l ew ek h

        pub plain-above : {u : ℕ} → u ≡ top_in w → u < 64
        plain-above e = above-shift room e

        pub plain-fixed : bit_and (nulls / 2 ^ i) 1 ≡ 0 → {x : ℕ} → Reads b (8 + 8 * i) 8 x → {u : ℕ} → u ≡ top_in w
            → not (eqb (x / 2 / 2 ^ u) 0) ≡ false → PlainAt t first d n b nulls (i + 1) cur
        plain-fixed z {x} r {u} e q = next (omega arith) (leaf-passes a.field l ew ek h (good (ℕ_discrete u 63)) refl)
          where
            bytes : Bytes b
            bytes = a.field.state.fixed.bytes

            good : Dec (u ≡ 63) → true ≡ field_good (fixed_at (place_in w)) b i (8 + 8 * i)
            good (yes f) = field-whole room bytes e f
            good (no f) = sym (not-false _ q) ∙ field-above room bytes (sym (bit-here z)) refl r e f

      -- a string or a binary, which stands at the cursor, and its padding
      pub plain-text : 7 ≤ k → k < 9 → bit_and (nulls / 2 ^ i) 1 ≡ 0 → {o : ℕ} → Offset b (8 + 8 * i) o → o ≡ cur
          → {s : ℕ} → Size b (8 + 8 * i) s → cur + s ≤ length b → {to : ℕ} → to ≡ pad (cur + s)
          → Spelling (text_at k) (part b cur (cur + s - cur)) true
          → {v : Bool} → v ≡ eqb (num (part b (cur + s) (to - (cur + s)))) 0 → not v ≡ false → PlainAt t first d n b nulls (i + 1) to
      plain-text lo hi z {o} offset at {s} size end {to} et er e q = next hi (here-next here (reached-text a.field l ew ek lo hi er refl) e q)
        where
          here : Here a.field.state o s to
          here = record {
            told = record { less = l; ranged = reached-vary a.field l ew ek lo; here = bit-here z; says = offset };
            from = at;
            size = size;
            end = end;
            to = et;
          }
