-- The strokes of a row that a check accepts, and their numbers, by the row's bytes: which bit says null, where a stroke starts, where a
-- number stands. Assumes nothing.
use mathlib.Core.Path.{◌≡◌, refl, sym, ap, ◌∙◌}
use mathlib.Core.Logic.{⊎_elim}
use mathlib.Core.Bool.{Bool, true, false}
use mathlib.Core.Option.{Option, none, some, none-ne-some}
use mathlib.Core.List.{List, [], ◌∷◌}
use Prim.Native.Nat.{ℕ, zero, suc, ◌+◌, ◌*◌, ◌/◌, ◌%◌, ◌^◌, ◌≤◌, ◌<◌}
use native.Mathlib.Nat.{zero-add}
use native.Mathlib.Omega.{arith}
use native.Mathlib.Decide.{dec_le, dec_lt, ℕ_discrete}
use lib.ListN.{length, get_or}
use borrow.Author.Tests.{eqb-true, eqb-false}
use Rattle.words.specs.Bytes.{Bytes, le, num, part}
use Rattle.words.specs.Bits.{bit_of, bit}
use Rattle.words.specs.Signed.{half_of, to_signed, of_signed}
use Rattle.words.proofs.Numbers.{num-lt}
use Rattle.words.proofs.Parts.{lt-or-le, length_part, bytes-part, get_d_part, part-part}
use Rattle.words.proofs.BitLaws.{bit-num}
use Rattle.words.proofs.SignedLaws.{to_low, to_high}
use Rattle.schema.specs.Marks.{types, mark_at}
use Rattle.schema.specs.Kinds.{find, place_of, kind_of, kind_of_place, head_kind, kind_at}
use Rattle.schema.specs.Types.{Ty, fix, i4, ro, Tys, end, ◌then◌, count, field, fixed_place, text_place, fixed_at, text_at, width}
use Rattle.schema.specs.Reading.{parse_all, parse_ro, parse_kind, parse_type, judged}
use Rattle.schema.specs.Walk.{type_at, fields_of}
use Rattle.schema.specs.declared.Judged.TheVariants.{Accepted}
use Rattle.layout.specs.Refusals.{numbered, broken_at}
use Rattle.layout.specs.Reader.{assert}
use Rattle.layout.specs.Cells.{Cell, part_of}
use Rattle.layout.specs.Layout.{codec, struct, number, Lays}
use Rattle.layout.specs.Walk.{Seat, seen, Step, stop, to_null, into, root_seat, seat_of, must_step, by_flag, by_slot, child, step_in, child_ty, go_on, walk}
use Rattle.layout.specs.Reading as R
use Rattle.layout.specs.Reading.{type_along, placed, value_of, answer_of, found, read_in}
use Rattle.layout.specs.Places.{start_of}
use Rattle.layout.specs.Setting.{◌or◌}
use Rattle.layout.specs.Entries.{done, row_long, layout_bad, check_of, read_of}
use Rattle.layout.proofs.Containers.{lays-decode}
use Rattle.layout.proofs.Stepped as Stepped
use Rattle.layout.proofs.Stepped.{Comes}
use Rattle.layout.proofs.Walked.{comes, own-holds, struct-room}
use Rattle.layout.proofs.Slotted.{must-step}
use Rattle.layout.proofs.Entered.{or-none, check-judged, checked, read_same}
use Rattle.chords.specs.Chords.{schema, bits_of, is_null, no_stroke, no_number, stroke_start, null_bad, nulls_bad, row_bad}
use Rattle.chords.specs.Places.{Checked, Keeps}

-- ---- the types: a row's two fields are strokes, a stroke's two are numbers

abbrev pub twice : Ty → Tys
twice t = t then t then end

abbrev pub stroke_ty : Ty
stroke_ty = ro (twice (fix i4))

abbrev pub row_ty : Ty
row_ty = ro (twice stroke_ty)

-- to unfold this is to unfold what a schema is read by
computes : Unit {0}
unfolding schema types mark_at find place_of kind_of kind_of_place head_kind kind_at fixed_place text_place fixed_at text_at width count field
    parse_all parse_ro parse_kind parse_type judged type_at fields_of assert type_along placed dec_le dec_lt codec struct number
computes = tt

pub schema-good : judged schema ≡ Accepted
unfolding computes
schema-good = refl

pub fields-are : fields_of schema ≡ twice stroke_ty
unfolding computes
fields-are = refl

placed-stroke : (i : ℕ) → i < 2 → placed (i ∷ []) row_ty ≡ some stroke_ty
unfolding computes
placed-stroke zero h = refl
placed-stroke (suc zero) h = refl
placed-stroke (suc (suc i)) h = absurd (omega arith)

placed-number : (i j : ℕ) → i < 2 → j < 2 → placed (i ∷ j ∷ []) row_ty ≡ some (fix i4)
unfolding computes
placed-number zero zero h l = refl
placed-number zero (suc zero) h l = refl
placed-number (suc zero) zero h l = refl
placed-number (suc zero) (suc zero) h l = refl
placed-number zero (suc (suc j)) h l = absurd (omega arith)
placed-number (suc zero) (suc (suc j)) h l = absurd (omega arith)
placed-number (suc (suc i)) j h l = absurd (omega arith)

wide-stroke : (codec stroke_ty).wide ≡ none
unfolding computes
wide-stroke = refl

wide-number : (codec (fix i4)).wide ≡ some 4
unfolding computes
wide-number = refl

field_is : (t : Ty) (i : ℕ) → i < 2 → field (twice t) i ≡ t
unfolding computes
field_is t zero h = refl
field_is t (suc zero) h = refl
field_is t (suc (suc i)) h = absurd (omega arith)

-- ---- bytes

-- the offset and the size in a slot
abbrev offset_in : List ℕ → ℕ → ℕ
offset_in b at = num (part b at 8) / 2 ^ 32

abbrev size_in : List ℕ → ℕ → ℕ
size_in b at = num (part b at 8) % 2 ^ 32

-- bit i of a bitmap as the walk asks for it
bit-set : {b : List ℕ} (i : ℕ) → Bytes b → i < 2 → bit b 0 i ≡ true → num (part b 0 8) / 2 ^ i % 2 ≡ 1
bit-set {b} i y h e = eqb-true (num (part b 0 8) / 2 ^ i % 2) 1 (bit-num 0 8 i y (omega arith) ∙ e)

bit-clear : {b : List ℕ} (i : ℕ) → Bytes b → i < 2 → bit b 0 i ≡ false → num (part b 0 8) / 2 ^ i % 2 ≡ 0
bit-clear {b} i y h e = other (num (part b 0 8) / 2 ^ i) (eqb-false (num (part b 0 8) / 2 ^ i % 2) 1 (bit-num 0 8 i y (omega arith) ∙ e))
  where
    other : (x : ℕ) → (x % 2 ≡ 1 → ⊥) → x % 2 ≡ 0
    other x ne = omega arith

-- a bit of a stroke's bitmap is one of the row's
bit_in : (row : List ℕ) (o n j : ℕ) → j < 2 → 24 ≤ n → bit (part row o n) 0 j ≡ bit row o j
bit_in row o n j h l =
    ap (λ (x : ℕ). bit_of (get_or (part row o n) x 0) (j % 8)) (zero-add (j / 8))
    ∙ ap (λ (x : ℕ). bit_of x (j % 8)) (get_d_part row o n (j / 8) (omega arith))

-- an int32's bits, there and back; and of four bytes
pub bits_back : (n : ℕ) → n < 2 ^ 32 → of_signed (half_of 4) (to_signed (half_of 4) n) ≡ n
bits_back n l = ⊎_elim (λ h. ap (of_signed (half_of 4)) (to_low (half_of 4) n h))
    (λ h. ap (of_signed (half_of 4)) (to_high (half_of 4) n h l) ∙ omega arith) (lt-or-le n (half_of 4))

four-back : {u : List ℕ} → Bytes u → length u ≡ 4 → of_signed (half_of 4) (to_signed (half_of 4) (num u)) ≡ num u
four-back {u} y n = bits_back (num u) (rw n at (num-lt y))

-- ---- a step into bytes that stand for contents

-- it is not refused with 7, and what it goes into stands for the child
unbroken : {T t : Ty} {c : Cell} {i o : ℕ} {b : List ℕ} (r : Step) (p : ℕ) → Comes T t c i o b r → r ≡ stop (broken_at p) → ⊥
unbroken r p (Stepped.past h) e = let z : ◌≡◌ {A = ℕ} 0 1 = cc in omega arith
unbroken r p (Stepped.missing k f q) e = let z : ◌≡◌ {A = ℕ} 0 1 = cc in omega arith
unbroken r p (Stepped.on k f h q) e = let z : ◌≡◌ {A = ℕ} 0 1 = cc in omega arith

landed : {T t : Ty} {c : Cell} {i o : ℕ} {b : List ℕ} (r : Step) (s : Seat) (j : ℕ) (u : List ℕ) → Comes T t c i o b r → r ≡ into t s j u
    → Lays t (part_of i c) u
landed r s j u (Stepped.past h) e = let z : ◌≡◌ {A = ℕ} 0 1 = cc in absurd (omega arith)
landed r s j u (Stepped.missing k f q) e = let z : ◌≡◌ {A = ℕ} 0 1 = cc in absurd (omega arith)
landed r s j u (Stepped.on {u = v} k f h q) e = let z : v ≡ u = cc in rw z at h.lays

-- so the three tests of a slot hold
three : {T t : Ty} {c : Cell} {i o : ℕ} {b : List ℕ} (p : ℕ) {A B C : Type 0} (d₁ : Dec A) (d₂ : Dec B) (d₃ : Dec C) (x : Step)
    → Comes T t c i o b (must_step d₁ (broken_at p) (must_step d₂ (broken_at p) (must_step d₃ (broken_at p) x)))
    → C × (must_step d₁ (broken_at p) (must_step d₂ (broken_at p) (must_step d₃ (broken_at p) x)) ≡ x)
unfolding must_step
three p (no _) d₂ d₃ x k = absurd (unbroken _ p k refl)
three p (yes _) (no _) d₃ x k = absurd (unbroken _ p k refl)
three p (yes _) (yes _) (no _) x k = absurd (unbroken _ p k refl)
three p (yes _) (yes _) (yes h) x k = (h, refl)

-- what varies lies where the slot at a position says
record Lies (t : Ty) (s : Seat) (o at : ℕ) (b : List ℕ) (r : Step) : Type 0 where
  pub is : r ≡ into t s (o + offset_in b at) (part b (offset_in b at) (size_in b at))
  pub room : offset_in b at + size_in b at ≤ length b

slot-lies : {T t : Ty} {c : Cell} {i o : ℕ} {b : List ℕ} (at : ℕ) (s : Seat) → Comes T t c i o b (by_slot none t s 24 o at b)
    → Lies t s o at b (by_slot none t s 24 o at b)
unfolding by_slot
slot-lies {t = t} {o = o} {b = b} at s k =
    let off = offset_in b at in
    let size = size_in b at in
    let r = three s.slot (dec_le 24 off) (ℕ_discrete (off % 8) 0) (dec_le (off + size) (length b)) (into t s (o + off) (part b off size)) k in
    record { is = r.1; room = r.0 }

-- field i of a struct of two fields of type t, whose bytes b start at the row's byte o
module _ (t : Ty) (i o : ℕ) (b : List ℕ) (h : i < 2) (s : Seat) where
  abbrev seat_is : Seat
  seat_is = seat_of 0 8 2 i o

  abbrev asks : ℕ
  asks = num (part b 0 8) / 2 ^ i % 2

  abbrev slotted : Option ℕ → Step
  slotted w = by_slot w t seat_is 24 o (8 + 8 * i) b

  step_is : step_in (ro (twice t)) i s o b ≡ by_flag asks seat_is (slotted (codec t).wide)
  unfolding step_in child count
  step_is = go (field (twice t) i) _ (field_is t i h) (omega arith)
    where
      go : (u : Ty) (j : ℕ) → u ≡ t → j ≡ 8 + 8 * i
          → must_step (dec_lt i 2) (numbered 5) (by_flag asks seat_is (by_slot (codec u).wide u seat_is 24 o j b)) ≡ by_flag asks seat_is (slotted (codec t).wide)
      go u j e q = rw (e, q) (must-step (dec_lt i 2) (numbered 5) (by_flag asks seat_is (slotted (codec t).wide)) h)

  step-null : asks ≡ 1 → step_in (ro (twice t)) i s o b ≡ to_null seat_is
  unfolding by_flag
  step-null e = step_is ∙ rw e

  step-some : asks ≡ 0 → step_in (ro (twice t)) i s o b ≡ slotted (codec t).wide
  unfolding by_flag
  step-some e = step_is ∙ rw e

  come : (c : Cell) → Lays (ro (twice t)) c b → length b < 2 ^ 32 → Comes (ro (twice t)) t c i o b (step_in (ro (twice t)) i s o b)
  unfolding child_ty
  come c y lim = rw (field_is t i h) at (comes (ro (twice t)) c i s o b y lim)

-- the walk, without the type's own rules, which hold
sees : (t : Ty) (c : Cell) (s : Seat) (o : ℕ) (b : List ℕ) → Lays t c b → length b < 2 ^ 32 → walk [] t s o b ≡ seen s o b
unfolding walk
sees t c s o b y lim = own-holds t c s o b (seen s o b) y lim

goes : (i : ℕ) (p : List ℕ) (t : Ty) (c : Cell) (s : Seat) (o : ℕ) (b : List ℕ) → Lays t c b → length b < 2 ^ 32
    → walk (i ∷ p) t s o b ≡ go_on p (λ t s o b. walk p t s o b) (step_in t i s o b)
unfolding walk
goes i p t c s o b y lim = own-holds t c s o b (go_on p (λ t s o b. walk p t s o b) (step_in t i s o b)) y lim

-- ---- a stroke in a row

-- where stroke i starts, and its bytes, by its slot
abbrev pub start_in : List ℕ → ℕ → ℕ
start_in row i = offset_in row (8 + 8 * i)

abbrev stroke_in : List ℕ → ℕ → List ℕ
stroke_in row i = part row (start_in row i) (size_in row (8 + 8 * i))

-- stroke i of a row that stands for contents c
record StrokeLies (row : List ℕ) (c : Cell) (i : ℕ) : Type 0 where
  pub steps : step_in row_ty i root_seat 0 row ≡ into stroke_ty (seat_of 0 8 2 i 0) (start_in row i) (stroke_in row i)
  pub lays : Lays stroke_ty (part_of i c) (stroke_in row i)
  pub size : length (stroke_in row i) ≡ size_in row (8 + 8 * i)
  pub long : 24 ≤ size_in row (8 + 8 * i)
  pub room : start_in row i + size_in row (8 + 8 * i) ≤ length row

stroke-lies : (row : List ℕ) (c : Cell) (i : ℕ) → Bytes row → Lays row_ty c row → length row < 2 ^ 32 → i < 2 → bit row 0 i ≡ false → StrokeLies row c i
unfolding count
stroke-lies row c i hb y lim h e =
    let s = seat_of 0 8 2 i 0 in
    let k = come stroke_ty i 0 row h root_seat c y lim in
    let q : step_in row_ty i root_seat 0 row ≡ by_slot none stroke_ty s 24 0 (8 + 8 * i) row =
    rw wide-stroke at (step-some stroke_ty i 0 row h root_seat (bit-clear i hb h e)) in
    let l = slot-lies (8 + 8 * i) s (rw q at k) in
    let is : step_in row_ty i root_seat 0 row ≡ into stroke_ty s (start_in row i) (stroke_in row i) = rw (zero-add (start_in row i)) at (q ∙ l.is) in
    let y' = landed _ s (start_in row i) (stroke_in row i) k is in
    let n : length (stroke_in row i) ≡ size_in row (8 + 8 * i) = length_part row (start_in row i) (size_in row (8 + 8 * i)) l.room in
    record { steps = is; lays = y'; size = n; long = rw n at (struct-room (twice (fix i4)) (part_of i c) (stroke_in row i) y'); room = l.room }

-- ---- the reads

module _ {row : List ℕ} (k : Checked row) where
  tree : Cell
  tree = (checked schema row k.bytes k.done).tree

  small : length row ≤ 16384
  small = (checked schema row k.bytes k.done).size

  stands : Lays row_ty tree row
  unfolding tree
  stands = rw fields-are at (lays-decode (ro (fields_of schema)) row tree k.bytes (checked schema row k.bytes k.done).reads)

  short : length row < 2 ^ 32
  short = omega (arith, small)

  reads : (p : List ℕ) → read_of schema row p ≡ found (placed p row_ty) (walk p row_ty root_seat 0 row)
  unfolding read_in
  reads p = rw fields-are at (read_same schema row (check-judged schema row k.done) small p)

  null-read : (i : ℕ) → i < 2 → bit row 0 i ≡ true → read_of schema row (i ∷ []) ≡ R.null
  unfolding go_on found answer_of
  null-read i h e =
      reads (i ∷ [])
      ∙ rw (placed-stroke i h, goes i [] row_ty tree root_seat 0 row stands short, step-null stroke_ty i 0 row h root_seat (bit-set i k.bytes h e))

  under-read : (i j : ℕ) → i < 2 → j < 2 → bit row 0 i ≡ true → read_of schema row (i ∷ j ∷ []) ≡ R.refused (numbered 6)
  unfolding go_on found answer_of
  under-read i j h l e =
      reads (i ∷ j ∷ [])
      ∙ rw (placed-number i j h l, goes i (j ∷ []) row_ty tree root_seat 0 row stands short, step-null stroke_ty i 0 row h root_seat (bit-set i k.bytes h e))

  -- a stroke that is not null
  module _ (i : ℕ) (h : i < 2) (e : bit row 0 i ≡ false) where
    abbrev seat : Seat
    seat = seat_of 0 8 2 i 0

    abbrev o : ℕ
    o = start_in row i

    abbrev b : List ℕ
    b = stroke_in row i

    lies : StrokeLies row tree i
    lies = stroke-lies row tree i k.bytes stands short h e

    brief : length b < 2 ^ 32
    brief = omega (arith, lies.size, lies.room, short)

    stroke-read : read_of schema row (i ∷ []) ≡ R.container o (length b) 2
    unfolding go_on found answer_of count
    stroke-read =
        reads (i ∷ [])
        ∙ rw (placed-stroke i h, goes i [] row_ty tree root_seat 0 row stands short, lies.steps, sees stroke_ty (part_of i tree) seat o b lies.lays brief)

    -- number j of it
    module _ (j : ℕ) (l : j < 2) where
      to_number : read_of schema row (i ∷ j ∷ []) ≡ found (some (fix i4)) (go_on [] (λ t s o b. walk [] t s o b) (step_in stroke_ty j seat o b))
      unfolding go_on
      to_number =
          reads (i ∷ j ∷ [])
          ∙ rw (
            placed-number i j h l,
            goes i (j ∷ []) row_ty tree root_seat 0 row stands short,
            lies.steps,
            goes j [] stroke_ty (part_of i tree) seat o b lies.lays brief,
          )

      bytes-in : Bytes b
      bytes-in = bytes-part o (size_in row (8 + 8 * i)) k.bytes

      its-bit : bit b 0 j ≡ bit row o j
      its-bit = bit_in row o (size_in row (8 + 8 * i)) j l lies.long

      number-null : bit row o j ≡ true → read_of schema row (i ∷ j ∷ []) ≡ R.null
      unfolding go_on found answer_of
      number-null f = to_number ∙ rw (step-null (fix i4) j o b l seat (bit-set j bytes-in l (its-bit ∙ f)))

      abbrev at : ℕ
      at = 8 + 8 * j

      number-steps : bit row o j ≡ false → step_in stroke_ty j seat o b ≡ into (fix i4) (seat_of 0 8 2 j o) (o + at) (part b at 4)
      unfolding by_slot
      number-steps f = rw wide-number at (step-some (fix i4) j o b l seat (bit-clear j bytes-in l (its-bit ∙ f)))

      number_read : bit row o j ≡ false → read_of schema row (i ∷ j ∷ []) ≡ R.signed (to_signed (half_of 4) (num (part row (o + at) 4)))
      unfolding go_on found answer_of value_of
      number_read f =
          let q = number-steps f in
          let y = landed _ (seat_of 0 8 2 j o) (o + at) (part b at 4) (come (fix i4) j o b l seat (part_of i tree) lies.lays brief) q in
          let p : part b at 4 ≡ part row (o + at) 4 = part-part row o (size_in row (8 + 8 * i)) at 4 (omega (arith, lies.long)) in
          let n : length (part b at 4) ≡ 4 = length_part b at 4 (omega (arith, lies.size, lies.long)) in
          to_number ∙ rw (q, sees (fix i4) (part_of j (part_of i tree)) (seat_of 0 8 2 j o) (o + at) (part b at 4) y (omega arith), p)

-- ---- what is read of a row that a check accepts

pub long : {row : List ℕ} → Checked row → 24 ≤ length row
unfolding count
long {row} k = struct-room (twice stroke_ty) (tree k) row (stands k)

-- stroke i is null where the row's bit says so
pub no-stroke : {row : List ℕ} → Checked row → (i : ℕ) → i < 2 → no_stroke row i ≡ bit row 0 i
unfolding no_stroke
no-stroke {row} k i h = go (bit row 0 i) refl
  where
    go : (v : Bool) → bit row 0 i ≡ v → is_null (read_of schema row (i ∷ [])) ≡ v
    go true e = rw (null-read k i h e)
    go false e = rw (stroke-read k i h e)

-- no number of a null stroke reads as null: its read is refused
pub no-numbers : {row : List ℕ} → Checked row → (i j : ℕ) → i < 2 → j < 2 → bit row 0 i ≡ true → no_number row i j ≡ false
unfolding no_number
no-numbers k i j h l e = rw (under-read k i j h l e)

-- a stroke that is not null: where it starts, that its 24 bytes are there, which of its numbers are null, and where the others stand
pub record Stroke (row : List ℕ) (i : ℕ) : Type 0 where
  pub starts : stroke_start row i ≡ start_in row i
  pub room : start_in row i + 24 ≤ length row
  pub nulls : (j : ℕ) → j < 2 → no_number row i j ≡ bit row (start_in row i) j
  pub numbers : (j : ℕ) → j < 2 → bit row (start_in row i) j ≡ false
      → bits_of (read_of schema row (i ∷ j ∷ [])) ≡ num (part row (start_in row i + (8 + 8 * j)) 4)

pub stroke : {row : List ℕ} → Checked row → (i : ℕ) → i < 2 → bit row 0 i ≡ false → Stroke row i
unfolding stroke_start start_of no_number
stroke {row} k i h e = record {
  starts = rw (stroke-read k i h e);
  room = omega (arith, s.long, s.room);
  nulls = λ j l. null j l (bit row (start_in row i) j) refl;
  numbers = λ j l f. rw (number_read k i h e j l f) (four-back (bytes-part (start_in row i + (8 + 8 * j)) 4 k.bytes)
      (length_part row (start_in row i + (8 + 8 * j)) 4 (omega (arith, s.long, s.room))));
}
  where
    s : StrokeLies row (tree k) i
    s = lies k i h e

    null : (j : ℕ) → j < 2 → (v : Bool) → bit row (start_in row i) j ≡ v → is_null (read_of schema row (i ∷ j ∷ [])) ≡ v
    null j l true f = rw (number-null k i h e j l f)
    null j l false f = rw (number_read k i h e j l f)

-- ---- a row that a log may have

not_null : (v : Bool) (p : ℕ) → null_bad v p ≡ none → v ≡ false
not_null true p e = absurd (none-ne-some _ (sym e))
not_null false p e = refl

-- none but the second stroke is null
pub record NoNulls (row : List ℕ) : Type 0 where
  pub first : no_stroke row 0 ≡ false
  pub numbers : (i j : ℕ) → i < 2 → j < 2 → no_number row i j ≡ false

no-nulls : {row : List ℕ} → nulls_bad row ≡ none → NoNulls row
unfolding nulls_bad
no-nulls {row} e =
    let a = or-none _ _ e in
    let b = or-none _ _ a.1 in
    let c = or-none _ _ b.1 in
    let d = or-none _ _ c.1 in
    record { first = not_null _ 0 a.0; numbers = all (not_null _ _ b.0) (not_null _ _ c.0) (not_null _ _ d.0) (not_null _ _ d.1) }
  where
    all : no_number row 0 0 ≡ false → no_number row 0 1 ≡ false → no_number row 1 0 ≡ false → no_number row 1 1 ≡ false
        → (i j : ℕ) → i < 2 → j < 2 → no_number row i j ≡ false
    all a b c d zero zero h l = a
    all a b c d zero (suc zero) h l = b
    all a b c d (suc zero) zero h l = c
    all a b c d (suc zero) (suc zero) h l = d
    all a b c d zero (suc (suc j)) h l = absurd (omega arith)
    all a b c d (suc zero) (suc (suc j)) h l = absurd (omega arith)
    all a b c d (suc (suc i)) j h l = absurd (omega arith)

pub keeps-checked : {row : List ℕ} → Keeps row → Checked row
unfolding row_bad check_of
keeps-checked {row} k =
    let a = or-none (row_long row) (layout_bad schema row or nulls_bad row) k.sound in
    let b = or-none (layout_bad schema row) (nulls_bad row) a.1 in
    record { bytes = k.bytes; done = rw (schema-good, a.0, b.0) }

pub keeps-nulls : {row : List ℕ} → Keeps row → NoNulls row
unfolding row_bad
keeps-nulls {row} k =
    let a = or-none (row_long row) (layout_bad schema row or nulls_bad row) k.sound in
    no-nulls (or-none (layout_bad schema row) (nulls_bad row) a.1).1

pub keeps-first : {row : List ℕ} → Keeps row → no_stroke row 0 ≡ false
keeps-first k = (keeps-nulls k).first
