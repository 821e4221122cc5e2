-- The row that is written for a chord or two: its bytes, that a log may have it, whatever lies under its null, and that its places read as
-- the chords. Assumes nothing.
use mathlib.Core.Path.{◌≡◌, refl, sym, ap, ◌∙◌}
use mathlib.Core.Bool.{true, false}
use mathlib.Core.Option.{Option, none, some}
use mathlib.Core.List.{List, [], ◌∷◌, ◌++◌, append_assoc}
use Prim.Native.Nat.{ℕ, ◌+◌, ◌*◌, ◌/◌, ◌^◌, ◌≤◌, ◌<◌}
use native.Mathlib.Omega.{arith}
use native.Mathlib.Decide.{dec_le, dec_lt, ℕ_discrete}
use lib.ListN.{length, length-append}
use lib.Seq.{sets}
use borrow.Author.Tests.{le-leb}
use Rattle.words.specs.Bytes.{Bytes, le, num, fill, zeros}
use Rattle.words.specs.Signed.{half_of, to_signed}
use Rattle.words.proofs.Numbers.{bytes-append, bytes-zeros, bytes_le, length-le, num-le}
use Rattle.words.proofs.Runs.{sets_then, sets-whole}
use Rattle.schema.specs.Marks.{types, mark_at}
use Rattle.schema.specs.Kinds.{find, place_of, kind_of, kind_of_place as placed_kind, head_kind, kind_at}
use Rattle.schema.specs.Types.{i4, Ty, fix, ro, end, ◌then◌, fixed_place, text_place, fixed_at, text_at, place, width, mark, count, field}
use Rattle.schema.specs.Reading.{parse_all, parse_ro, parse_kind, parse_type as parse_ty, judged}
use Rattle.schema.specs.Walk.{type_at as ty_at, fields_of}
use Rattle.layout.specs.Reader.{assert}
use Rattle.layout.specs.Cells.{Cell, null, leaf, node, from_cells, to_cells, on_null, bytes, parts, clean}
use Rattle.layout.specs.Layout.{number, inside, outside, kid_of, slot_of, flags, slots, tails, body_put, struct, AllFit, limit, codec}
use Rattle.layout.specs.Layout.{NumberFits, Fits, content, Lays, fault_at}
use Rattle.layout.specs.Listing.{number_script, item, run_put, struct_script, script, listing, parse}
use Rattle.layout.specs.Walk.{Seat, seen, must, must_step, own, by_slot, by_flag, child, step_in, go_on, walk}
use Rattle.layout.specs.Reading.{signed, type_along, placed, value_of, answer_of, found, read_in}
use Rattle.layout.specs.Setting.{or_empty}
use Rattle.layout.specs.Entries.{read_of, image_of}
use Rattle.layout.specs.Demand2.{Writes}
use Rattle.layout.proofs.Faults.{no-fault}
use Rattle.layout.proofs.Containers.{decode-lays, lays-content}
use Rattle.layout.proofs.Listed.{parse-listing}
use Rattle.layout.proofs.Walked.{own-holds}
use Rattle.layout.proofs.Rooms.{writes_as}
use Rattle.layout.proofs.Demand2.{image-is as image-of}
use Rattle.chords.specs.declared.Chord.{Chord}
use Rattle.chords.specs.Chords.{Proper, schema, listed, row_for, no_stroke, no_number, chord_at, nulls_bad, row_bad}
use Rattle.chords.specs.Places.{stroke_bytes}
use Rattle.chords.proofs.Readings.{schema-good, bits_back}

-- to unfold this is to unfold the definitions
unfoldable pub computes : Unit {0}
unfolding le num fill types mark_at find place_of kind_of placed_kind head_kind kind_at fixed_place text_place fixed_at text_at place width mark count field
    parse_all parse_ro parse_kind parse_ty judged ty_at fields_of assert from_cells to_cells on_null bytes parts clean
    number inside outside kid_of slot_of flags slots tails body_put struct limit codec AllFit
    number_script item run_put struct_script script listing
    must must_step own by_slot by_flag child step_in go_on walk type_along placed value_of answer_of found read_in
    read_of dec_le dec_lt ℕ_discrete schema listed
computes = tt

abbrev pub SecondProper : Option Chord → Type 0
SecondProper none = Unit {0}
SecondProper (some d) = Proper d

-- ---- what is written, as contents

abbrev pub stroke_cell : Chord → Cell
stroke_cell c = node (leaf (le 4 c.tick) ∷ leaf (le 4 c.keys) ∷ [])

-- under the second place's null lies the word u; writing lays down 0
abbrev second_cell : ℕ → Option Chord → Cell
second_cell u none = null (le 8 u)
second_cell u (some d) = stroke_cell d

abbrev pub cell_for : ℕ → Chord → Option Chord → Cell
cell_for u c d = node (stroke_cell c ∷ second_cell u d ∷ [])

abbrev pub stroke_ty : Ty
stroke_ty = ro (fix i4 then fix i4 then end)

listing-is : (c : Chord) (d : Option Chord) → listing (ro (fields_of schema)) (cell_for 0 c d) ≡ listed c d
unfolding computes
listing-is c none = refl
listing-is c (some d) = refl

listed-short : (c : Chord) (d : Option Chord) → length (listed c d) ≤ 65536
unfolding computes
listed-short c none = omega arith
listed-short c (some d) = omega arith

clean_is : (c : Chord) (d : Option Chord) → clean (cell_for 0 c d) ≡ cell_for 0 c d
unfolding computes
clean_is c none = refl
clean_is c (some d) = refl

number_fits : (x : ℕ) → x < 2 ^ 32 → NumberFits 4 (256 ^ 4) (leaf (le 4 x))
unfolding bytes
number_fits x h = record { plain = refl; wide = length-le 4 x; proper = bytes_le 4 x; below = rw (num-le 4 x h) h }

pub stroke-fits : (c : Chord) → Proper c → Fits stroke_ty (stroke_cell c)
unfolding computes
stroke-fits c p = record { plain = refl; children = (number_fits c.tick p.tick, (number_fits c.keys p.keys, tt)) }

cell-fits : (u : ℕ) (c : Chord) (d : Option Chord) → Proper c → SecondProper d → Fits (ro (fields_of schema)) (cell_for u c d)
unfolding computes
cell-fits u c none p q = record { plain = refl; children = (stroke-fits c p, (record { wide = refl; proper = bytes_le 8 u }, tt)) }
cell-fits u c (some d) p q = record { plain = refl; children = (stroke-fits c p, (stroke-fits d q, tt)) }

-- ---- the bytes

-- a number of 32 bits at the start of its slot
wide_is : (x : ℕ) → x < 2 ^ 32 → le 8 x ≡ le 4 x ++ zeros 4
unfolding le
wide_is x h = let z : x / 256 / 256 / 256 / 256 ≡ 0 = omega arith in rw z

abbrev pub slotted : Chord → List ℕ
slotted c = le 8 0 ++ ((le 4 c.tick ++ zeros 4) ++ (le 4 c.keys ++ zeros 4))

pub stroke-is : (c : Chord) → Proper c → slotted c ≡ stroke_bytes c
stroke-is c p = rw (wide_is c.tick p.tick, wide_is c.keys p.keys)

-- the row of one chord or two, with each number's zeros apart
abbrev pub lay_for : ℕ → Chord → Option Chord → List ℕ
lay_for u c none = le 8 2 ++ (le 8 (24 * 2 ^ 32 + 24) ++ (le 8 u ++ slotted c))
lay_for u c (some d) = le 8 0 ++ (le 8 (24 * 2 ^ 32 + 24) ++ (le 8 (48 * 2 ^ 32 + 24) ++ (slotted c ++ slotted d)))

content-is : (u : ℕ) (c : Chord) (d : Option Chord) → content (ro (fields_of schema)) (cell_for u c d) ≡ lay_for u c d
unfolding computes
content-is u c none = refl
content-is u c (some d) = refl

module _ (c : Chord) (d : Option Chord) (p : Proper c) (q : SecondProper d) where
  parse-is : parse (ro (fields_of schema)) (listed c d) ≡ some (cell_for 0 c d)
  parse-is =
      let h : length (listing (ro (fields_of schema)) (cell_for 0 c d)) < 2 ^ 32 = rw (listing-is c d) (omega (arith, listed-short c d)) in
      let e = parse-listing (ro (fields_of schema)) (cell_for 0 c d) (cell-fits 0 c d p q) h in
      rw (listing-is c d, clean_is c d) at e

  image-is : image_of schema (listed c d) ≡ some (lay_for 0 c d)
  image-is = image-of schema (listed c d) (cell_for 0 c d) (listed-short c d) parse-is ∙ ap some (content-is 0 c d)

  row_is : row_for c d ≡ lay_for 0 c d
  unfolding row_for
  row_is = ap or_empty image-is

pub one-is : (c : Chord) → Proper c → row_for c none ≡ le 8 2 ++ (le 8 (24 * 2 ^ 32 + 24) ++ (le 8 0 ++ stroke_bytes c))
one-is c p = row_is c none p tt ∙ ap (λ (l : List ℕ). le 8 2 ++ (le 8 (24 * 2 ^ 32 + 24) ++ (le 8 0 ++ l))) (stroke-is c p)

pub two_is : (c d : Chord) → Proper c → Proper d
    → row_for c (some d) ≡ le 8 0 ++ (le 8 (24 * 2 ^ 32 + 24) ++ (le 8 (48 * 2 ^ 32 + 24) ++ (stroke_bytes c ++ stroke_bytes d)))
two_is c d p q = row_is c (some d) p q ∙ rw (stroke-is c p, stroke-is d q)

pub one-long : (c : Chord) → Proper c → length (row_for c none) ≡ 48
unfolding le
one-long c p = ap length (row_is c none p tt)

pub two-long : (c d : Chord) → Proper c → Proper d → length (row_for c (some d)) ≡ 72
unfolding le
two-long c d p q = ap length (row_is c (some d) p q)

pub row-bytes : (c : Chord) (d : Option Chord) → Proper c → SecondProper d → Bytes (row_for c d)
row-bytes c d p q = rw (row_is c d p q) (lay-bytes d)
  where
    slotted-bytes : (c : Chord) → Bytes (slotted c)
    slotted-bytes c = bytes-append (bytes_le 8 0)
        (bytes-append (bytes-append (bytes_le 4 c.tick) (bytes-zeros 4)) (bytes-append (bytes_le 4 c.keys) (bytes-zeros 4)))

    lay-bytes : (d : Option Chord) → Bytes (lay_for 0 c d)
    lay-bytes none = bytes-append (bytes_le 8 2) (bytes-append (bytes_le 8 (24 * 2 ^ 32 + 24)) (bytes-append (bytes_le 8 0) (slotted-bytes c)))
    lay-bytes (some d) = bytes-append (bytes_le 8 0) (bytes-append (bytes_le 8 (24 * 2 ^ 32 + 24))
        (bytes-append (bytes_le 8 (48 * 2 ^ 32 + 24)) (bytes-append (slotted-bytes c) (slotted-bytes d))))

row-short : (c : Chord) (d : Option Chord) → Proper c → SecondProper d → length (row_for c d) ≤ 16384
row-short c none p q = rw (one-long c p) (omega arith)
row-short c (some d) p q = rw (two-long c d p q) (omega arith)

pub row-writes : (c : Chord) (d : Option Chord) → Proper c → SecondProper d → Writes schema (listed c d) (row_for c d)
row-writes c d p q = writes_as schema (listed c d) (row_for c d) schema-good (image-is c d p q ∙ ap some (sym (row_is c d p q))) (row-short c d p q)

-- ---- what its places read

number-lays : (x : ℕ) → x < 2 ^ 32 → Lays (fix i4) (leaf (le 4 x)) (le 4 x)
unfolding codec number width limit types fixed_place bytes
number-lays x h = record { fits = number_fits x h; is = refl }

pub number-reads : (x : ℕ) → x < 2 ^ 32 → (s : Seat) (o : ℕ)
    → answer_of (fix i4) (own (fix i4) s o (le 4 x) (seen s o (le 4 x))) ≡ signed (to_signed (half_of 4) x)
unfolding answer_of value_of
number-reads x h s o =
    let e = own-holds (fix i4) (leaf (le 4 x)) s o (le 4 x) (seen s o (le 4 x)) (number-lays x h) (rw length-le (omega arith)) in
    ap (answer_of (fix i4)) e ∙ ap (λ (n : ℕ). signed (to_signed (half_of 4) n)) (num-le 4 x h)

-- stroke i of the row is the chord's
pub record Holds (row : List ℕ) (i : ℕ) (c : Chord) : Type 0 where
  pub there : no_stroke row i ≡ false
  pub tick : read_of schema row (i ∷ 0 ∷ []) ≡ signed (to_signed (half_of 4) c.tick)
  pub keys : read_of schema row (i ∷ 1 ∷ []) ≡ signed (to_signed (half_of 4) c.keys)

holds-first : (u : ℕ) (c : Chord) (d : Option Chord) → Proper c → Holds (lay_for u c d) 0 c
unfolding computes no_stroke
holds-first u c none p = record { there = refl; tick = number-reads c.tick p.tick _ _; keys = number-reads c.keys p.keys _ _ }
holds-first u c (some d) p = record { there = refl; tick = number-reads c.tick p.tick _ _; keys = number-reads c.keys p.keys _ _ }

holds-second : (u : ℕ) (c d : Chord) → Proper d → Holds (lay_for u c (some d)) 1 d
unfolding computes no_stroke
holds-second u c d p = record { there = refl; tick = number-reads d.tick p.tick _ _; keys = number-reads d.keys p.keys _ _ }

chord-is : (row : List ℕ) (i : ℕ) (c : Chord) → Proper c → Holds row i c → chord_at row i ≡ c
unfolding chord_at
chord-is row i c p h = rw (h.tick, h.keys, bits_back c.tick p.tick, bits_back c.keys p.keys)

pub row-free : (c : Chord) → Proper c → no_stroke (row_for c none) 1 ≡ true
unfolding computes no_stroke
row-free c p = rw (row_is c none p tt)

pub row-full : (c d : Chord) → Proper c → Proper d → no_stroke (row_for c (some d)) 1 ≡ false
row-full c d p q = rw (row_is c (some d) p q) (holds-second 0 c d q).there

pub row_first : (c : Chord) (d : Option Chord) → Proper c → SecondProper d → chord_at (row_for c d) 0 ≡ c
row_first c d p q = rw (row_is c d p q) (chord-is (lay_for 0 c d) 0 c p (holds-first 0 c d p))

pub row-second : (c d : Chord) → Proper c → Proper d → chord_at (row_for c (some d)) 1 ≡ d
row-second c d p q = rw (row_is c (some d) p q) (chord-is (lay_for 0 c (some d)) 1 d q (holds-second 0 c d q))

-- ---- a log may have it

-- a row that stands for contents has no fault
pub lays-faultless : (t : Ty) (c : Cell) (row : List ℕ) → Lays t c row → length row < 2 ^ 32 → fault_at t row ≡ none
lays-faultless t c row y h = no-fault ((codec t).get row) (decode-lays t c row y h)

-- neither number of stroke i is null
record Plain (row : List ℕ) (i : ℕ) : Type 0 where
  tick : no_number row i 0 ≡ false
  keys : no_number row i 1 ≡ false

holds_plain : (row : List ℕ) (i : ℕ) (c : Chord) → Holds row i c → Plain row i
unfolding no_number
holds_plain row i c h = record { tick = rw h.tick; keys = rw h.keys }

-- a path through a null ends in a refusal, which is no null
second_plain : (u : ℕ) (c : Chord) (d : Option Chord) → SecondProper d → Plain (lay_for u c d) 1
unfolding computes no_number
second_plain u c none q = record { tick = refl; keys = refl }
second_plain u c (some d) q = holds_plain (lay_for u c (some d)) 1 d (holds-second u c d q)

sound-of : (row : List ℕ) → length row ≤ 16384 → fault_at (ro (fields_of schema)) row ≡ none → no_stroke row 0 ≡ false → Plain row 0 → Plain row 1
    → row_bad row ≡ none
unfolding row_bad nulls_bad
sound-of row h f n a b = rw (le-leb (length row) 16384 h, f, n, a.tick, a.keys, b.tick, b.keys)

-- of two strokes
pub both-sound : (row : List ℕ) (c d : Chord) → length row ≤ 16384 → fault_at (ro (fields_of schema)) row ≡ none → Holds row 0 c → Holds row 1 d
    → row_bad row ≡ none
both-sound row c d h f a b = sound-of row h f a.there (holds_plain row 0 c a) (holds_plain row 1 d b)

lay-short : (u : ℕ) (c : Chord) (d : Option Chord) → length (lay_for u c d) ≤ 16384
unfolding le
lay-short u c none = omega arith
lay-short u c (some d) = omega arith

-- the word under the null is any
pub lay-sound : (u : ℕ) (c : Chord) (d : Option Chord) → Proper c → SecondProper d → row_bad (lay_for u c d) ≡ none
lay-sound u c d p q =
    let t = ro (fields_of schema) in
    let y : Lays t (cell_for u c d) (lay_for u c d) = rw (content-is u c d) at (lays-content t (cell_for u c d) (cell-fits u c d p q)) in
    let f = lays-faultless t (cell_for u c d) (lay_for u c d) y (omega (arith, lay-short u c d)) in
    let first = holds-first u c d p in
    sound-of (lay_for u c d) (lay-short u c d) f first.there (holds_plain (lay_for u c d) 0 c first) (second_plain u c d q)

pub row-sound : (c : Chord) (d : Option Chord) → Proper c → SecondProper d → row_bad (row_for c d) ≡ none
row-sound c d p q = rw (row_is c d p q) (lay-sound 0 c d p q)

-- ---- words put one behind another

pub stroke-put : (b : List ℕ) {b₁ b₂ b₃ : List ℕ} (at : ℕ) (c : Chord)
    → b₁ ≡ sets b at (le 8 0) → b₂ ≡ sets b₁ (at + 8) (le 8 c.tick) → b₃ ≡ sets b₂ (at + 16) (le 8 c.keys) → b₃ ≡ sets b at (stroke_bytes c)
stroke-put b at c e₁ e₂ e₃ =
    let t = le 8 c.tick in
    let h : at + 8 ≡ at + length (le 8 0) = rw length-le in
    let k : at + 16 ≡ at + length (le 8 0 ++ t) = simp (length-append, length-le) in
    rw (e₃, e₂, e₁, sets_then b at (at + 8) (le 8 0) t h, sets_then b at (at + 16) (le 8 0 ++ t) (le 8 c.keys) k, append_assoc)

-- three words from the first byte on, and then u
words-put : (b : List ℕ) {b₁ b₂ b₃ b₄ : List ℕ} (x y z : ℕ) (u : List ℕ)
    → b₁ ≡ sets b 0 (le 8 x) → b₂ ≡ sets b₁ 8 (le 8 y) → b₃ ≡ sets b₂ 16 (le 8 z) → b₄ ≡ sets b₃ 24 u
    → b₄ ≡ sets b 0 (le 8 x ++ (le 8 y ++ (le 8 z ++ u)))
words-put b x y z u e₁ e₂ e₃ e₄ =
    let h : 8 ≡ 0 + length (le 8 x) = rw length-le in
    let k : 16 ≡ 0 + length (le 8 x ++ le 8 y) = simp (length-append, length-le) in
    let l : 24 ≡ 0 + length ((le 8 x ++ le 8 y) ++ le 8 z) = simp (length-append, length-le) in
    rw (
      e₄,
      e₃,
      e₂,
      e₁,
      sets_then b 0 8 (le 8 x) (le 8 y) h,
      sets_then b 0 16 (le 8 x ++ le 8 y) (le 8 z) k,
      sets_then b 0 24 ((le 8 x ++ le 8 y) ++ le 8 z) u l,
      append_assoc (le 8 x ++ le 8 y) (le 8 z) u,
      append_assoc (le 8 x) (le 8 y) (le 8 z ++ u),
    )

pub one-put : (b : List ℕ) {b₁ b₂ b₃ b₄ : List ℕ} {y : ℕ} (c : Chord) → Proper c → length b ≡ 48
    → b₁ ≡ sets b 0 (le 8 2) → y ≡ 24 * 2 ^ 32 + 24 → b₂ ≡ sets b₁ 8 (le 8 y) → b₃ ≡ sets b₂ 16 (le 8 0) → b₄ ≡ sets b₃ 24 (stroke_bytes c)
    → b₄ ≡ row_for c none
one-put b c p n e₁ v e₂ e₃ e₄ =
    words-put b 2 (24 * 2 ^ 32 + 24) 0 (stroke_bytes c) e₁ (rw v at e₂) e₃ e₄ ∙ ap (sets b 0) (sym (one-is c p))
    ∙ sets-whole b (row_for c none) (one-long c p ∙ sym n)

pub two-put : (b : List ℕ) {b₁ b₂ b₃ b₄ b₅ : List ℕ} {y z : ℕ} (c d : Chord) → Proper c → Proper d → length b ≡ 72
    → b₁ ≡ sets b 0 (le 8 0) → y ≡ 24 * 2 ^ 32 + 24 → b₂ ≡ sets b₁ 8 (le 8 y) → z ≡ 48 * 2 ^ 32 + 24 → b₃ ≡ sets b₂ 16 (le 8 z)
    → b₄ ≡ sets b₃ 24 (stroke_bytes c) → b₅ ≡ sets b₄ 48 (stroke_bytes d) → b₅ ≡ row_for c (some d)
two-put b {b₃ = b₃} c d p q n e₁ v e₂ w e₃ e₄ e₅ =
    let l : 48 ≡ 24 + length (stroke_bytes c) = simp (length-append, length-le) in
    let both = e₅ ∙ ap (λ (x : List ℕ). sets x 48 (stroke_bytes d)) e₄ ∙ sets_then b₃ 24 48 (stroke_bytes c) (stroke_bytes d) l in
    words-put b 0 (24 * 2 ^ 32 + 24) (48 * 2 ^ 32 + 24) (stroke_bytes c ++ stroke_bytes d) e₁ (rw v at e₂) (rw w at e₃) both
    ∙ ap (sets b 0) (sym (two_is c d p q)) ∙ sets-whole b (row_for c (some d)) (two-long c d p q ∙ sym n)
