-- A type's own rules as a test, and the code's tests. Assumes nothing.
use mathlib.Core.Path.{◌≡◌, refl, sym, ap, ◌∙◌}
use mathlib.Core.Bool.{Bool, true, false}
use mathlib.Core.List.{List}
use Prim.Native.Nat.{ℕ, zero, suc, ◌+◌, ◌*◌, ◌-◌, ◌%◌, ◌^◌, ◌≤◌, ◌<◌}
use native.Mathlib.Nat.{le-mul_of_pos_right, mul-le-mul_left}
use native.Mathlib.Omega.{arith}
use native.Mathlib.Decide.{dec_le, ℕ_discrete}
use lib.Dec.{eqb, leb, ltb}
use lib.ListN.{length, take, drop, get_or}
use lib.Seq.{take-take}
use mir.Syntax.{w64}
use mir.Val.{Fits}
use borrow.Author.Tests.{le-leb, lt-leb, eq-eqb, ne_eqb, lt-ltb, le-ltb, leb-true}
use Rattle.words.specs.Bytes.{Bytes, num, part, bitmap, pad}
use Rattle.words.specs.Tests.{is_yes}
use Rattle.words.proofs.Parts.{length_part}
use Rattle.words.proofs.NumLaws.{part-lt, num-one}
use Rattle.schema.specs.Marks.{types, line, element_width}
use Rattle.schema.specs.Kinds.{pick}
use Rattle.schema.specs.Types.{bo, i1, i2, i4, i8, f4, f8, st, bi, Ty, fix, text, li, ma, ro, width, fixed_at, text_at, fixed_place, text_place, place}
use Rattle.schema.proofs.Table.{width-pos, line-width}
use Rattle.schema.proofs.Typing.{typed-count}
use Rattle.schema.proofs.Places.{typed-place}
use Rattle.layout.specs.Layout.{spells?, slot_of, front, limit, codec}
use Rattle.layout.specs.Refusals.{Refusal, broken_at}
use Rattle.layout.specs.Walk.{Seat, Seen, bad, must, own}
use Rattle.table.specs.Words.{place_in, count_in}
use Rattle.spelling.specs.Spelling.{Spelling}
use Rattle.table.specs.Tables as S
use Rattle.table.specs.Tables.{schema_of, pos_of, EntryAt}
use Rattle.reading.specs.Children.{seat_as, wide_of}
use Rattle.reading.specs.Opening.{held_ty}
use Rattle.reading.specs.Places.{slot_width, list_holds, map_holds, struct_holds, holds_of, broken_in, by_size, Row, Leaf, Rests, place_ty, bytes_of, Breaks}
use Rattle.reading.specs.declared.Place.{Place}
use Rattle.reading.proofs.Pointing.{wide-8, slot-codec}
use Rattle.reading.proofs.Opening.{ty-fixed, ty-text, ty-list, ty-map, ty_struct, leaf-width}

-- ---- the rules

must-le : (a b : ℕ) (q : Dec (a ≤ b)) (r : Refusal) (s : Seen) → must q r s ≡ pick (leb a b) s (bad r)
unfolding must
must-le a b (yes p) r s = rw (le-leb a b p)
must-le a b (no n) r s = rw (lt-leb a b (omega arith))

must-lt : (a b : ℕ) (q : Dec (a < b)) (r : Refusal) (s : Seen) → must q r s ≡ pick (ltb a b) s (bad r)
unfolding must
must-lt a b (yes p) r s = rw (lt-ltb a b p)
must-lt a b (no n) r s = rw (le-ltb a b (omega arith))

must-eq : (a b : ℕ) (q : Dec (a ≡ b)) (r : Refusal) (s : Seen) → must q r s ≡ pick (eqb a b) s (bad r)
unfolding must
must-eq a b (yes p) r s = rw (eq-eqb a b p)
must-eq a b (no n) r s = rw (ne_eqb a b n)

must-yes : {P : Type 0} (q : Dec P) (r : Refusal) (s : Seen) → must q r s ≡ pick (is_yes q) s (bad r)
unfolding must is_yes
must-yes (yes p) r s = refl
must-yes (no n) r s = refl

pick-pick : (t u : Bool) (s z : Seen) → pick t (pick u s z) z ≡ pick (pick t u false) s z
pick-pick true u s z = refl
pick-pick false u s z = refl

-- the slot where the size is too small, else what the rest says
pick_two : (t u : Bool) (x : Seen) (o p : ℕ) → pick t (pick u x (bad (broken_at o))) (bad (broken_at p)) ≡ pick (pick t u false) x (bad (broken_at (pick t o p)))
pick_two true u x o p = refl
pick_two false u x o p = refl

pub own_is : (t : Ty) (s : Seat) (o : ℕ) (b : List ℕ) (x : Seen) → own t s o b x ≡ pick (holds_of t b) x (bad (broken_at (broken_in t s o b)))
unfolding own holds_of broken_in list_holds map_holds struct_holds
own_is (fix f) s o b x = must-lt (num b) (limit f) _ (broken_at o) x
own_is (text t) s o b x = must-yes (spells? t b) (broken_at s.slot) x
own_is (li t) s o b x =
    ap (must (dec_le 8 (length b)) (broken_at s.slot)) (must-le _ _ _ (broken_at o) x) ∙ must-le 8 (length b) _ (broken_at s.slot) _
    ∙ pick_two (leb 8 (length b)) _ x o s.slot
own_is (ma k v) s o b x =
    ap (λ (y : Seen). must (dec_le 8 (length b)) (broken_at s.slot) (must (ℕ_discrete (num (take 8 b) % 8) 0) (broken_at o) y))
    (must-le (8 + num (take 8 b)) (length b) _ (broken_at o) x)
    ∙ ap (must (dec_le 8 (length b)) (broken_at s.slot))
    (must-eq (num (take 8 b) % 8) 0 _ (broken_at o) _ ∙ pick-pick (eqb (num (take 8 b) % 8) 0) _ x (bad (broken_at o)))
    ∙ must-le 8 (length b) _ (broken_at s.slot) _ ∙ pick_two (leb 8 (length b)) _ x o s.slot
own_is (ro ts) s o b x = must-le _ _ _ (broken_at s.slot) x

-- what the test says where it holds
pick-both : (t u : Bool) → pick t u false ≡ true → (t ≡ true) × (u ≡ true)
pick-both true u e = (refl, e)
pick-both false u e = let z : ◌≡◌ {A = ℕ} 0 1 = cc in absurd (omega arith)

pub record ListHolds (w : ℕ) (b : List ℕ) : Type 0 where
  pub header : 8 ≤ length b
  pub fixed : front 8 w (num (take 8 b)) ≤ length b

pub list-says : (t : Ty) (b : List ℕ) → holds_of (li t) b ≡ true → ListHolds (slot_of (codec t).wide) b
unfolding holds_of list_holds
list-says t b e = let p = pick-both (leb 8 (length b)) _ e in record { header = leb-true _ _ p.0; fixed = leb-true _ _ p.1 }

pub record MapHolds (b : List ℕ) : Type 0 where
  pub header : 8 ≤ length b
  pub keys : 8 + num (take 8 b) ≤ length b

pub map-says : (k v : Ty) (b : List ℕ) → holds_of (ma k v) b ≡ true → MapHolds b
unfolding holds_of map_holds
map-says k v b e =
    let p = pick-both (leb 8 (length b)) _ e in
    let q = pick-both (eqb (num (take 8 b) % 8) 0) _ p.1 in
    record { header = leb-true _ _ p.0; keys = leb-true _ _ q.1 }

-- ---- widths

pub slot-zero : (v : ℕ) → v ≡ 0 → 8 ≡ slot_width v
unfolding slot_width
slot-zero v e = rw e

pub slot_same : (v : ℕ) → (v ≡ 0 → ⊥) → v ≡ slot_width v
unfolding slot_width
slot_same zero h = absurd (h refl)
slot_same (suc v) h = refl

pub slot-some : (v : ℕ) → 0 < slot_width v
unfolding slot_width
slot-some zero = omega arith
slot-some (suc v) = omega arith

pub slot-enough : (v : ℕ) → v ≤ slot_width v
unfolding slot_width
slot-enough zero = omega arith
slot-enough (suc v) = omega arith

pub slot-most : (v : ℕ) → v ≤ 8 → slot_width v ≤ 8
unfolding slot_width
slot-most zero h = omega arith
slot-most (suc v) h = h

pub fixed-some : (k : ℕ) → k < 7 → 0 < (line k).width
fixed-some k h = omega (arith, line-width k h, width-pos (fixed_at k))

pub leaf-some : {row : List ℕ} {k base size : ℕ} → Leaf row k base size → base < length row
leaf-some {row} {k} l = omega (arith, l.within, l.sized, fixed-some k l.leaf)

-- an element's bytes, by its type's place in the table of types
element_place : (y : Ty) → element_width (place y) ≡ slot_width (wide_of y)
unfolding element_width place slot_width wide_of width fixed_place text_place types
element_place (fix bo) = refl
element_place (fix i1) = refl
element_place (fix i2) = refl
element_place (fix i4) = refl
element_place (fix i8) = refl
element_place (fix f4) = refl
element_place (fix f8) = refl
element_place (text st) = refl
element_place (text bi) = refl
element_place (li y) = refl
element_place (ma a b) = refl
element_place (ro ys) = refl

pub element-wide : {t : List ℕ} {c w r : ℕ} → S.InTable t c 7 → EntryAt t c 7 w → r ≡ element_width (place_in w) → r ≡ slot_width (wide_of (held_ty t c))
element-wide {t} {c} {w} h e q =
    q ∙ ap element_width (e.place ∙ typed-place (schema_of t) (pos_of t c) 7 h.typed) ∙ element_place (held_ty t c)

-- ---- the code's tests

pub bool-holds : (k : ℕ) {row : List ℕ} {base size x : ℕ} → Leaf row k base size → k ≡ 0 → x ≡ get_or row base 0
    → ltb x 2 ≡ holds_of (fix (fixed_at k)) (part row base size)
unfolding holds_of fixed_at limit types
bool-holds zero {row} {base} {size} l z e =
    let one : size ≡ 1 = l.sized in
    rw (one, num-one row base (omega (arith, l.within)), e)
bool-holds (suc k) l z e = absurd (omega arith)

number-holds : (row : List ℕ) (base size w : ℕ) → Bytes row → base + size ≤ length row → size ≡ w → true ≡ ltb (num (part row base size)) (256 ^ w)
number-holds row base size w b h e = sym (lt-ltb _ (256 ^ w) (rw (← e) (part-lt base size b h)))

pub leaf-holds : (k : ℕ) {row : List ℕ} {base size : ℕ} → Leaf row k base size → (k ≡ 0 → ⊥) → Bytes row → true ≡ holds_of (fix (fixed_at k)) (part row base size)
unfolding holds_of fixed_at limit types
leaf-holds zero {row} {base} {size} l z b = absurd (z refl)
leaf-holds (suc zero) {row} {base} {size} l z b = number-holds row base size 1 b l.within l.sized
leaf-holds (suc (suc zero)) {row} {base} {size} l z b = number-holds row base size 2 b l.within l.sized
leaf-holds (suc (suc (suc zero))) {row} {base} {size} l z b = number-holds row base size 4 b l.within l.sized
leaf-holds (suc (suc (suc (suc zero)))) {row} {base} {size} l z b = number-holds row base size 8 b l.within l.sized
leaf-holds (suc (suc (suc (suc (suc zero))))) {row} {base} {size} l z b = number-holds row base size 4 b l.within l.sized
leaf-holds (suc (suc (suc (suc (suc (suc zero)))))) {row} {base} {size} l z b = number-holds row base size 8 b l.within l.sized
leaf-holds (suc (suc (suc (suc (suc (suc (suc k))))))) {row} {base} {size} l z b = absurd (omega (arith, l.leaf))

module _ {row : List ℕ} {base size : ℕ} (R : Row row base size) where
  whole : length (part row base size) ≡ size
  whole = length_part row base size R.within

  -- a header's number
  pub header_is : 8 ≤ size → {n : ℕ} → n ≡ num (part row base 8) → num (take 8 (part row base size)) ≡ n
  header_is h q = rw (take-take 8 size (drop base row) h) (sym q)

  pub short-list : (w : ℕ) → size < 8 → false ≡ list_holds w (part row base size)
  unfolding list_holds
  short-list w h = rw (whole, lt-leb 8 size h)

  pub short-map : size < 8 → false ≡ map_holds (part row base size)
  unfolding map_holds
  short-map h = rw (whole, lt-leb 8 size h)

  module _ (h : 8 ≤ size) {n : ℕ} (q : n ≡ num (part row base 8)) where
    pub long-list : {w : ℕ} → 0 < w → size < n → false ≡ list_holds w (part row base size)
    unfolding list_holds
    long-list {w} s l = rw (whole, le-leb 8 size h, header_is h q, lt-leb (front 8 w n) size (omega (arith, le-mul_of_pos_right n s)))

    pub list-test : (w : ℕ) {m p : ℕ} → m ≡ bitmap n → p ≡ pad (n * w) → leb (8 + m + p) size ≡ list_holds w (part row base size)
    unfolding list_holds
    list-test w e f = rw (whole, le-leb 8 size h, header_is h q, e, f)

    pub odd-map : (n % 8 ≡ 0 → ⊥) → false ≡ map_holds (part row base size)
    unfolding map_holds
    odd-map e = rw (whole, le-leb 8 size h, header_is h q, ne_eqb (n % 8) 0 e)

    leb-move : Dec (8 + n ≤ size) → leb n (size - 8) ≡ leb (8 + n) size
    leb-move (yes p) = rw (le-leb (8 + n) size p, le-leb n (size - 8) (omega arith))
    leb-move (no p) = rw (lt-leb (8 + n) size (omega arith), lt-leb n (size - 8) (omega arith))

    pub map-test : n % 8 ≡ 0 → leb n (size - 8) ≡ map_holds (part row base size)
    unfolding map_holds
    map-test e = rw (whole, le-leb 8 size h, header_is h q, eq-eqb (n % 8) 0 e) (leb-move (dec_le (8 + n) size))

pub struct-test : (n size : ℕ) {m p : ℕ} → m ≡ bitmap n → p ≡ pad (n * 8) → leb (m + p) size ≡ struct_holds n size
unfolding struct_holds
struct-test n size {m} {p} e f = let z : 0 + bitmap n + pad (n * 8) ≡ m + p = omega arith in rw z

-- the sizes of a list's parts fit
module _ {row : List ℕ} {base size w : ℕ} (R : Row row base size × (0 < w) × (w ≤ 8)) {n : ℕ} (h : n ≤ size) where
  list-room : n * w ≤ 131072
  list-room = omega (arith, mul-le-mul_left {m = w} {n = 8} n R.2, R.0.within, R.0.short)

  pub slots-fit : Fits w64 (n * w)
  slots-fit = omega (arith, list-room)

  pub slots-pad : n * w < 2 ^ 40
  slots-pad = omega (arith, list-room)

  pub front_fits : {m p : ℕ} → m ≡ bitmap n → p ≡ pad (n * w) → Fits w64 (8 + m + p)
  front_fits e f = omega (arith, list-room, e, f, h, R.0.within, R.0.short)

element-fits : (t : Ty) (w : ℕ) → w ≡ slot_width (wide_of t) → (0 < w) × (w ≤ 8)
element-fits t w g = (rw g (slot-some (wide_of t)), rw g (slot-most (wide_of t) (wide-8 t)))

-- ---- of a place, by what it is

module _ {t row : List ℕ} {p : Place} (R : Rests t row p) where
  pub rest-leaf : p.opened.kind < 7 → Leaf row p.opened.kind p.start p.len
  rest-leaf h = record { within = R.within; leaf = h; sized = R.sized h ∙ leaf-width R.is.kinded (λ e. omega arith) }

  pub rest-row : Row row p.start p.len
  rest-row = record { within = R.within; short = R.short }

  pub rest-list : p.opened.kind ≡ 9 → S.InTable t p.opened.first 7
  rest-list e = record { table = R.is.table; typed = R.is.list e }

  pub list-fits : (c : ℕ) {w : ℕ} → w ≡ slot_width (wide_of (held_ty t c)) → Row row p.start p.len × (0 < w) × (w ≤ 8)
  list-fits c g = let f = element-fits (held_ty t c) _ g in (rest-row, f.0, f.1)

  pub rest-size : length (bytes_of row p) ≡ p.len
  rest-size = length_part row p.start p.len R.within

  pub leaf-as : p.opened.kind < 7 → {b : Bool} → b ≡ holds_of (fix (fixed_at p.opened.kind)) (bytes_of row p)
      → b ≡ holds_of (place_ty t p) (bytes_of row p)
  leaf-as h u = rw (ty-fixed t p.opened h) u

  pub text-as : 7 ≤ p.opened.kind → p.opened.kind < 9 → {b : Bool}
      → Spelling (text_at p.opened.kind) (part row p.start (p.start + p.len - p.start)) b
      → b ≡ holds_of (place_ty t p) (bytes_of row p)
  unfolding holds_of
  text-as g h u = let e : p.start + p.len - p.start ≡ p.len = omega arith in rw (ty-text t p.opened g h) (rw e at u.is)

  pub list-as : p.opened.kind ≡ 9 → {w : ℕ} → w ≡ slot_width (wide_of (held_ty t p.opened.first))
      → {b : Bool} → b ≡ list_holds w (bytes_of row p) → b ≡ holds_of (place_ty t p) (bytes_of row p)
  unfolding holds_of
  list-as e g u = rw (ty-list t p.opened e, slot-codec (held_ty t p.opened.first), ← g) u

  pub map-as : p.opened.kind ≡ 10 → {b : Bool} → b ≡ map_holds (bytes_of row p) → b ≡ holds_of (place_ty t p) (bytes_of row p)
  unfolding holds_of
  map-as e u = rw (ty-map t p.opened e) u

  pub count_small : p.opened.kind ≡ 11 → {n : ℕ} → n ≡ count_in p.opened.entry → n ≤ 128
  count_small e q = omega (arith, (R.is.struct e).high)

  pub struct-as : p.opened.kind ≡ 11 → {n : ℕ} → n ≡ count_in p.opened.entry
      → {b : Bool} → b ≡ struct_holds n p.len → b ≡ holds_of (place_ty t p) (bytes_of row p)
  unfolding holds_of
  struct-as e q u =
      let c = typed-count (schema_of t) (pos_of t p.opened.first) 7 (count_in p.opened.entry) (R.is.struct e).types in
      rw (ty_struct t p.opened e, c, rest-size, ← q) u

-- where it is broken, as the code says it
by-size : (size slot header : ℕ) → by_size size slot header ≡ pick (leb 8 size) header slot
by-size size slot header = go (dec_le 8 size)
  where
    go : Dec (8 ≤ size) → by_size size slot header ≡ pick (leb 8 size) header slot
    go (yes h) = rw (le-leb 8 size h, le-ltb size 8 h)
    go (no h) = rw (lt-leb 8 size (omega arith), lt-ltb size 8 (omega arith))

pub size_few : (size slot header : ℕ) → size < 8 → slot ≡ by_size size slot header
size_few size slot header h = rw (lt-ltb size 8 h)

pub size-enough : (size slot header : ℕ) → 8 ≤ size → header ≡ by_size size slot header
size-enough size slot header h = rw (le-ltb size 8 h)

module _ (p : Place) where
  pub leaf-breaks : p.opened.kind < 7 → Breaks p p.start
  unfolding broken_in
  leaf-breaks h t row R = rw (ty-fixed t p.opened h)

  pub text-breaks : 7 ≤ p.opened.kind → p.opened.kind < 9 → Breaks p p.seat.slot
  unfolding broken_in
  text-breaks g h t row R = rw (ty-text t p.opened g h)

  pub struct-breaks : p.opened.kind ≡ 11 → Breaks p p.seat.slot
  unfolding broken_in
  struct-breaks e t row R = rw (ty_struct t p.opened e)

  -- a list, or else a map
  pub header-breaks : 9 ≤ p.opened.kind → (p.opened.kind ≡ 11 → ⊥) → {q : ℕ} → q ≡ by_size p.len p.seat.slot p.start → Breaks p q
  unfolding broken_in
  header-breaks l n {q} u t row R = go (ℕ_discrete p.opened.kind 9)
    where
      v : q ≡ pick (leb 8 (length (bytes_of row p))) p.start p.seat.slot
      v = u ∙ by-size p.len p.seat.slot p.start ∙ rw (rest-size R)

      go : Dec (p.opened.kind ≡ 9) → q ≡ broken_in (place_ty t p) (seat_as p.seat) p.start (bytes_of row p)
      go (yes e) = rw (ty-list t p.opened e) v
      go (no m) = rw (ty-map t p.opened (omega (arith, R.is.kinded.few))) v
