-- What one place adds to the card, by what was found there. Assumes nothing.
use mathlib.Core.Path.{◌≡◌, refl, sym, ap, ◌∙◌}
use mathlib.Core.Bool.{Bool, true, false, cond, true≢false}
use mathlib.Core.Option.{Option, some}
use mathlib.Core.List.{List, []}
use Prim.Native.Nat.{ℕ, ◌≤◌, ◌<◌}
use native.Mathlib.Omega.{arith}
use native.Mathlib.Decide.{dec_lt, ℕ_discrete}
use Rattle.std.specs.Prelude.{Result, Ok, Err}
use lib.Ieee.{Format, binary32, binary64, nan_bits, to_bits}
use lib.ListN.{length, take, drop}
use lib.Seq.{take-take}
use Rattle.words.specs.Bytes.{num, part}
use Rattle.words.proofs.Parts.{length_part}
use Rattle.schema.specs.Marks.{types, mark_at}
use Rattle.schema.specs.Types.{Fixed, bo, i1, i2, i4, i8, f4, f8, Ty, ro, place, mark}
use Rattle.schema.specs.Walk.{fields_of}
use Rattle.schema.proofs.Table.{place-fixed, place-text}
use Rattle.layout.specs.Reading as R
use Rattle.layout.specs.Reading.{Answer, value_of, placed}
use Rattle.table.specs.Words.{mark_in as mark_word, place_in, width_in, top_in}
use Rattle.table.specs.Tables.{schema_of}
use Rattle.answers.specs.declared.Answer.{Answer as Case}
use Rattle.answers.specs.declared.Answer.TheVariants as A
use Rattle.answers.specs.declared.Path.{Path}
use Rattle.answers.specs.declared.Refusal.{Refusal}
use Rattle.answers.specs.Meaning.{plain, float, no_answer, meaning, Read, read_means}
use Rattle.answers.specs.Paths.{path_of}
use Rattle.reading.specs.Opening.{open_ty, Kinded}
use Rattle.reading.specs.Places.{bytes_of, PlaceHolds}
use Rattle.reading.specs.Finding.{root_ty, Finds}
use Rattle.reading.specs.Texts.{count_of, show_of, InRow, Reads}
use Rattle.reading.specs.declared.TypeParts.{TypeParts}
use Rattle.reading.specs.declared.Place.{Place}
use Rattle.reading.specs.declared.Seat.{Seat}
use Rattle.reading.specs.declared.Found.{Found}
use Rattle.reading.specs.declared.Found.TheVariants.{Null, At}
use Rattle.reading.proofs.Opening.{ty-fixed, ty-text, ty-list, ty-map, ty_struct, struct_left, leaf-place}
use Rattle.reading.proofs.Rules.{list-says}
use Rattle.reading.proofs.Shown.{show-leaf, show-text, show-holder, count-list, count_map, count-struct}
use Rattle.reading.proofs.Shown.{read-refused, read-null, read_at}
use Rattle.row.proofs.Numbers.{read-gives}
use Rattle.lettering.specs.Text.{Puts}
use Rattle.lettering.proofs.Putting.{puts_none, puts-as}
use Rattle.leaves.specs.Lines.{line}
use Rattle.leaves.specs.Room.{LineRoom}
use Rattle.leaves.specs.Places.{has_line, below, mark_in, text_at, Shows, Says, ShowRoom}
use Rattle.leaves.proofs.Lengths.{line-most}

-- ---- the mark of a type taken apart

mark-open : (t : List ℕ) {x : TypeParts} → Kinded x → mark_at x.kind ≡ mark (open_ty t x)
unfolding mark place
mark-open t {x} k = go (dec_lt x.kind 7) (dec_lt x.kind 9) (ℕ_discrete x.kind 9) (ℕ_discrete x.kind 10)
  where
    go : Dec (x.kind < 7) → Dec (x.kind < 9) → Dec (x.kind ≡ 9) → Dec (x.kind ≡ 10) → mark_at x.kind ≡ mark (open_ty t x)
    go (yes h) l y z = rw (ty-fixed t x h) (ap mark_at (sym (place-fixed x.kind h)))
    go (no h) (yes l) y z = rw (ty-text t x (omega arith) l) (ap mark_at (sym (place-text x.kind (omega arith) l)))
    go (no h) (no l) (yes e) z = rw (ty-list t x e) (ap mark_at e)
    go (no h) (no l) (no y) (yes e) = rw (ty-map t x e) (ap mark_at e)
    go (no h) (no l) (no y) (no z) = let e = struct_left k (omega arith) y z in rw (ty_struct t x e) (ap mark_at e)

mark-in : (t : List ℕ) {x : TypeParts} {w : ℕ} {o : Option Ty} → Kinded x → Says x w → some (open_ty t x) ≡ o → mark_at (place_in w) ≡ mark_in o
unfolding mark_in
mark-in t k y e = ap mark_at y.kind ∙ mark-open t k ∙ ap mark_in e

pub says-own : {x : TypeParts} → Kinded x → (x.kind ≡ 9 → ⊥) → Says x x.entry
says-own k h = record { lined = k.lined; kind = k.own h }

says-leaf : {x : TypeParts} → Kinded x → x.kind < 9 → Says x x.entry
says-leaf k h = record { lined = k.lined; kind = leaf-place k h }

-- the line of a list in the table of types
pub says-list : {x : TypeParts} → x.kind ≡ 9 → Says x 2415946092
unfolding place_in mark_word width_in top_in mark_at types num
says-list e = record { lined = record { few = omega arith; mark = refl; width = refl; top = refl }; kind = sym e }

-- ---- what an answer says of the line and of the places below

value_line : (f : Fixed) (b : List ℕ) → has_line (value_of f b) ≡ true
unfolding value_of has_line
value_line bo b = refl
value_line i1 b = refl
value_line i2 b = refl
value_line i4 b = refl
value_line i8 b = refl
value_line f4 b = refl
value_line f8 b = refl

leaf-shown : (row : List ℕ) (y : Place) → y.opened.kind < 9 → has_line (show_of row y) ≡ true
unfolding has_line
leaf-shown row y l = go (dec_lt y.opened.kind 7)
  where
    go : Dec (y.opened.kind < 7) → has_line (show_of row y) ≡ true
    go (yes h) = ap has_line (sym (show-leaf row y h refl)) ∙ value_line _ _
    go (no h) = ap has_line (sym (show-text row y (omega arith) l))

open-shown : (row : List ℕ) (y : Place) → 9 ≤ y.opened.kind → has_line (show_of row y) ≡ false
unfolding has_line
open-shown row y l = ap has_line (sym (show-holder row y l refl))

none_below : (a : Answer) → has_line a ≡ true → 0 ≡ below a
unfolding has_line below
none_below R.null h = refl
none_below (R.bool v) h = refl
none_below (R.signed z) h = refl
none_below (R.float32 n) h = refl
none_below (R.float64 n) h = refl
none_below (R.bytes o n) h = refl
none_below (R.container o n k) h = absurd (true≢false (sym h))
none_below (R.refused n) h = refl

-- ---- counts: a list's bitmap lies in the row

module _ {t row : List ℕ} {y : Place} (S : PlaceHolds t row y) where
  list-few : y.opened.kind ≡ 9 → num (part row y.start 8) ≤ 131072
  list-few e =
      let within = S.rests.within in
      let short = S.rests.short in
      let long : length (bytes_of row y) ≡ y.len = length_part row y.start y.len within in
      let l = list-says _ (bytes_of row y) (rw (ty-list t y.opened e) at S.holds) in
      let same : num (take 8 (bytes_of row y)) ≡ num (part row y.start 8) =
      ap num (take-take 8 y.len (drop y.start row) (omega (arith, l.header))) in
      omega (arith, l.fixed)

  count-few : 9 ≤ y.opened.kind → count_of row y.opened y.start ≤ 131072
  count-few l = go (ℕ_discrete y.opened.kind 9) (ℕ_discrete y.opened.kind 10)
    where
      go : Dec (y.opened.kind ≡ 9) → Dec (y.opened.kind ≡ 10) → count_of row y.opened y.start ≤ 131072
      go (yes e) z = rw (← count-list row y.opened y.start e refl) (list-few e)
      go (no x) (yes e) = rw (← count_map row y.opened y.start e) (omega arith)
      go (no x) (no z) =
          let f = S.rests.is.struct (struct_left S.rests.is.kinded l x z) in
          rw (← count-struct row y.opened y.start x z refl) (omega (arith, f.high))

  few-below : 9 ≤ y.opened.kind → below (show_of row y) ≤ 131072
  unfolding below
  few-below l = rw (← show-holder row y l refl) (count-few l)

-- ---- the text of a place

module _ {s row p : List ℕ} {r : Read} (G : Reads s row p r) where
  text-none : has_line (read_means r) ≡ false → [] ≡ text_at s row p
  unfolding text_at
  text-none h = rw (← G.means, h)

  text-some : {m : List ℕ} → has_line (read_means r) ≡ true → m ≡ mark_in (placed p (ro (fields_of s)))
      → line p m row (read_means r) ≡ text_at s row p
  unfolding text_at
  text-some h e = rw (← G.means, h, e)

  shows-none : (out : List ℕ) (at n : ℕ) → has_line (read_means r) ≡ false → n ≡ below (read_means r) → n ≤ 131072
      → Shows s row p out at (record { next = at; count = n }) out
  shows-none out at n h e l =
      record { text = puts-as (text-none h) (puts_none out at); count = e ∙ ap below G.means; few = l; most = omega arith }

-- ---- by what was found

module _ {t row out : List ℕ} {path : Path} {at : ℕ} (q : ShowRoom t row path out at) where
  -- where the place reads as a, and the entry w says its mark
  module _ {a : Case} (G : Reads (schema_of t) row (path_of path) (Ok a)) {x : TypeParts} {w : ℕ} (y : Says x w) where
    inside : InRow row (meaning a)
    inside = rw G.means G.within

    line-room : LineRoom out at path w row (meaning a)
    line-room = record {
      room = q.room;
      few = q.few;
      lined = y.lined;
      short = q.opened.short;
      gives = rw G.means (read-gives (schema_of t) row (path_of path));
      within = inside;
    }

    shows-line : {out' : List ℕ} {r : ℕ} → has_line (meaning a) ≡ true → Kinded x → some (open_ty t x) ≡ placed (path_of path) (root_ty t)
        → Puts out at (line (path_of path) (mark_at (place_in w)) row (meaning a)) r out'
        → Shows (schema_of t) row (path_of path) out at (record { next = r; count = 0 }) out'
    shows-line h k e p = record {
      text = puts-as (text-some G h (mark-in t k y e)) p;
      count = none_below (meaning a) h ∙ ap below G.means;
      few = omega arith;
      most = omega (arith, p.next, line-most line-room);
    }

  module _ {f : Result Found Refusal} (F : Finds t row (path_of path) f) where
    pub shows-refused : {r : Refusal} → f ≡ Err r → Shows (schema_of t) row (path_of path) out at (record { next = at; count = 0 }) out
    unfolding has_line below
    shows-refused e = shows-none (read-refused q.opened F e) out at 0 refl refl (omega arith)

    module _ {x : TypeParts} {z : Seat} (e : f ≡ Ok (Null x z)) where
      pub null-kinded : Kinded x
      null-kinded = (rw e at F.lands).is.kinded

      pub null-room : {w : ℕ} → Says x w → LineRoom out at path w row R.null
      null-room y = line-room (read-null q.opened F e) y

      pub shows-null : {w r : ℕ} {out' : List ℕ} → Says x w → Puts out at (line (path_of path) (mark_at (place_in w)) row R.null) r out'
          → Shows (schema_of t) row (path_of path) out at (record { next = r; count = 0 }) out'
      unfolding has_line
      shows-null y p = shows-line (read-null q.opened F e) y refl null-kinded (rw e at F.tells) p

    module _ {y : Place} (e : f ≡ Ok (At y)) (a : Case) (m : meaning a ≡ show_of row y) where
      stands : PlaceHolds t row y
      stands = rw e at F.lands

      kinded : Kinded y.opened
      kinded = stands.rests.is.kinded

      reads : Reads (schema_of t) row (path_of path) (Ok a)
      reads = read_at q.opened F e m

      pub leaf_room : y.opened.kind < 9 → LineRoom out at path y.opened.entry row (meaning a)
      leaf_room h = line-room reads (says-leaf kinded h)

      pub shows-leaf : y.opened.kind < 9 → {r : ℕ} {out' : List ℕ}
          → Puts out at (line (path_of path) (mark_at (place_in y.opened.entry)) row (meaning a)) r out'
          → Shows (schema_of t) row (path_of path) out at (record { next = r; count = 0 }) out'
      shows-leaf h p =
          shows-line reads (says-leaf kinded h) (ap has_line m ∙ leaf-shown row y h) kinded (rw e at F.tells) p

      pub shows-open : 9 ≤ y.opened.kind → {n : ℕ} → n ≡ below (meaning a)
          → Shows (schema_of t) row (path_of path) out at (record { next = at; count = n }) out
      shows-open h {n} c =
          shows-none reads out at n (ap has_line m ∙ open-shown row y h) c (rw (c ∙ ap below m) (few-below stands h))

-- ---- how many places are below, by the case of the answer

float_below : (b : Bool) (f : Format) (n : ℕ) → 0 ≡ below (cond b (float f n) no_answer)
unfolding below
float_below true binary32 n = refl
float_below true binary64 n = refl
float_below false f n = refl

-- no case but a container has places below
pub count_none : (x : Case) → ((o n k : ℕ) → x ≡ A.Container o n k → ⊥) → 0 ≡ below (meaning x)
unfolding below
count_none A.Null h = refl
count_none (A.Bool v) h = refl
count_none (A.Number z) h = refl
count_none (A.Float32 x) h = float_below (plain binary32 x) binary32 (to_bits binary32 x)
count_none (A.Float32Nan b) h = float_below (nan_bits binary32 b) binary32 b
count_none (A.Float64 x) h = float_below (plain binary64 x) binary64 (to_bits binary64 x)
count_none (A.Float64Nan b) h = float_below (nan_bits binary64 b) binary64 b
count_none (A.Bytes o n) h = refl
count_none (A.Container o n k) h = absurd (h o n k refl)

pub count-some : (x : Case) (o n k : ℕ) → x ≡ A.Container o n k → k ≡ below (meaning x)
unfolding below
count-some x o n k e = rw e
