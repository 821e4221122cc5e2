-- What was found, as an answer: the values, the refusals in their order, and the text with its stand-in. Assumes nothing.
use mathlib.Core.Path.{◌≡◌, refl, sym, ap, ◌∙◌, subst}
use mathlib.Core.Bool.{Bool, true, false, cond}
use mathlib.Core.Option.{Option, none, some}
use mathlib.Core.List.{List}
use Prim.Native.Nat.{ℕ, zero, suc, ◌+◌, ◌-◌, ◌≤◌, ◌<◌}
use native.Mathlib.Nat.{lt_of_lt_of_le}
use native.Mathlib.Omega.{arith}
use native.Mathlib.Decide.{dec_lt, ℕ_discrete}
use denote.Ref.{Bor}
use mir.Syntax.{w64}
use mir.Val.{to_z, of_z}
use lib.IntN.{ℤ}
use lib.Dec.{eqb, ltb}
use lib.Ieee.{Format, binary32, binary64, nan_bits, to_bits}
use lib.ListN.{length, take, drop, get_or}
use borrow.Author.Tests.{le-leb, lt-leb, lt-ltb, le-ltb, ne_eqb}
use Rattle.words.specs.Bytes.{Bytes, num, part}
use Rattle.words.specs.Signed.{half_of, to_signed}
use Rattle.words.proofs.NumLaws.{num-one, part-lt}
use Rattle.words.proofs.SignedLaws.{passed, half_le, half-bytes, to_signed-mag}
use Rattle.schema.specs.Marks.{types}
use Rattle.schema.specs.Kinds.{pick}
use Rattle.schema.specs.Types.{Fixed, bo, i1, i2, i4, i8, f4, f8, Ty, fix, text, li, ma, ro, fixed_at}
use Rattle.schema.proofs.Typing.{typed-count}
use Rattle.layout.specs.Refusals.{Refusal, numbered, broken_at}
use Rattle.layout.specs.Walk as W
use Rattle.layout.specs.Walk.{Seen, bad, null_at, seen, root_seat, walk}
use Rattle.layout.specs.Reading as R
use Rattle.layout.specs.Reading.{value_of, answer_of, found, placed, read_in}
use Rattle.layout.specs.Entries.{read_of}
use Rattle.table.specs.Words.{count_in}
use Rattle.table.specs.Tables.{Table, schema_of}
use Rattle.answers.specs.declared.Answer.{Answer}
use Rattle.answers.specs.declared.Answer.TheVariants as A
use Rattle.answers.specs.declared.Refusal.TheVariants as F
use Rattle.answers.specs.Meaning.{meaning, plain, float, no_answer}
use Rattle.reading.specs.Children.{seat_as}
use Rattle.reading.specs.Opening.{open_ty, Kinded}
use Rattle.reading.specs.Places.{place_ty, bytes_of, Leaf, PlaceHolds}
use Rattle.reading.specs.Finding.{found_as, Open, seen_in, root_ty, Finds}
use Rattle.reading.specs.Texts.{count_of, Showable, show_of, InRow, Reads, PartOf, TextOf}
use Rattle.reading.specs.declared.TypeParts.{TypeParts}
use Rattle.reading.specs.declared.Place.{Place}
use Rattle.reading.specs.declared.Found.{Found}
use Rattle.reading.specs.declared.Found.TheVariants.{Null, At}
use Rattle.std.specs.Prelude.{Result, Ok, Err}
use Rattle.answers.specs.declared.Refusal.{Refusal as Answered}
use Rattle.answers.specs.Meaning.{refusal_means, Read, read_means}
use Rattle.reading.proofs.Opening.{ty-fixed, ty-text, ty-list, ty-map, ty_struct, struct_left}
use Rattle.reading.proofs.Rules.{rest-leaf, rest-row, rest-size, header_is, list-says}

-- ---- a leaf's value

module _ {row : List ℕ} {at size : ℕ} where
  pub bool-value : (k : ℕ) → Leaf row k at size → k ≡ 0 → {x : ℕ} → x ≡ get_or row at 0
      → R.bool (eqb x 1) ≡ value_of (fixed_at k) (part row at size)
  unfolding value_of fixed_at types
  bool-value zero l z e =
      let one : size ≡ 1 = l.sized in
      rw (one, num-one row at (omega (arith, l.within)), e)
  bool-value (suc k) l z e = absurd (omega arith)

  pub signed-size : (k : ℕ) → Leaf row k at size → (k ≡ 0 → ⊥) → k < 5 → (at + size ≤ length row) × (0 < size) × (size ≤ 8)
  unfolding types
  signed-size zero l z h = absurd (z refl)
  signed-size (suc zero) l z h = (l.within, omega (arith, l.sized), omega (arith, l.sized))
  signed-size (suc (suc zero)) l z h = (l.within, omega (arith, l.sized), omega (arith, l.sized))
  signed-size (suc (suc (suc zero))) l z h = (l.within, omega (arith, l.sized), omega (arith, l.sized))
  signed-size (suc (suc (suc (suc zero)))) l z h = (l.within, omega (arith, l.sized), omega (arith, l.sized))
  signed-size (suc (suc (suc (suc (suc k))))) l z h = absurd (omega arith)

  signed-at : {k : ℕ} → Leaf row k at size → (w : ℕ) → size ≡ w → {x : ℤ} → x ≡ to_signed (half_of size) (num (part row at size))
      → R.signed x ≡ R.signed (to_signed (half_of w) (num (part row at size)))
  signed-at l w e q = ap R.signed (q ∙ ap (λ (n : ℕ). to_signed (half_of n) (num (part row at size))) e)

  -- a signed number that a call hands on is the number that it is
  pub signed-passed : (k : ℕ) → Leaf row k at size → (k ≡ 0 → ⊥) → k < 5 → Bytes row
      → {z : ℤ} → z ≡ to_signed (half_of size) (num (part row at size)) → to_z w64 (of_z w64 z) ≡ to_signed (half_of size) (num (part row at size))
  signed-passed k l n h b {z} e =
      let m = signed-size k l n h in
      passed z _ e (lt_of_lt_of_le (to_signed-mag (half_of size) (num (part row at size))
      (rw (half-bytes size m.1) (part-lt at size b m.0))) (half_le size m.2))

  pub signed-value : (k : ℕ) → Leaf row k at size → (k ≡ 0 → ⊥) → k < 5 → {x : ℤ} → x ≡ to_signed (half_of size) (num (part row at size))
      → R.signed x ≡ value_of (fixed_at k) (part row at size)
  unfolding value_of fixed_at types
  signed-value zero l z h q = absurd (z refl)
  signed-value (suc zero) l z h q = signed-at l 1 l.sized q
  signed-value (suc (suc zero)) l z h q = signed-at l 2 l.sized q
  signed-value (suc (suc (suc zero))) l z h q = signed-at l 4 l.sized q
  signed-value (suc (suc (suc (suc zero)))) l z h q = signed-at l 8 l.sized q
  signed-value (suc (suc (suc (suc (suc k))))) l z h q = absurd (omega arith)

  float32-size : {k : ℕ} → Leaf row k at size → k ≡ 5 → size ≡ 4
  unfolding types
  float32-size l z = l.sized ∙ rw z

  pub float32-room : {k : ℕ} → Leaf row k at size → k ≡ 5 → at + 4 ≤ length row
  float32-room l z = omega (arith, float32-size l z, l.within)

  pub float32-value : {k : ℕ} → Leaf row k at size → k ≡ 5 → {x : ℕ} → x ≡ num (part row at 4) → (r : Answer) → meaning r ≡ R.float32 x
      → meaning r ≡ value_of (fixed_at k) (part row at size)
  unfolding value_of fixed_at
  float32-value l z e r m = m ∙ rw (z, float32-size l z, e)

  six : {k : ℕ} → Leaf row k at size → 5 ≤ k → (k ≡ 5 → ⊥) → k ≡ 6
  six l g h = omega (arith, l.leaf)

  float64-size : {k : ℕ} → Leaf row k at size → 5 ≤ k → (k ≡ 5 → ⊥) → size ≡ 8
  unfolding types
  float64-size l g h = l.sized ∙ rw (six l g h)

  pub float64-room : {k : ℕ} → Leaf row k at size → 5 ≤ k → (k ≡ 5 → ⊥) → at + 8 ≤ length row
  float64-room l g h = omega (arith, float64-size l g h, l.within)

  pub float64-value : {k : ℕ} → Leaf row k at size → 5 ≤ k → (k ≡ 5 → ⊥) → {x : ℕ} → x ≡ num (part row at 8) → (r : Answer) → meaning r ≡ R.float64 x
      → meaning r ≡ value_of (fixed_at k) (part row at size)
  unfolding value_of fixed_at
  float64-value l g h e r m = m ∙ rw (six l g h, float64-size l g h, e)

-- ---- a place

module _ {t row : List ℕ} {p : Place} (S : PlaceHolds t row p) where
  list-header : p.opened.kind ≡ 9 → 8 ≤ p.len
  list-header e = rw (rest-size S.rests) at (list-says _ (bytes_of row p) (rw (ty-list t p.opened e) at S.holds)).header

  stands-shows : Showable row p
  stands-shows = record { leaf = rest-leaf S.rests; counts = λ e. omega (arith, list-header e, S.rests.within) }

  shown-list : p.opened.kind ≡ 9 → show_of row p ≡ R.container p.start p.len (num (part row p.start 8))
  unfolding show_of count_of
  shown-list e = rw e

  shown-as : show_of row p ≡ answer_of (place_ty t p) (seen (seat_as p.seat) p.start (bytes_of row p))
  unfolding show_of count_of answer_of
  shown-as = go (dec_lt p.opened.kind 7) (dec_lt p.opened.kind 9) (ℕ_discrete p.opened.kind 9) (ℕ_discrete p.opened.kind 10)
    where
      k : Kinded p.opened
      k = S.rests.is.kinded

      go : Dec (p.opened.kind < 7) → Dec (p.opened.kind < 9) → Dec (p.opened.kind ≡ 9) → Dec (p.opened.kind ≡ 10)
          → show_of row p ≡ answer_of (place_ty t p) (seen (seat_as p.seat) p.start (bytes_of row p))
      go (yes h) x y z = rw (lt-ltb p.opened.kind 7 h, ty-fixed t p.opened h)
      go (no h) (yes x) y z =
          rw (le-ltb p.opened.kind 7 (omega arith), lt-ltb p.opened.kind 9 x, ty-text t p.opened (omega arith) x, rest-size S.rests)
      go (no h) (no x) (yes e) z =
          let n : num (take 8 (bytes_of row p)) ≡ num (part row p.start 8) = header_is (rest-row S.rests) (list-header e) refl in
          rw (ty-list t p.opened e, rest-size S.rests, n) (shown-list e)
      go (no h) (no x) (no y) (yes e) = rw (ty-map t p.opened e, rest-size S.rests, e)
      go (no h) (no x) (no y) (no z) =
          let e : p.opened.kind ≡ 11 = struct_left k (omega arith) y z in
          rw (ty_struct t p.opened e, rest-size S.rests, typed-count _ _ 7 _ (S.rests.is.struct e).types, e)

value_in : (row : List ℕ) (f : Fixed) (b : List ℕ) → InRow row (value_of f b)
unfolding value_of
value_in row bo b = tt
value_in row i1 b = tt
value_in row i2 b = tt
value_in row i4 b = tt
value_in row i8 b = tt
value_in row f4 b = tt
value_in row f8 b = tt

shown-in : (row : List ℕ) (p : Place) → p.start + p.len ≤ length row → InRow row (show_of row p)
unfolding show_of
shown-in row p h = go (ltb p.opened.kind 7) (ltb p.opened.kind 9)
  where
    go : (a b : Bool) → InRow row (pick a (value_of (fixed_at p.opened.kind) (part row p.start p.len))
        (pick b (R.bytes p.start p.len) (R.container p.start p.len (count_of row p.opened p.start))))
    go true b = value_in row _ _
    go false true = h
    go false false = tt

-- what the code shows, by the kind
module _ (row : List ℕ) (p : Place) where
  pub show-leaf : p.opened.kind < 7 → {a : R.Answer} → a ≡ value_of (fixed_at p.opened.kind) (part row p.start p.len) → a ≡ show_of row p
  unfolding show_of
  show-leaf h e = e ∙ rw (lt-ltb p.opened.kind 7 h)

  pub show-text : 7 ≤ p.opened.kind → p.opened.kind < 9 → R.bytes p.start p.len ≡ show_of row p
  unfolding show_of
  show-text g h = rw (le-ltb p.opened.kind 7 g, lt-ltb p.opened.kind 9 h)

  pub show-holder : 9 ≤ p.opened.kind → {n : ℕ} → n ≡ count_of row p.opened p.start → R.container p.start p.len n ≡ show_of row p
  unfolding show_of
  show-holder h e = rw (le-ltb p.opened.kind 7 (omega arith), le-ltb p.opened.kind 9 h, e)

module _ (row : List ℕ) (x : TypeParts) (o : ℕ) where
  pub count-list : x.kind ≡ 9 → {n : ℕ} → n ≡ num (part row o 8) → n ≡ count_of row x o
  unfolding count_of
  count-list e q = q ∙ rw e

  pub count_map : x.kind ≡ 10 → 2 ≡ count_of row x o
  unfolding count_of
  count_map e = rw e

  pub count-struct : (x.kind ≡ 9 → ⊥) → (x.kind ≡ 10 → ⊥) → {n : ℕ} → n ≡ count_in x.entry → n ≡ count_of row x o
  unfolding count_of
  count-struct a b e = e ∙ rw (ne_eqb x.kind 9 a, ne_eqb x.kind 10 b)

-- ---- the refusals in their order

pub read-long : (t row p : List ℕ) → Table t → 16384 < length row → Reads (schema_of t) row p (Err F.TooLong)
unfolding read_of
read-long t row p T h = record { means = rw (T.accepted, lt-leb (length row) 16384 h); within = rw (T.accepted, lt-leb (length row) 16384 h) tt }

module _ {t row p : List ℕ} (O : Open t row) {r : Result Found Answered} (G : Finds t row p r) where
  abbrev s : List ℕ
  s = schema_of t

  read_is : read_of s row p ≡ found (placed p (root_ty t)) (walk p (root_ty t) root_seat 0 row)
  unfolding read_of read_in
  read_is = rw (O.table.accepted, le-leb (length row) 16384 O.short)

  refuses : (o : Option Ty) (w : Seen) (n : Refusal) → bad n ≡ seen_in o w → found o w ≡ R.refused n
  unfolding found answer_of
  refuses none w n e = let z : numbered 5 ≡ n = cc in ap R.refused z
  refuses (some (fix f)) w n e = rw (← e)
  refuses (some (text f)) w n e = rw (← e)
  refuses (some (li t)) w n e = rw (← e)
  refuses (some (ma k v)) w n e = rw (← e)
  refuses (some (ro ts)) w n e = rw (← e)

  refused : (n : Refusal) → found_as row r ≡ bad n → read_of s row p ≡ R.refused n
  refused n e = read_is ∙ refuses (placed p (root_ty t)) _ n (sym e ∙ G.means)

  pub read-refused : {f : Answered} → r ≡ Err f → Reads s row p (Err f)
  unfolding found_as
  read-refused {f} e =
      let q : read_of s row p ≡ R.refused (refusal_means f) = refused (refusal_means f) (rw e) in record { means = sym q; within = rw q tt }

  -- at a place of a type
  finds : (y : Ty) → some y ≡ placed p (root_ty t) → read_of s row p ≡ answer_of y (found_as row r)
  unfolding found
  finds y e = read_is ∙ rw (← e) (ap (answer_of y) (sym (G.means ∙ rw (← e))))

  null_is : (t : Ty) (z : W.Seat) → answer_of t (null_at z) ≡ R.null
  unfolding answer_of
  null_is (fix f) z = refl
  null_is (text f) z = refl
  null_is (li t) z = refl
  null_is (ma k v) z = refl
  null_is (ro ts) z = refl

  pub read-null : {x : TypeParts} {z : _} → r ≡ Ok (Null x z) → Reads s row p (Ok A.Null)
  unfolding found_as
  read-null {x} {z} e =
      let q : read_of s row p ≡ R.null = finds (open_ty t x) (rw e at G.tells) ∙ rw e (null_is (open_ty t x) (seat_as z)) in
      record { means = sym q; within = rw q tt }

  module _ {y : Place} (e : r ≡ Ok (At y)) where
    found-stands : PlaceHolds t row y
    found-stands = rw e at G.lands

    pub found-shows : Showable row y
    found-shows = stands-shows found-stands

    pub read_at : {a : Answer} → meaning a ≡ show_of row y → Reads s row p (Ok a)
    unfolding found_as
    read_at m =
        let q : read_of s row p ≡ show_of row y = finds (place_ty t y) (rw e at G.tells) ∙ rw e (sym (shown-as found-stands)) in
        record { means = m ∙ sym q; within = rw q (shown-in row y found-stands.rests.within) }

-- ---- a text with its stand-in

-- an answer that is no byte range
abbrev pub NoText : Read → Type 0
NoText (Ok A.Null) = Unit {0}
NoText (Ok (A.Bool v)) = Unit {0}
NoText (Ok (A.Number z)) = Unit {0}
NoText (Ok (A.Float32 x)) = Unit {0}
NoText (Ok (A.Float32Nan b)) = Unit {0}
NoText (Ok (A.Float64 x)) = Unit {0}
NoText (Ok (A.Float64Nan b)) = Unit {0}
NoText (Ok (A.Bytes o n)) = ⊥
NoText (Ok (A.Container o n k)) = Unit {0}
NoText (Err r) = Unit {0}

module _ (row other : Bor (List ℕ)) where
  float-stands : (b : Bool) (f : Format) (n : ℕ) → TextOf (cond b (float f n) no_answer) row other other
  float-stands true binary32 n = refl
  float-stands true binary64 n = refl
  float-stands false f n = refl

  stands : (r : Read) → NoText r → TextOf (read_means r) row other other
  stands (Ok A.Null) h = refl
  stands (Ok (A.Bool v)) h = refl
  stands (Ok (A.Number z)) h = refl
  stands (Ok (A.Float32 x)) h = float-stands (plain binary32 x) binary32 (to_bits binary32 x)
  stands (Ok (A.Float32Nan b)) h = float-stands (nan_bits binary32 b) binary32 b
  stands (Ok (A.Float64 x)) h = float-stands (plain binary64 x) binary64 (to_bits binary64 x)
  stands (Ok (A.Float64Nan b)) h = float-stands (nan_bits binary64 b) binary64 b
  stands (Ok (A.Bytes o n)) h = absurd h
  stands (Ok (A.Container o n k)) h = refl
  stands (Err r) h = refl

  pub stand-in : {s p : List ℕ} {r : Read} → Reads s row.now p r → (q : Read) → r ≡ q → NoText q
      → TextOf (read_of s row.now p) row other other
  stand-in R q e h = rw (← R.means, e) (stands q h)

-- the bytes between two ends
pub part_end : (row : List ℕ) (o n : ℕ) → take (o + n - o) (drop o row) ≡ part row o n
part_end row o n = let e : o + n - o ≡ n = omega arith in ap (λ (m : ℕ). take m (drop o row)) e

pub text-room : {s row p : List ℕ} {r : Read} → Reads s row p r → {o n : ℕ} → r ≡ Ok (A.Bytes o n) → o + n ≤ length row
text-room {s} {row} R e = subst (InRow row) (sym R.means ∙ ap read_means e) R.within

pub text-is : (row other x : Bor (List ℕ)) {s p : List ℕ} {r : Read} → Reads s row.now p r → {o n : ℕ} → r ≡ Ok (A.Bytes o n)
    → PartOf row x o n → TextOf (read_of s row.now p) row other x
text-is row other x R e h = rw (← R.means, e) h
