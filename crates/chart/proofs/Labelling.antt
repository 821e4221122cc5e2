-- What a place claims, by its type. Assumes nothing.
use mathlib.Core.Path.{◌≡◌, refl, ap, ◌∙◌}
use mathlib.Core.List.{List, [], ◌∷◌}
use Prim.Native.Nat.{ℕ, zero, suc, ◌+◌, ◌*◌, ◌-◌, ◌/◌, ◌%◌, ◌≤◌, ◌<◌}
use native.Mathlib.Omega.{arith}
use lib.ListN.{length, get_or}
use borrow.Author.Tests.{leb-true}
use Rattle.words.specs.Bytes.{num, part, bitmap}
use Rattle.schema.specs.Marks.{types, line}
use Rattle.schema.specs.Types.{bo, i1, i2, i4, i8, f4, f8, Text, st, bi, Ty, fix, text, li, ma, ro, width, text_at, fixed_place, text_place, place}
use Rattle.schema.proofs.Typing.{typed-count}
use Rattle.schema.proofs.Places.{typed-place}
use Rattle.layout.specs.Layout.{front}
use Rattle.answers.specs.declared.Path.{Path}
use Rattle.answers.specs.Paths.{path_of}
use Rattle.table.specs.Words.{width_in, count_in}
use Rattle.table.specs.Tables as S
use Rattle.table.specs.Tables.{schema_of, pos_of, EntryAt}
use Rattle.reading.specs.Children.{wide_of}
use Rattle.reading.specs.Opening.{held_ty, Fields}
use Rattle.reading.specs.Places.{slot_width, struct_holds, holds_of, bytes_of}
use Rattle.reading.specs.Texts.{count_of}
use Rattle.reading.specs.declared.Place.{Place}
use Rattle.reading.proofs.Pointing.{slot-codec}
use Rattle.reading.proofs.Opening.{ty-fixed, ty-text, ty-list, ty-map, ty_struct, struct_left}
use Rattle.reading.proofs.Rules.{list-says, map-says, header_is, rest-row, rest-list, rest-size}
use Rattle.reading.proofs.Shown.{count-list, count_map, count-struct}
use Rattle.chart.specs.Claims.{claim, claim_all, byte_lines}
use Rattle.chart.specs.Labels.{unlabelled, text_word, header, child_lines, entered, listed, labelled}
use Rattle.chart.specs.Room.{Long, LineRoom, ByteRoom, ChildRoom, ListRoom, PlaceRoom, Draws, labels_of}
use Rattle.chart.proofs.Claiming.{claimed-one, claimed-head}

-- ---- by the schema

first-text : (j : ℕ) → (j ≡ 1 → ⊥) → 6 ≡ text_word (get_or (st ∷ bi ∷ []) j st)
first-text zero h = refl
first-text (suc zero) h = absurd (h refl)
first-text (suc (suc j)) h = refl

pub text-first : (k : ℕ) → (k ≡ 8 → ⊥) → 6 ≡ text_word (text_at k)
unfolding text_at
text-first k h = first-text (k - 7) (λ e. h (omega arith))

-- a type's bytes, by its place in the table of types
place-wide : (y : Ty) → (line (place y)).width ≡ wide_of y
unfolding place wide_of width fixed_place text_place types
place-wide (fix f) = refl
place-wide (text st) = refl
place-wide (text bi) = refl
place-wide (li y) = refl
place-wide (ma a b) = refl
place-wide (ro ys) = refl

-- slots of a type's bytes fill a line
slots-whole : (y : Ty) → 8 % slot_width (wide_of y) ≡ 0
unfolding slot_width wide_of width fixed_place types
slots-whole (fix bo) = refl
slots-whole (fix i1) = refl
slots-whole (fix i2) = refl
slots-whole (fix i4) = refl
slots-whole (fix i8) = refl
slots-whole (fix f4) = refl
slots-whole (fix f8) = refl
slots-whole (text u) = refl
slots-whole (li y) = refl
slots-whole (ma a b) = refl
slots-whole (ro ys) = refl

pub element-bytes : {t : List ℕ} {c w v : ℕ} → S.InTable t c 7 → EntryAt t c 7 w → v ≡ width_in w → v ≡ wide_of (held_ty t c)
element-bytes {t} {c} h e q =
    q ∙ e.lined.width ∙ ap (λ (k : ℕ). (line k).width) (e.place ∙ typed-place (schema_of t) (pos_of t c) 7 h.typed) ∙ place-wide (held_ty t c)

-- ---- nothing to claim

draws-none : (m : List ℕ) → Draws unlabelled m 0 m
unfolding claim_all
draws-none m = record { chart = refl; below = refl; few = omega arith }

-- ---- a list

module _ {m row : List ℕ} {start v : ℕ} {path : Path} (L : ListRoom m row start v path) (n : ℕ) (e : n ≡ num (part row start 8)) where
  list-fits : start + (8 + bitmap n + (n * slot_width v + 7) / 8 * 8) ≤ 16384
  list-fits = rw e (omega (arith, L.within, L.short))

  pub list-child-room : (w : ℕ) (m' : List ℕ) → w ≡ slot_width v → Long m' → ChildRoom m' (start / 8 + 1) w n path
  list-child-room w m' q l = record { long = l; within = rw q (omega (arith, list-fits)); whole = rw q L.whole; neat = L.neat; more = L.more }

  module _ (w : ℕ) (q : w ≡ slot_width v) {m₁ m₂ : List ℕ} (f : m₁ ≡ claim (header (start / 8) 2 (path_of path)) m)
      (g : m₂ ≡ claim_all (child_lines (start / 8 + 1) w n (path_of path)) m₁) where
    list-chart : m₂ ≡ claim_all (listed (start / 8) v (num (part row start 8)) (path_of path)).claims m
    list-chart = claimed-head _ _ m f (rw (q, e) at g)

    pub list-varies : v ≡ 0 → Draws (listed (start / 8) v (num (part row start 8)) (path_of path)) m n m₂
    list-varies z = record { chart = list-chart; below = e ∙ rw z; few = omega (arith, list-fits) }

    pub list-plain : (v ≡ 0 → ⊥) → Draws (listed (start / 8) v (num (part row start 8)) (path_of path)) m 0 m₂
    list-plain z = record { chart = list-chart; below = none-entered v z _; few = omega arith }
      where
        none-entered : (u : ℕ) → (u ≡ 0 → ⊥) → (k : ℕ) → 0 ≡ entered u k
        none-entered zero h k = absurd (h refl)
        none-entered (suc u) h k = refl

-- ---- a place, by its type

word-known : (t : Text) → text_word t < 8
word-known st = omega arith
word-known bi = omega arith

module _ {m t row : List ℕ} {y : Place} {path : Path} (G : PlaceRoom m t row y path) where
  abbrev k : ℕ
  k = y.opened.kind

  inside : y.start + y.len ≤ 16384
  inside = omega (arith, G.stands.rests.within, G.stands.rests.short)

  long : length (bytes_of row y) ≡ y.len
  long = rest-size G.stands.rests

  abbrev Labelled : ℕ → List ℕ → Type 0
  Labelled r m' = Draws (labels_of t row y (path_of path)) m r m'

  pub place-fixed : k < 7 → Labelled 0 m
  unfolding labelled
  place-fixed h = rw (ty-fixed t y.opened h) (draws-none m)

  module _ (l : 7 ≤ k) (h : k < 9) {x : ℕ} (q : x ≡ text_word (text_at k)) where
    pub text-room : ByteRoom m (y.start / 8) y.len x path
    text-room = record { long = G.long; within = omega (arith, inside); known = rw q (word-known (text_at k)); neat = G.neat }

    pub place-text : {m' : List ℕ} → m' ≡ claim_all (byte_lines (y.start / 8) y.len x (path_of path)) m → Labelled 0 m'
    unfolding labelled
    place-text f = rw (ty-text t y.opened l h) (record { chart = rw q at f; below = refl; few = omega arith })

  module _ (e : k ≡ 9) where
    pub element-typed : S.InTable t y.opened.first 7
    element-typed = rest-list G.stands.rests e

    module _ {v : ℕ} (q : v ≡ wide_of (held_ty t y.opened.first)) where
      pub list-room : ListRoom m row y.start v path
      list-room =
          let l = list-says _ (bytes_of row y) (rw (ty-list t y.opened e) at G.stands.holds) in
          let h : 8 ≤ y.len = rw long at l.header in
          let n = header_is (rest-row G.stands.rests) h refl in
          let f : front 8 (slot_width v) (num (part row y.start 8)) ≤ y.len =
          rw (slot-codec (held_ty t y.opened.first), ← q, n, long) at l.fixed in
          record {
            long = G.long;
            short = G.stands.rests.short;
            within = omega (arith, G.stands.rests.within);
            whole = rw q (slots-whole (held_ty t y.opened.first));
            neat = G.neat;
            more = G.more;
          }

      pub place-list : {r : ℕ} {m' : List ℕ} → Draws (listed (y.start / 8) v (num (part row y.start 8)) (path_of path)) m r m' → Labelled r m'
      unfolding labelled
      place-list d = rw (ty-list t y.opened e, ← (count-list row y.opened y.start e refl)) (rw q at d)

  module _ (e : k ≡ 10) where
    pub map-room : LineRoom m (y.start / 8) path
    map-room =
        let l = map-says _ _ (bytes_of row y) (rw (ty-map t y.opened e) at G.stands.holds) in
        record { long = G.long; within = omega (arith, inside, l.header, long); neat = G.neat }

    pub place_map : {m' : List ℕ} → m' ≡ claim (header (y.start / 8) 3 (path_of path)) m → Labelled 2 m'
    unfolding labelled
    place_map f =
        rw (ty-map t y.opened e) (record { chart = claimed-one _ m f; below = count_map row y.opened y.start e; few = omega arith })

  module _ (a : 9 ≤ k) (b : k ≡ 9 → ⊥) (c : k ≡ 10 → ⊥) {n : ℕ} (q : n ≡ count_in y.opened.entry) where
    struct : k ≡ 11
    struct = struct_left G.stands.rests.is.kinded a b c

    fields : Fields t y.opened.first (count_in y.opened.entry)
    fields = G.stands.rests.is.struct struct

    struct-fits : front 0 8 n ≤ y.len
    unfolding holds_of struct_holds
    struct-fits = leb-true _ _ (rw (ty_struct t y.opened struct, typed-count _ _ 7 _ fields.types, long, ← q) at G.stands.holds)

    pub struct-room : ChildRoom m (y.start / 8) 8 n path
    struct-room = record { long = G.long; within = omega (arith, inside, struct-fits); whole = refl; neat = G.neat; more = G.more }

    counted : n ≡ count_of row y.opened y.start
    counted = count-struct row y.opened y.start b c q

    pub place-struct : {m' : List ℕ} → m' ≡ claim_all (child_lines (y.start / 8) 8 n (path_of path)) m → Labelled n m'
    unfolding labelled
    place-struct g =
        rw (ty_struct t y.opened struct) (record { chart = rw counted at g; below = counted; few = omega (arith, fields.high) })
