-- A leaf and a container measured by the entry of their type, in the words of the code. Assumes nothing.
use mathlib.Core.Path.{◌≡◌, sym, ap, ◌∙◌}
use mathlib.Core.Bool.{Bool, true, false, not}
use mathlib.Core.List.{List}
use Prim.Native.Nat.{ℕ, ◌+◌, ◌*◌, ◌-◌, ◌^◌, ◌≤◌, ◌<◌}
use native.Mathlib.Decide.{ℕ_discrete}
use native.Mathlib.Omega.{arith}
use lib.ListN.{length, drop, get_or}
use mir.Syntax.{w64}
use mir.Val.{Fits}
use borrow.Author.Tests.{not-true, not-false}
use Rattle.words.specs.Bytes.{Bytes, num, pad, part}
use Rattle.words.specs.Tests.{is_yes}
use Rattle.words.specs.Reads.{Reads}
use Rattle.words.specs.Pairs.{low_in, high_in, Paired}
use Rattle.words.proofs.Tests.{is-yes, is-no}
use Rattle.schema.specs.Marks.{mark_at}
use Rattle.schema.specs.Types.{Ty, fix, text, fixed_at, text_at, place, mark}
use Rattle.schema.specs.Walk.{Typed, next_at, ListAt, MapAt, StructAt}
use Rattle.schema.proofs.Typing.{typed-deep}
use Rattle.schema.proofs.Places.{fixed_of, text_of}
use Rattle.layout.specs.Layout.{Spells, spells?}
use Rattle.layout.specs.Listing.{script}
use Rattle.table.specs.Words.{Lined, place_in, mark_in, width_in, count_in, after_in}
use Rattle.table.specs.Tables.{InTable, EntryAt, schema_of, pos_of, type_of, types_of}
use Rattle.spelling.specs.Spelling.{Spelling}
use Rattle.table.proofs.Places.{place-room, table-short, entry_place, entry-list, entry-map, entry-struct}
use Rattle.measuring.specs.Measure.{Gives, tail_len, BodyTold, ChildTold, LeafTold, ArrayTold, FieldsTold, NullTold, OnlyNull}
use Rattle.measuring.specs.Measure.{Goes, FixedCan, TextCan, ChildCan, ListsCan, ArrayCan, FieldsCan}
use Rattle.measuring.proofs.Packs.{told-gives, gives-low, gives-high}
use Rattle.measuring.proofs.Bodies.{fixed-short, fixed-free, bool-high, bool-good, texts-short, texts-cut, texts-bad, texts-good}
use Rattle.measuring.proofs.Bodies.{child-only, child-unmarked, child-body, struct_told}
use Rattle.measuring.proofs.Bodies.{list-short, map-short, list-told, map_keys, map-values, map_gives}

-- an entry has its type's mark
own-mark : {w x : ℕ} (t : Ty) → Lined w → x ≡ mark_in w → place_in w ≡ place t → x ≡ num (mark t)
unfolding mark
own-mark t h e k = e ∙ h.mark ∙ ap (λ (j : ℕ). num (mark_at j)) k

-- ---- leaves: the mark's number m was read, and x is that of the entry

module _ {w : ℕ} (h : Lined w) {l : List ℕ} {from : ℕ} (g : Goes l from) (two : 2 ≤ length l - from) {m : ℕ} (read : Reads l from 2 m)
    {x : ℕ} (own : x ≡ mark_in w) where
  leaf-unmarked : (m ≡ x → ⊥) → {r : ℕ} → NullTold m from r → LeafTold (place_in w) l from r
  leaf-unmarked ne z = record { any = λ t k. child-unmarked t g two read.is (own-mark t h own k) ne z }

  leaf-marked : m ≡ x → Bytes l → {u : Ty} → ((t : Ty) → place_in w ≡ place t → t ≡ u) → {r : ℕ} → BodyTold u l (from + 2) r → LeafTold (place_in w) l from r
  leaf-marked e hb f b = record { any = λ t k. child-body t g two read.is (own-mark t h own k) e hb (rw (f t k) b) }

-- v is the width that the entry says
module _ {w : ℕ} {l : List ℕ} {from : ℕ} (p : FixedCan w l from) {v : ℕ} (ev : v ≡ width_in w) where
  -- too little is left for the contents
  pub fixed-only : length l - from < 2 + v → {r : ℕ} → OnlyNull l from r → LeafTold (place_in w) l from r
  fixed-only h z = record { any = λ t k. child-only t p.goes z (rw (fixed_of t (place_in w) k p.fixed) (fixed-short p ev h)) }

  module _ (h : 2 + v ≤ length l - from) {m : ℕ} (read : Reads l from 2 m) {x : ℕ} (own : x ≡ mark_in w) where
    pub fixed-unmarked : (m ≡ x → ⊥) → {r : ℕ} → NullTold m from r → LeafTold (place_in w) l from r
    fixed-unmarked = leaf-unmarked p.lined p.goes (omega arith) read own

    module _ (e : m ≡ x) (hb : Bytes l) {k : ℕ} (ek : k ≡ place_in w) where
      marked : {r : ℕ} → BodyTold (fix (fixed_at (place_in w))) l (from + 2) r → LeafTold (place_in w) l from r
      marked = leaf-marked p.lined p.goes (omega arith) read own e hb (λ t q. fixed_of t (place_in w) q p.fixed)

      pub number-told : (k ≡ 0 → ⊥) → {r : ℕ} → Paired (from + (2 + v)) 0 r → LeafTold (place_in w) l from r
      number-told ne y = marked (fixed-free p ev h hb ek ne y)

      pub bool-refused : k ≡ 0 → 1 < get_or l (from + 2) 0 → LeafTold (place_in w) l from 0
      bool-refused z b = marked (bool-high p ev h ek z b)

      pub bool-told : k ≡ 0 → get_or l (from + 2) 0 ≤ 1 → {r : ℕ} → Paired (from + (2 + v)) 0 r → LeafTold (place_in w) l from r
      bool-told z b y = marked (bool-good p ev h ek z b y)

module _ {w : ℕ} {l : List ℕ} {from : ℕ} (p : TextCan w l from) where
  pub text-only : length l - from < 6 → {r : ℕ} → OnlyNull l from r → LeafTold (place_in w) l from r
  text-only h z = record {
    any = λ t k. child-only t p.goes z (rw (text_of t (place_in w) k p.low p.high) (texts-short (text_at (place_in w)) p h));
  }

  module _ (h : 6 ≤ length l - from) {m : ℕ} (read : Reads l from 2 m) {x : ℕ} (own : x ≡ mark_in w) where
    pub text-unmarked : (m ≡ x → ⊥) → {r : ℕ} → NullTold m from r → LeafTold (place_in w) l from r
    text-unmarked = leaf-unmarked p.lined p.goes (omega arith) read own

    -- n is its length
    module _ (e : m ≡ x) (hb : Bytes l) {n : ℕ} (size : Reads l (from + 2) 4 n) where
      marked-text : {r : ℕ} → BodyTold (text (text_at (place_in w))) l (from + 2) r → LeafTold (place_in w) l from r
      marked-text = leaf-marked p.lined p.goes (omega arith) read own e hb (λ t q. text_of t (place_in w) q p.low p.high)

      pub text-refused : length l - from - 6 < n → LeafTold (place_in w) l from 0
      text-refused g = marked-text (texts-cut _ p h size g)

      -- b tells whether its bytes are what its kind k asks
      module _ (g : n ≤ length l - from - 6) {k : ℕ} (ek : k ≡ place_in w) {b : Bool}
          (said : Spelling (text_at k) (part l (from + 6) (from + 6 + n - (from + 6))) b) where
        abbrev test : Dec (Spells (text_at (place_in w)) (part l (from + 2 + 4) n))
        test = spells? (text_at (place_in w)) (part l (from + 2 + 4) n)

        says : is_yes test ≡ b
        says =
            let y : from + 6 + n - (from + 6) ≡ n = omega arith in
            let z : from + 6 ≡ from + 2 + 4 = omega arith in
            sym (rw (ek, y, z) at said.is)

        pub text-unspelled : not b ≡ true → LeafTold (place_in w) l from 0
        text-unspelled q = marked-text (texts-bad (text_at (place_in w)) p h size g (is-no test (says ∙ not-true b q)))

        pub text-told : not b ≡ false → {y : ℕ} → y ≡ pad n → {r : ℕ} → Paired (from + 6 + n) y r → LeafTold (place_in w) l from r
        text-told q ey u = marked-text (texts-good (text_at (place_in w)) p h size g (is-yes test (says ∙ not-false b q)) ey u)

-- ---- containers

-- the remaining depth falls along the calls
pub child-rank : (d : ℕ) {m : ℕ} → 3 * d + 2 ≡ m → 3 * d + 1 < m
child-rank d e = omega arith

pub lists-rank : (d : ℕ) {m : ℕ} → 3 * d + 1 ≡ m → 3 * d < m
lists-rank d e = omega arith

module _ {t : List ℕ} {c d : ℕ} (s : InTable t c d) where
  pub child-deep : 1 ≤ d
  child-deep = typed-deep (schema_of t) (pos_of t c) d s.typed

  pub fields-fall : {m : ℕ} → 3 * d + 1 ≡ m → 3 * (d - 1) + 2 < m
  fields-fall e = omega (arith, child-deep)

  pub array-falls : {m : ℕ} → 3 * d ≡ m → 3 * (d - 1) + 2 < m
  array-falls e = omega (arith, child-deep)

  pub child-first : Fits w64 (c + 1)
  child-first = omega (arith, place-room t s.table c d s.typed, table-short t s.table)

-- w is the type's entry
module _ {t : List ℕ} {c d : ℕ} {l : List ℕ} {from : ℕ} (p : ChildCan t c d l from) (two : 2 ≤ length l - from) {w : ℕ} (e : EntryAt t c d w) where
  behind : Goes l (from + 2)
  behind = record { inside = omega arith; short = p.goes.short }

  -- the mark's number m was read: x is that of the type
  module _ {m : ℕ} (read : Reads l from 2 m) {x : ℕ} (own : x ≡ mark_in w) where
    is-own : x ≡ num (mark (type_of t c d))
    is-own = own-mark (type_of t c d) e.lined own (entry_place p.stands e)

    pub child-other : (m ≡ x → ⊥) → {r : ℕ} → NullTold m from r → ChildTold (type_of t c d) l from r
    child-other = child-unmarked _ p.goes two read.is is-own

    pub child-told : m ≡ x → Bytes l → {r : ℕ} → BodyTold (type_of t c d) l (from + 2) r → ChildTold (type_of t c d) l from r
    child-told = child-body _ p.goes two read.is is-own

  -- k is the type's place in the table of types
  module _ {k : ℕ} (ek : k ≡ place_in w) where
    module _ (z : k ≡ 11) {n : ℕ} (en : n ≡ count_in w) where
      struct_at : StructAt (schema_of t) (pos_of t c) d (pos_of t (c + 1)) n
      struct_at = entry-struct p.stands e (sym ek ∙ z) en

      pub struct-can : FieldsCan t (c + 1) n (d - 1) l (from + 2)
      struct-can = record { table = p.stands.table; typed = struct_at.fields; low = struct_at.low; high = struct_at.high; goes = behind }

      pub struct-body : {r : ℕ} → FieldsTold (types_of t (c + 1) (d - 1) n) l (from + 2) r → BodyTold (type_of t c d) l (from + 2) r
      struct-body x = rw struct_at.whole (struct_told x)

    pub lists-can : (k ≡ 11 → ⊥) → ListsCan t c d w l (from + 2)
    lists-can ne = record {
      stands = p.stands;
      entry = e;
      low = omega (arith, e.place, p.holds);
      high = below (λ q. ne (ek ∙ q));
      goes = behind;
    }
      where
        below : (place_in w ≡ 11 → ⊥) → place_in w < 11
        below f = omega (arith, e.lined.few)

-- ---- lists and maps: w is the type's entry

-- a map's keys were measured as a: their bytes behind a count
pub keys-fit : {u : Ty} {l : List ℕ} {from n a : ℕ} → ArrayTold u l from n a → (a ≡ 0 → ⊥) → length l ≤ 65536 → {K : ℕ} → K ≡ high_in a → Fits w64 (8 + K)
keys-fit x ne s e = let g = x.told.good ne in omega (arith, g.small, g.inside)

module _ {t : List ℕ} {c d w : ℕ} {l : List ℕ} {from : ℕ} (p : ListsCan t c d w l from) where
  list_at : place_in w ≡ 9 → ListAt (schema_of t) (pos_of t c) d (pos_of t (c + 1))
  list_at = entry-list p.stands p.entry

  map_at : (place_in w ≡ 9 → ⊥) → MapAt (schema_of t) (pos_of t c) d (pos_of t (c + 1)) (next_at (schema_of t) (pos_of t (c + 1)) (d - 1))
  map_at f = entry-map p.stands p.entry (omega (arith, p.low, p.high))

  pub keys-stand : InTable t (c + 1) (d - 1)
  keys-stand = record { table = p.stands.table; typed = go (ℕ_discrete (place_in w) 9) }
    where
      go : Dec (place_in w ≡ 9) → Typed (schema_of t) (pos_of t (c + 1)) (d - 1)
      go (yes z) = (list_at z).element
      go (no f) = (map_at f).keys

  pub lists-short : length l - from < 4 → BodyTold (type_of t c d) l from 0
  lists-short h = go (ℕ_discrete (place_in w) 9)
    where
      go : Dec (place_in w ≡ 9) → BodyTold (type_of t c d) l from 0
      go (yes z) = rw (list_at z).whole (list-short _ l from h)
      go (no f) = rw (map_at f).whole (map-short _ _ l from h)

  -- n is the count
  module _ (four : 4 ≤ length l - from) {n : ℕ} (read : Reads l from 4 n) where
    pub keys-can : ArrayCan t (c + 1) (d - 1) l (from + 4) n
    keys-can = record { stands = keys-stand; goes = record { inside = omega arith; short = p.goes.short }; few = omega (arith, read.below) }

    -- a list's elements, or a map's keys, were measured as a; k is the type's place in the table of types
    module _ {a : ℕ} (x : ArrayTold (type_of t (c + 1) (d - 1)) l (from + 4) n a) {k : ℕ} (ek : k ≡ place_in w) where
      pub list-is : k ≡ 9 → BodyTold (type_of t c d) l from a
      list-is z = rw (list_at (sym ek ∙ z)).whole (list-told four read x)

      module _ (f : k ≡ 9 → ⊥) where
        pub keys-bad : a ≡ 0 → BodyTold (type_of t c d) l from 0
        keys-bad z = rw (map_at (λ q. f (ek ∙ q))).whole (map_keys four read _ _ x z)

        -- the values' type stands at place v, and they in the listing from mid on
        module _ (ne : a ≡ 0 → ⊥) {u v : ℕ} (eu : EntryAt t (c + 1) (d - 1) u) (ev : v ≡ after_in u) {mid : ℕ} (em : mid ≡ low_in a) where
          whole : MapAt (schema_of t) (pos_of t c) d (pos_of t (c + 1)) (pos_of t v)
          whole =
              let there : pos_of t v ≡ next_at (schema_of t) (pos_of t (c + 1)) (d - 1) = ap (pos_of t) ev ∙ eu.next in
              rw there (map_at (λ q. f (ek ∙ q)))

          pub values-can : ArrayCan t v (d - 1) l mid n
          values-can = record {
            stands = record { table = p.stands.table; typed = whole.values };
            goes = record { inside = rw em (x.told.good ne).inside; short = p.goes.short };
            few = omega (arith, read.below);
          }

          -- they were measured as b
          module _ {b : ℕ} (y : ArrayTold (type_of t v (d - 1)) l mid n b) where
            pub values-bad : b ≡ 0 → BodyTold (type_of t c d) l from 0
            values-bad z = rw whole.whole (map-values four read _ _ x ne em y z)

            module _ (nb : b ≡ 0 → ⊥) {next K U : ℕ} (en : next ≡ low_in b) (eK : K ≡ high_in a) (eU : U ≡ high_in b) where
              gives : Gives ((script (type_of t c d)).get (drop from l)) (tail_len (type_of t c d)) l (16 * from) 0 next (8 + K + U)
              gives = rw whole.whole (map_gives four read _ _ x ne em y nb en eK eU)

              pub map-low : next < 2 ^ 32
              map-low = gives-low gives p.goes.short

              pub map-high : 8 + K + U < 2 ^ 32
              map-high = gives-high gives p.goes.short (omega arith)

              pub map-fits : Fits w64 (8 + K + U)
              map-fits = omega (arith, map-high)

              pub map_is : {r : ℕ} → Paired next (8 + K + U) r → BodyTold (type_of t c d) l from r
              map_is q = record { told = told-gives gives (omega arith) q }
