-- The one fact about a table, as its users meet it: wherever a type stands in the schema that the table says, the entry at its place has the
-- type's place in the table of types and its count, and leads to the first child and to what stands behind the type. Assumes nothing.
use Rattle.std.proofs.Common.{◌≡◌, ℕ, ◌+◌, ◌-◌, ◌*◌, ◌<◌, ◌≤◌, T, List, [], ◌∷◌, ◌++◌, length, get_or, take, drop, sym, refl, ap, ◌∙◌, subst, append_assoc, append-nil, add-one, arith, length-append, get_or-drop, take_all, take-suc, take_at, drop_at}
use native.Mathlib.Decide.{dec_lt}
use lib.Seq.{get_or_at}
use Rattle.schema.specs.Marks.{mark_at}
use Rattle.schema.specs.Types.{Ty, fix, text, li, ma, ro, Tys, end, ◌then◌, count, mark, place}
use Rattle.schema.specs.House.{schema, depth, Right}
use Rattle.schema.specs.Kinds.{place_at}
use Rattle.schema.specs.Reading.{some, parse_type, judged}
use Rattle.schema.specs.declared.Judged.TheVariants.{Accepted}
use Rattle.schema.specs.Walk.{size, sizes, Typed, type_at, next_at, fields_of, ListAt, MapAt, StructAt}
use Rattle.schema.proofs.Table.{fixed-high, text-high}
use Rattle.schema.proofs.Parse.{complete}
use Rattle.schema.proofs.Laws.{size-fixed, size-text, size-li, size-ma, size-ro, sizes-done, sizes-more, size-two}
use Rattle.schema.proofs.Typing.{typed-deeper, typed-room, next-is}
use Rattle.schema.proofs.Places.{typed-place, place-li, place-ma, place-ro}
use Rattle.schema.proofs.Judging.{accepted-root}
use Rattle.table.specs.Words.{word, place_in, count_in, after_in, bytes_in, Lined}
use Rattle.table.specs.Tables.{many, manys, entries, entries_all, table_of, schema_of, pos_of, type_of, Table, InTable, EntryAt}
use Rattle.table.proofs.Decode.{place-word, count_word, after-word, lined-word, bytes-other, bytes-struct}
use Rattle.table.proofs.Spots.{Small, small_count, many-one, entries-many, says-append, says, Spot, spot}

-- an entry for every two bytes of a schema at most
mutual
  unfolding many

  pub many-size : (X : Ty) → 2 * many X ≤ size X
  many-size (fix f) = omega (arith, size-fixed f)
  many-size (text t) = omega (arith, size-text t)
  many-size (li X) = omega (arith, size-li X, many-size X)
  many-size (ma K U) = omega (arith, size-ma K U, many-size K, many-size U)
  many-size (ro ts) = omega (arith, size-ro ts, manys-sizes ts)

  pub manys-sizes : (ts : Tys) → 2 * manys ts ≤ sizes ts
  manys-sizes end = omega (arith, sizes-done)
  manys-sizes (X then ts) = omega (arith, sizes-more X ts, many-size X, manys-sizes ts)

-- how many children a type has
abbrev held : Ty → ℕ
held (fix f) = 0
held (text t) = 0
held (li X) = 1
held (ma K U) = 2
held (ro ts) = count ts

abbrev tail : ℕ → ℕ → Ty → List ℕ
tail d i (fix f) = []
tail d i (text t) = []
tail d i (li X) = entries (d + 1) (i + 1) X
tail d i (ma K U) = entries (d + 1) (i + 1) K ++ entries (d + 1) (i + 1 + many K) U
tail d i (ro ts) = entries_all (d + 1) (i + 1) ts

head-entry : (X : Ty) (d i : ℕ) → entries d i X ≡ word (place X) d (held X) i (i + many X) ∷ tail d i X
unfolding entries place many
head-entry (fix f) d i = refl
head-entry (text t) d i = refl
head-entry (li X) d i = refl
head-entry (ma K U) d i = refl
head-entry (ro ts) d i = refl

place-small : (X : Ty) → place X < 12
unfolding place
place-small (fix f) = omega (arith, fixed-high f)
place-small (text t) = omega (arith, text-high t)
place-small (li X) = omega arith
place-small (ma K U) = omega arith
place-small (ro ts) = omega arith

held_small : (X : Ty) (d i : ℕ) → Small d i X → held X < 256
held_small (fix f) d i h = omega arith
held_small (text t) d i h = omega arith
held_small (li X) d i h = omega arith
held_small (ma K U) d i h = omega arith
held_small (ro ts) d i h = omega (arith, small_count d i ts h)

-- the type that a form begins with is the one that stands there
form_type : (s : List ℕ) (at d : ℕ) (X : Ty) (r : List ℕ) → Right X → drop at s ≡ schema X ++ r → Typed s at d → type_at s at d ≡ X
unfolding type_at
form_type s at d X r h e t =
    let q = (typed-deeper s at d (d + depth X) t (omega arith)).same in
    let p : parse_type (d + depth X) (drop at s) ≡ some X r = ap (parse_type (d + depth X)) e ∙ complete X (d + depth X) r h (omega arith) in
    sym q ∙ rw p

none-past : (s : List ℕ) (at d : ℕ) → length s ≤ at → Typed s at d → ⊥
none-past s at d l h = omega (arith, typed-room s at d h, next-is s at d, size-two (type_at s at d))

module _ (t : List ℕ) (h : Table t) where
  abbrev s : List ℕ
  s = schema_of t

  abbrev all : Ty
  all = ro (fields_of s)

  root-small : Small 1 0 all
  unfolding size
  root-small =
      let r = accepted-root s h.accepted in
      let z : 2 * many all ≤ length (schema all) = many-size all in
      record { right = r.right; deep = omega (arith, r.deep); ends = omega (arith, r.short, ap length r.form) }

  is-entries : t ≡ entries 1 0 all ++ []
  unfolding table_of
  is-entries = h.given ∙ sym (append-nil (entries 1 0 all))

  table-length : length t ≡ many all
  unfolding table_of
  table-length = ap length h.given ∙ entries-many all 1 0

  pub table-short : length t ≤ 512
  unfolding size
  table-short =
      let r = accepted-root s h.accepted in
      let z : 2 * many all ≤ length (schema all) = many-size all in
      omega (arith, r.short, ap length r.form, table-length)

  at-spot : (c : ℕ) → c < length t → Spot t c
  at-spot c l = subst (λ (u : List ℕ). Spot u c) (sym is-entries) (spot all 1 0 [] [] refl root-small c (omega arith) (omega (arith, table-length)))

  -- a type stands at the position of the place c
  module _ (c d : ℕ) (y : Typed s (pos_of t c) d) where
    pub place-room : c < length t
    unfolding pos_of
    place-room = go (dec_lt c (length t))
      where
        go : Dec (c < length t) → c < length t
        go (yes l) = l
        go (no n) = absurd (none-past s (pos_of t c) d (let e : length s ≡ length (schema_of (take c t)) = ap (λ (u : List ℕ). length (schema_of u))
            (sym (take_all c t (omega arith))) in omega arith) y)

    sp : Spot t c
    sp = at-spot c place-room

    abbrev X : Ty
    X = sp.T

    front_at : schema_of (take c t) ≡ schema_of sp.front
    front_at = ap schema_of (ap (take c) sp.form ∙ take_at sp.front (entries sp.d c X ++ sp.back) c sp.before)

    form-at : s ≡ schema_of sp.front ++ (schema X ++ schema_of sp.back)
    form-at =
        ap schema_of sp.form ∙ says-append sp.front (entries sp.d c X ++ sp.back)
        ∙ ap (λ (u : List ℕ). schema_of sp.front ++ u) (says-append (entries sp.d c X) sp.back ∙ ap (λ (u : List ℕ). u ++ schema_of sp.back)
        (says X sp.d c sp.small))

    drop-pos : drop (pos_of t c) s ≡ schema X ++ schema_of sp.back
    unfolding pos_of
    drop-pos = ap (drop (length (schema_of (take c t)))) form-at ∙ drop_at (schema_of sp.front) (schema X ++ schema_of sp.back)
        (length (schema_of (take c t))) (ap length (sym front_at))

    type-is : type_at s (pos_of t c) d ≡ X
    type-is = form_type s (pos_of t c) d X (schema_of sp.back) sp.small.right drop-pos y

    entry-is : get_or t c 0 ≡ word (place X) sp.d (held X) c (c + many X)
    entry-is =
        let e : t ≡ sp.front ++ (word (place X) sp.d (held X) c (c + many X) ∷ (tail sp.d c X ++ sp.back)) = sp.form ∙ ap
        (λ (u : List ℕ). sp.front ++ (u ++ sp.back)) (head-entry X sp.d c) in
        ap (λ (u : List ℕ). get_or u c 0) e ∙ get_or_at sp.front (word (place X) sp.d (held X) c (c + many X)) (tail sp.d c X ++ sp.back) 0 c sp.before

    d_small : sp.d < 16
    d_small = omega (arith, sp.small.deep)

    i-small : c + 1 < 1024
    i-small = omega (arith, sp.small.ends, many-one X)

    -- its place in the table of types
    place_is : place_in (get_or t c 0) ≡ place_at s (pos_of t c)
    place_is =
        ap place_in entry-is ∙ place-word (place X) sp.d (held X) c (c + many X) (place-small X) d_small (held_small X sp.d c sp.small) i-small
        ∙ ap place (sym type-is) ∙ sym (typed-place s (pos_of t c) d y)

    lined : Lined (get_or t c 0)
    lined =
        subst Lined (sym entry-is)
        (lined-word (place X) sp.d (held X) c (c + many X) (place-small X) d_small (held_small X sp.d c sp.small) i-small)

    after_is : after_in (get_or t c 0) ≡ c + many X
    after_is = ap after_in entry-is ∙ after-word (place X) sp.d (held X) c (c + many X) (place-small X) d_small (held_small X sp.d c sp.small) i-small

    -- the place behind its last descendant is that of what stands behind it
    next_place : pos_of t (after_in (get_or t c 0)) ≡ next_at s (pos_of t c) d
    unfolding pos_of size
    next_place =
        let a = entries sp.d c X in
        let e : t ≡ (sp.front ++ a) ++ sp.back = sp.form ∙ sym (append_assoc sp.front a sp.back) in
        let l : length (sp.front ++ a) ≡ c + many X = length-append sp.front a ∙ rw (sp.before, entries-many X sp.d c) in
        let k : take (c + many X) t ≡ sp.front ++ a = ap (take (c + many X)) e ∙ take_at (sp.front ++ a) sp.back (c + many X) l in
        let m : schema_of (take (c + many X) t) ≡ schema_of (take c t) ++ schema X = ap schema_of k ∙ says-append sp.front a ∙ rw
        (says X sp.d c sp.small, ← front_at) in
        ap (λ (j : ℕ). length (schema_of (take j t))) after_is ∙ ap length m ∙ length-append (schema_of (take c t)) (schema X) ∙ sym
        (next-is s (pos_of t c) d ∙ ap (λ (u : Ty). pos_of t c + length (schema u)) type-is)

    next-room : after_in (get_or t c 0) ≤ length t
    next-room = let a = entries sp.d c X in omega (
      arith,
      after_is,
      ap length sp.form,
      length-append sp.front (a ++ sp.back),
      length-append a
          sp.back,
      entries-many X sp.d c,
      sp.before,
    )

    -- the first child stands behind the entry's own bytes
    pos-more : pos_of t (c + 1) ≡ pos_of t c + length (bytes_in (get_or t c 0))
    unfolding pos_of schema_of
    pos-more =
        let e : take (c + 1) t ≡ take c t ++ (get_or t c 0 ∷ []) = ap (λ (j : ℕ). take j t) (add-one c) ∙ take-suc t c 0 place-room in
        ap (λ (u : List ℕ). length (schema_of u)) e ∙ ap length (says-append (take c t) (get_or t c 0 ∷ [])) ∙ length-append (schema_of (take c t))
        (bytes_in (get_or t c 0) ++ []) ∙ ap (λ (u : List ℕ). length (schema_of (take c t)) + length u) (append-nil (bytes_in (get_or t c 0)))

    child-other : (place_at s (pos_of t c) ≡ 11 → ⊥) → pos_of t (c + 1) ≡ pos_of t c + 2
    unfolding mark_at
    child-other n =
        let p : place X ≡ place_at s (pos_of t c) = ap place (sym type-is) ∙ sym (typed-place s (pos_of t c) d y) in
        pos-more ∙ ap (λ (u : ℕ). pos_of t c + length (bytes_in u)) entry-is
        ∙ ap (λ (u : List ℕ). pos_of t c + length u) (bytes-other (place X) sp.d (held X) c (c + many X) (place-small X) d_small
        (held_small X sp.d c sp.small) i-small (λ e. n (sym p ∙ e)))

    child-struct : place_at s (pos_of t c) ≡ 11 → pos_of t (c + 1) ≡ pos_of t c + 3
    unfolding mark_at
    child-struct n =
        let p : place X ≡ place_at s (pos_of t c) = ap place (sym type-is) ∙ sym (typed-place s (pos_of t c) d y) in
        pos-more ∙ ap (λ (u : ℕ). pos_of t c + length (bytes_in u)) entry-is
        ∙ ap (λ (u : List ℕ). pos_of t c + length u) (bytes-struct (place X) sp.d (held X) c (c + many X) (place-small X) d_small
        (held_small X sp.d c sp.small) i-small (p ∙ n))

    -- a struct's count is the byte behind its mark
    count-is : place_at s (pos_of t c) ≡ 11 → count_in (get_or t c 0) ≡ get_or s (pos_of t c + 2) 0
    unfolding place schema mark mark_at
    count-is n = go X type-is entry-is sp.small drop-pos (ap place (sym type-is) ∙ sym (typed-place s (pos_of t c) d y) ∙ n)
      where
        go : (Y : Ty) → type_at s (pos_of t c) d ≡ Y → get_or t c 0 ≡ word (place Y) sp.d (held Y) c (c + many Y) → Small sp.d c Y → drop
            (pos_of t c) s ≡ schema Y ++ schema_of sp.back → place Y ≡ 11 → count_in (get_or t c 0) ≡ get_or s (pos_of t c + 2) 0
        go (fix f) q e z g m = absurd (omega (arith, fixed-high f))
        go (text u) q e z g m = absurd (omega (arith, text-high u))
        go (li Y) q e z g m = absurd (omega arith)
        go (ma K U) q e z g m = absurd (omega arith)
        go (ro ts) q e z g m =
            ap count_in e ∙ count_word 11 sp.d (count ts) c (c + many (ro ts)) (omega arith) d_small (held_small (ro ts) sp.d c z) i-small
            ∙ sym (sym (get_or-drop (pos_of t c) s 2 0) ∙ ap (λ (u : List ℕ). get_or u 2 0) g)

    -- all of it
    pub entry-says : EntryAt t c d (get_or t c 0)
    entry-says = record {
      lined = lined;
      place = place_is;
      next = next_place;
      room = next-room;
      child = λ n. child-other (λ e. n (place_is ∙ e));
      first = λ e. child-struct (sym place_is ∙ e);
      count = λ e. count-is (sym place_is ∙ e);
    }

-- the table of an accepted schema says that schema, and the one fact holds of it
module _ (s : List ℕ) (e : judged s ≡ Accepted) where
  pub says-schema : schema_of (table_of s) ≡ s
  unfolding table_of size
  says-schema =
      let r = accepted-root s e in
      let z : 2 * many (ro (fields_of s)) ≤ length (schema (ro (fields_of s))) = many-size (ro (fields_of s)) in
      says (ro (fields_of s)) 1 0 (record { right = r.right; deep = omega (arith, r.deep); ends = omega (arith, r.short, ap length r.form) }) ∙ sym
      r.form

  pub table-of : Table (table_of s)
  table-of = record { accepted = ap judged says-schema ∙ e; given = ap table_of (sym says-schema) }

-- ---- a type that stands in a table, by its entry w

module _ {t : List ℕ} {c d w : ℕ} (S : InTable t c d) (E : EntryAt t c d w) where
  pub entry_place : place_in w ≡ place (type_of t c d)
  entry_place = E.place ∙ typed-place (schema_of t) (pos_of t c) d S.typed

  pub entry-list : place_in w ≡ 9 → ListAt (schema_of t) (pos_of t c) d (pos_of t (c + 1))
  entry-list e = rw (E.child (λ n. omega arith)) (place-li (schema_of t) (pos_of t c) d S.typed (place_in w) E.place e)

  pub entry-map : place_in w ≡ 10 → MapAt (schema_of t) (pos_of t c) d (pos_of t (c + 1)) (next_at (schema_of t) (pos_of t (c + 1)) (d - 1))
  entry-map e = rw (E.child (λ n. omega arith)) (place-ma (schema_of t) (pos_of t c) d S.typed (place_in w) E.place e)

  pub entry-struct : place_in w ≡ 11 → {n : ℕ} → n ≡ count_in w → StructAt (schema_of t) (pos_of t c) d (pos_of t (c + 1)) n
  entry-struct e {n} en = rw (E.first e) (place-ro (schema_of t) (pos_of t c) d S.typed (place_in w) E.place e n (en ∙ E.count e))

-- the root stands at the first place
module _ {t : List ℕ} (h : Table t) where
  first_pos : pos_of t 0 ≡ 0
  unfolding pos_of schema_of
  first_pos = refl

  pub root_stands : InTable t 0 8
  root_stands = record {
    table = h;
    typed = subst (λ (j : ℕ). Typed (schema_of t) j 8) (sym first_pos) (accepted-root (schema_of t) h.accepted).typed;
  }

  pub root-whole : type_of t 0 8 ≡ ro (fields_of (schema_of t))
  root-whole = ap (λ (j : ℕ). type_at (schema_of t) j 8) first_pos ∙ (accepted-root (schema_of t) h.accepted).whole

  pub root-place : place_at (schema_of t) (pos_of t 0) ≡ 11
  unfolding place
  root-place = typed-place (schema_of t) (pos_of t 0) 8 root_stands.typed ∙ ap place root-whole
