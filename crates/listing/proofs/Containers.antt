-- A list, a map and a struct taken apart: what the code's calls ask, and that their records together are the container's.
-- Assumes nothing.
use mathlib.Core.Path.{◌≡◌, refl, sym, ap, ◌∙◌, subst}
use mathlib.Core.List.{List, ◌++◌, append_assoc}
use Prim.Native.Nat.{ℕ, ◌+◌, ◌*◌, ◌-◌, ◌≤◌, ◌<◌}
use native.Mathlib.Omega.{arith}
use lib.ListN.{length, take, drop, length-append}
use mir.Syntax.{w64}
use mir.Val.{Fits}
use Rattle.words.specs.Bytes.{le}
use Rattle.words.specs.Reads.{Reads}
use Rattle.schema.specs.Marks.{mark_at}
use Rattle.schema.specs.Types.{Ty, li, ma, ro, Tys, place, mark}
use Rattle.schema.specs.Walk.{type_at, next_at, Typed, ListAt, MapAt, StructAt}
use Rattle.schema.proofs.Typing.{typed-deep}
use Rattle.table.specs.Words.{place_in, count_in, after_in}
use Rattle.table.specs.Tables.{schema_of, pos_of, InTable, EntryAt, type_of, types_of}
use Rattle.table.proofs.Places.{place-room, table-short, entry-list, entry-map, entry-struct}
use Rattle.layout.specs.Cells.{parts}
use Rattle.layout.specs.Listing.{struct_script, list_script, script, listing}
use Rattle.layout.proofs.Walked.{list-says}
use Rattle.listing.specs.Lines.{cell_of, lines, item_lines, field_lines, Written}
use Rattle.listing.specs.Room.{Holds, Container, Pair, Elements, Fields}
use Rattle.listing.proofs.Wrote.{and_then, same_bytes}
use Rattle.listing.proofs.Maps.{size_in, count-in, keys-fit, keys-end, keys-hold, values-hold, map_is, map-lengths}

-- ---- the records of each

list-lines : (t : Ty) (b : List ℕ) (n : ℕ) → n ≡ length (parts (cell_of (li t) b)) → (mark_at 9 ++ le 4 n) ++ item_lines t b ≡ lines (li t) b
unfolding lines listing script list_script item_lines mark place
list-lines t b n e = rw (append_assoc, e)

struct-lines : (ts : Tys) (b : List ℕ) → mark_at 11 ++ field_lines ts b ≡ lines (ro ts) b
unfolding lines listing script struct_script field_lines mark place
struct-lines ts b = refl

-- ---- the measure falls from the children to a container of them, and from a container to it as a map

pub child-rank : (d : ℕ) {m : ℕ} → d * 3 + 3 ≡ m → d * 3 + 2 < m
child-rank d e = omega arith

pub map-rank : (d : ℕ) {m : ℕ} → d * 3 + 2 ≡ m → d * 3 + 1 < m
map-rank d e = omega arith

-- ---- by the entry of its type

module _ {t : List ℕ} {at d : ℕ} {b : List ℕ} {pos : ℕ} (r : Container t at d b pos) where
  abbrev s : List ℕ
  s = schema_of t

  pub value-deep : 1 ≤ d
  value-deep = typed-deep s (pos_of t at) d r.stands.typed

  pub value-child : Fits w64 (at + 1)
  value-child = omega (arith, place-room t r.stands.table at d r.stands.typed, table-short t r.stands.table)

  -- the measure falls from a container, and from a map, to its children
  pub value-falls : {m : ℕ} → d * 3 + 2 ≡ m → (d - 1) * 3 + 3 < m
  value-falls e = omega (arith, value-deep)

  pub map-falls : {m : ℕ} → d * 3 + 1 ≡ m → (d - 1) * 3 + 3 < m
  map-falls e = omega (arith, value-deep)

  pub value_room : pos ≤ 65536
  value_room = omega (arith, r.room)

-- w is its type's entry, and k the type's place in the table of types
module _ {t : List ℕ} {at d : ℕ} {b : List ℕ} {pos : ℕ} (r : Container t at d b pos) {w : ℕ} (e : EntryAt t at d w) {k : ℕ} (ek : k ≡ place_in w) where
  -- ---- a list

  module _ (q : k ≡ 9) where
    list_at : ListAt (schema_of t) (pos_of t at) d (pos_of t (at + 1))
    list_at = entry-list r.stands e (sym ek ∙ q)

    abbrev el : Ty
    el = type_of t (at + 1) (d - 1)

    list-holds : Holds (li el) b
    list-holds = rw list_at.whole at r.holds

    pub list-head : 0 + 8 ≤ length b
    list-head = omega (arith, (list-says el _ b list-holds.lays (omega (arith, list-holds.small))).room)

    module _ {n : ℕ} (g : Reads b 0 8 n) where
      list-is : (mark_at (place_in w) ++ le 4 n) ++ item_lines el b ≡ lines (type_of t at d) b
      list-is =
          rw (sym ek ∙ q, list_at.whole)
          (list-lines el b n (g.is ∙ (list-says el _ b list-holds.lays (omega (arith, list-holds.small))).count))

      module _ {out o : List ℕ} {p : ℕ} (f : Written out pos (mark_at (place_in w) ++ le 4 n) o p) where
        pub list-elements : Elements t (at + 1) (d - 1) b p
        list-elements = record {
          stands = record { table = r.stands.table; typed = list_at.element };
          items = record {
            holds = list-holds;
            room = omega (arith, f.past, length-append (mark_at (place_in w) ++ le 4 n) (item_lines el b), ap length list-is, r.room);
          };
        }

        pub list_written : {o' : List ℕ} {p' : ℕ} → Written o p (item_lines el b) o' p' → Written out pos (lines (type_of t at d) b) o' p'
        list_written h = same_bytes list-is (and_then f h)

  -- ---- a map

  pub map-pair : k ≡ 10 → Pair t at d b pos
  map-pair q = record { container = r; map = sym e.place ∙ sym ek ∙ q }

  -- ---- a struct, which is what is left

  module _ (n9 : k ≡ 9 → ⊥) (n10 : k ≡ 10 → ⊥) where
    eleven : place_in w ≡ 11
    eleven = go k ek n9 n10 (rw (← e.place, ← ek) at r.high) (rw (← ek) at e.lined.few)
      where
        go : (j : ℕ) → j ≡ place_in w → (j ≡ 9 → ⊥) → (j ≡ 10 → ⊥) → 9 ≤ j → j < 12 → place_in w ≡ 11
        go j ej a b l m = omega arith

    module _ {n : ℕ} (en : n ≡ count_in w) where
      struct_at : StructAt (schema_of t) (pos_of t at) d (pos_of t (at + 1)) n
      struct_at = entry-struct r.stands e eleven en

      abbrev ts : Tys
      ts = types_of t (at + 1) (d - 1) n

      struct_is : mark_at (place_in w) ++ field_lines ts b ≡ lines (type_of t at d) b
      struct_is = rw (eleven, struct_at.whole) (struct-lines ts b)

      module _ {out o : List ℕ} {p : ℕ} (f : Written out pos (mark_at (place_in w)) o p) where
        pub struct_fields : Fields t (at + 1) n (d - 1) b p
        struct_fields = record {
          table = r.stands.table;
          typed = struct_at.fields;
          high = struct_at.high;
          holds = rw struct_at.whole at r.holds;
          room = omega (arith, f.past, length-append (mark_at (place_in w)) (field_lines ts b), ap length struct_is, r.room);
        }

        pub struct_written : {o' : List ℕ} {p' : ℕ} → Written o p (field_lines ts b) o' p' → Written out pos (lines (type_of t at d) b) o' p'
        struct_written h = same_bytes struct_is (and_then f h)

-- ---- a map: w is its entry, w₁ that of its keys, behind which stand the values

module _ {t : List ℕ} {at d : ℕ} {b : List ℕ} {pos : ℕ} (r : Pair t at d b pos) {w : ℕ} (e : EntryAt t at d w) where
  abbrev x : ℕ
  x = pos_of t (at + 1)

  map_at : MapAt (schema_of t) (pos_of t at) d x (next_at (schema_of t) x (d - 1))
  map_at = entry-map r.container.stands e (e.place ∙ r.map)

  pub keys-stand : InTable t (at + 1) (d - 1)
  keys-stand = record { table = r.container.stands.table; typed = map_at.keys }

  abbrev tk : Ty
  tk = type_of t (at + 1) (d - 1)

  pair-holds : Holds (ma tk (type_at (schema_of t) (next_at (schema_of t) x (d - 1)) (d - 1))) b
  pair-holds = rw map_at.whole at r.container.holds

  pub map-size-in : 0 + 8 ≤ length b
  map-size-in = size_in pair-holds

  pub map-count-in : 8 + 8 ≤ length b
  map-count-in = count-in pair-holds

  module _ {K : ℕ} (gK : Reads b 0 8 K) where
    pub map-fits : 8 + K ≤ length b
    map-fits = keys-fit pair-holds gK

    pub map-end : Fits w64 (8 + K)
    map-end = keys-end pair-holds gK

  -- v is the place of the values' type
  module _ {w₁ v : ℕ} (e₁ : EntryAt t (at + 1) (d - 1) w₁) (ev : v ≡ after_in w₁) where
    values-at : pos_of t v ≡ next_at (schema_of t) (pos_of t (at + 1)) (d - 1)
    values-at = ap (pos_of t) ev ∙ e₁.next

    abbrev tv : Ty
    tv = type_of t v (d - 1)

    whole : type_of t at d ≡ ma tk tv
    whole = map_at.whole ∙ ap (λ (y : ℕ). ma tk (type_at (schema_of t) y (d - 1))) (sym values-at)

    map-holds : Holds (ma tk tv) b
    map-holds = rw whole at r.container.holds

    values-stand : InTable t v (d - 1)
    values-stand = record {
      table = r.container.stands.table;
      typed = subst (λ (y : ℕ). Typed (schema_of t) y (d - 1)) (sym values-at) map_at.values;
    }

    module _ {K n : ℕ} (gK : Reads b 0 8 K) (gn : Reads b 8 8 n) {out o : List ℕ} {p : ℕ}
        (f : Written out pos (mark_at (place_in w) ++ le 4 n) o p) where
      abbrev us : List ℕ
      us = take (8 + K - 8) (drop 8 b)

      abbrev vs : List ℕ
      vs = take (length b - (8 + K)) (drop (8 + K) b)

      f₁₀ : Written out pos (mark_at 10 ++ le 4 n) o p
      f₁₀ = rw (e.place ∙ r.map) at f

      room : pos + length (lines (ma tk tv) b) ≤ 65536
      room = rw whole at r.container.room

      pub map_keys : Elements t (at + 1) (d - 1) us p
      map_keys = record {
        stands = keys-stand;
        items = record { holds = keys-hold map-holds gK; room = omega (arith, f₁₀.past, map-lengths map-holds gK gn, room) };
      }

      module _ {o₁ : List ℕ} {q : ℕ} (g : Written o p (item_lines tk us) o₁ q) where
        pub map-values : Elements t v (d - 1) vs q
        map-values = record {
          stands = values-stand;
          items = record { holds = values-hold map-holds gK; room = omega (arith, f₁₀.past, g.past, map-lengths map-holds gK gn, room) };
        }

        pub map-written : {o₂ : List ℕ} {q' : ℕ} → Written o₁ q (item_lines tv vs) o₂ q' → Written out pos (lines (type_of t at d) b) o₂ q'
        map-written h = rw whole (same_bytes (map_is map-holds gK gn) (and_then f₁₀ (and_then g h)))
