-- Containers by their entry in a table, and a list's items, as the cycle of calls meets them. Assumes nothing.
use mathlib.Core.Path.{◌≡◌, refl, sym, ap, ◌∙◌, subst}
use mathlib.Core.Bool.{Bool, true}
use mathlib.Core.List.{List}
use Prim.Native.Nat.{ℕ, ◌+◌, ◌*◌, ◌-◌, ◌^◌, ◌≤◌, ◌<◌}
use native.Mathlib.Omega.{arith}
use mir.Val.{Fits}
use mir.Syntax.{w64}
use lib.ListN.{length}
use Rattle.words.specs.Bytes.{Bytes, bitmap}
use Rattle.schema.specs.Types.{Ty, li, ma, ro, place}
use Rattle.schema.specs.Walk.{Typed, next_at, ListAt, MapAt, StructAt}
use Rattle.schema.proofs.Typing.{typed-deep}
use Rattle.schema.proofs.Places.{typed-place, holding-of}
use Rattle.table.specs.Words.{place_in, after_in, count_in}
use Rattle.table.specs.Tables.{InTable, EntryAt, schema_of, pos_of, type_of, types_of}
use Rattle.table.proofs.Places.{place-room, table-short, entry-list, entry-map, entry-struct}
use Rattle.standing.proofs.Tabled.{kind-varies}
use Rattle.checking.specs.Sound.{fault_of}
use Rattle.checking.specs.Room.{Holding, Fields, LeavesOr0, Items, Pair}
use Rattle.checking.proofs.Containers.{Eights, container-eights}
use Rattle.checking.proofs.Loops.{items, Slots}

-- ---- a container by its kind

pub as-type : (t u : Ty) (b : List ℕ) (r : ℕ) → t ≡ u → r ≡ fault_of u b → r ≡ fault_of t b
as-type t u b r e h = h ∙ ap (λ (x : Ty). fault_of x b) (sym e)

-- a place of a table is small
pub place-low : {t : List ℕ} {c d : ℕ} → InTable t c d → c < 1024
place-low {t} {c} {d} s = omega (arith, place-room t s.table c d s.typed, table-short t s.table)

pub place-fits : {t : List ℕ} {c d : ℕ} → InTable t c d → Fits w64 c
place-fits s = omega (arith, place-low s)

-- and has a next one
pub next_place : {t : List ℕ} {c d : ℕ} → InTable t c d → Fits w64 (c + 1)
next_place s = omega (arith, place-low s)

-- a container's kind, by its entry
pub holds-kind : {k x : ℕ} → k ≡ x → 9 ≤ x → 9 ≤ k
holds-kind e h = omega arith

-- What a loop over children, d deep, whose call has the measure m, knows of a child's bytes b that should stand for a container: w is the
-- entry of its type, and k its kind.
pub record Child (t : List ℕ) (c d w k m : ℕ) (b : List ℕ) : Type 0 where
  pub stands : InTable t c d
  pub entry : EntryAt t c d w
  pub kind : k ≡ place_in w
  pub holds : 9 ≤ k
  pub small : length b ≤ 16384
  pub rank : d * 8 + 2 ≡ m

module _ {t : List ℕ} {c d w k m : ℕ} {b : List ℕ} (h : Child t c d w k m b) where
  abbrev s : List ℕ
  s = schema_of t

  abbrev p : ℕ
  p = pos_of t c

  child-deep : 1 ≤ d
  child-deep = omega (arith, typed-deep s p d h.stands.typed)

  -- the calls are one deeper
  falls : (j : ℕ) → j < 8 → (d - 1) * 8 + j < m
  falls j l = omega (arith, child-deep, h.rank)

  -- a list
  module _ (e : k ≡ 9) where
    list_law : ListAt s p d (pos_of t (c + 1))
    list_law = entry-list h.stands h.entry (sym h.kind ∙ e)

    pub child-list : ((d - 1) * 8 + 3 < m) × Holding t (c + 1) (d - 1) b
    child-list = (falls 3 (omega arith), record { stands = record { table = h.stands.table; typed = list_law.element }; small = h.small })

    pub list-whole : {x r : ℕ} → r ≡ x → x ≡ fault_of (li (type_of t (c + 1) (d - 1))) b → r ≡ fault_of (type_of t c d) b
    list-whole e q = as-type _ _ b _ list_law.whole (e ∙ q)

  -- a map
  module _ (x : k ≡ 11 → ⊥) (y : k ≡ 9 → ⊥) where
    ten : place_in w ≡ 10
    ten = go k x y h.holds h.kind h.entry.lined.few
      where
        go : (i : ℕ) → (i ≡ 11 → ⊥) → (i ≡ 9 → ⊥) → 9 ≤ i → i ≡ place_in w → place_in w < 12 → place_in w ≡ 10
        go i a b l q f = omega arith

    map-law : MapAt s p d (pos_of t (c + 1)) (next_at s (pos_of t (c + 1)) (d - 1))
    map-law = entry-map h.stands h.entry ten

    pub child-keys : InTable t (c + 1) (d - 1)
    child-keys = record { table = h.stands.table; typed = map-law.keys }

    module _ {u : ℕ} (eu : EntryAt t (c + 1) (d - 1) u) {a : ℕ} (ea : a ≡ after_in u) where
      behind : next_at s (pos_of t (c + 1)) (d - 1) ≡ pos_of t a
      behind = sym (ap (pos_of t) ea ∙ eu.next)

      pub child-map : ((d - 1) * 8 + 4 < m) × Pair t (c + 1) a (d - 1) b
      child-map = (
        falls 4 (omega arith),
        record {
          keys = child-keys;
          values = record { table = h.stands.table; typed = subst (λ (q : ℕ). Typed s q (d - 1)) behind map-law.values };
          small = h.small;
        },
      )

      pub map_whole : {x r : ℕ} → r ≡ x → x ≡ fault_of (ma (type_of t (c + 1) (d - 1)) (type_of t a (d - 1))) b → r ≡ fault_of (type_of t c d) b
      map_whole e q = as-type _ _ b _ (subst (λ (q : ℕ). MapAt s p d (pos_of t (c + 1)) q) behind map-law).whole (e ∙ q)

  -- a struct
  module _ (e : k ≡ 11) {n : ℕ} (en : n ≡ count_in w) where
    eleven : place_in w ≡ 11
    eleven = sym h.kind ∙ e

    struct_law : StructAt s p d (pos_of t (c + 1)) n
    struct_law = entry-struct h.stands h.entry eleven en

    struct_fields : Fields t (c + 1) n (d - 1) b
    struct_fields = record { table = h.stands.table; typed = struct_law.fields; high = struct_law.high; small = h.small }

    pub child-struct : ((d - 1) * 8 + 5 < m) × Fields t (c + 1) n (d - 1) b
    child-struct = (falls 5 (omega arith), struct_fields)

    pub struct-whole : {x r : ℕ} → r ≡ x → x ≡ fault_of (ro (types_of t (c + 1) (d - 1) n)) b → r ≡ fault_of (type_of t c d) b
    struct-whole e q = as-type _ _ b _ struct_law.whole (e ∙ q)

  -- one that is worth a look
  module _ {n : ℕ} (f : LeavesOr0 w n) (ne : n ≡ 0 → ⊥) where
    pub child-plain : Fields t (c + 1) n (d - 1) b × (1 ≤ n) × (n < 64)
    child-plain = (struct_fields (h.kind ∙ (f ne).struct) (f ne).fields, some n ne, (f ne).few)
      where
        some : (i : ℕ) → (i ≡ 0 → ⊥) → 1 ≤ i
        some i z = omega arith

    pub plain-whole : {x : Bool} → (x ≡ true → 0 ≡ fault_of (ro (types_of t (c + 1) (d - 1) n)) b) → x ≡ true → {r : ℕ} → r ≡ 0
        → r ≡ fault_of (type_of t c d) b
    plain-whole g e q = struct-whole (h.kind ∙ (f ne).struct) (f ne).fields q (g e)

-- ---- the items of a list

module _ {t : List ℕ} {c d w : ℕ} {b : List ℕ} {n : ℕ} (i : Items t c d w b n) where
  abbrev own : Ty
  own = type_of t c d

  kind : place_in w ≡ place own
  kind = i.entry.place ∙ typed-place (schema_of t) (pos_of t c) d i.stands.typed

  pub item-deep : 1 ≤ d
  item-deep = omega (arith, typed-deep (schema_of t) (pos_of t c) d i.stands.typed)

  pub item-eights : Eights own
  item-eights = container-eights own (place_in w) (holding-of own (place_in w) kind i.holds)

  pub items-slots : Bytes b → {r : ℕ} → r ≡ bitmap n → Slots (items own n) b n (8 + r) (8 + r + 8 * n)
  items-slots hb e = record {
    right = (refl, kind-varies own (omega (arith, kind, i.holds)));
    map = ap (λ (x : ℕ). 8 + x) e;
    data₀ = refl;
    room = omega (arith, i.room);
    small = i.small;
    whole = i.whole;
    bytes = hb;
  }

  -- the positions of the loop over the items
  pub item-asks : n < 2 ^ 32
  item-asks = omega (arith, i.room, i.small)

  pub item-mul : Fits w64 (8 * n)
  item-mul = omega (arith, i.room, i.small)

  module _ {r : ℕ} (e : r ≡ bitmap n) where
    pub item-map : Fits w64 (8 + r)
    item-map = omega (arith, i.room, i.small)

    pub item-start : Fits w64 (8 + r + 8 * n)
    item-start = omega (arith, i.room, i.small)
