-- The contents of a container written behind their mark, by the entry of its type. Assumes nothing.
use mathlib.Core.Path.{◌≡◌, sym, ap, ◌∙◌}
use mathlib.Core.Option.{some}
use mathlib.Core.List.{List, [], ◌∷◌, ◌++◌}
use Prim.Native.Nat.{ℕ, ◌+◌, ◌*◌, ◌-◌, ◌%◌, ◌≤◌, ◌<◌}
use native.Mathlib.Decide.{ℕ_discrete}
use native.Mathlib.Omega.{arith}
use lib.ListN.{length, drop, replicate, length-append}
use lib.Seq.{sets}
use mir.Syntax.{w64}
use mir.Val.{Fits}
use Rattle.words.specs.Bytes.{Bytes, le, padded}
use Rattle.words.specs.Reads.{Reads}
use Rattle.words.proofs.Numbers.{length-le, slice-bytes}
use Rattle.words.proofs.Runs.{sets_then, sets-comm}
use Rattle.schema.specs.Types.{Ty, li, ma}
use Rattle.schema.specs.Kinds.{place_at}
use Rattle.schema.specs.Walk.{type_at, next_at, ListAt, MapAt}
use Rattle.schema.proofs.Typing.{typed-deep}
use Rattle.layout.specs.Cells.{Cell, node}
use Rattle.layout.specs.Layout.{slot_of, kid, pair, codec, content}
use Rattle.layout.specs.Listing.{run_get, list_script, map_script, element, script}
use Rattle.layout.proofs.Cells.{parts-node}
use Rattle.layout.proofs.Children.{tails-eight}
use Rattle.layout.proofs.Containers.{repeat, element-lawful}
use Rattle.table.specs.Words.{place_in, after_in}
use Rattle.table.specs.Tables.{schema_of, pos_of, InTable, EntryAt, type_of}
use Rattle.table.proofs.Places.{place-room, table-short, entry-list, entry-map}
use Rattle.measuring.specs.Measure.{size}
use Rattle.measuring.proofs.Records.{cut_at}
use Rattle.measuring.proofs.Totals.{array_fit, array_size}
use Rattle.putting.specs.Put.{Ready, Held, PutValue, PutStruct, PutArray, ArrayWrote}
use Rattle.putting.proofs.Given.{same-thing, same_rest, list-four, given-list, Pair, map-four, given-map}
use Rattle.putting.proofs.Slots.{Octets, padded-whole}
use Rattle.putting.proofs.Paints.{size_is}

map-content : (k v : Ty) (ks vs : List Cell) → content (ma k v) (node (node ks ∷ node vs ∷ []))
    ≡ le 8 (length (content (li k) (node ks))) ++ (content (li k) (node ks) ++ content (li v) (node vs))
unfolding codec pair
map-content k v ks vs = simp parts-node

-- keys behind their size, and values behind them
map-bytes : (x : List ℕ) {x₁ x₂ y : List ℕ} (K U : List ℕ) (pos : ℕ) {stop : ℕ} → x₁ ≡ sets x (pos + 8) K → stop ≡ pos + 8 + length K
    → x₂ ≡ sets x₁ pos (le 8 (length K)) → y ≡ sets x₂ stop U → y ≡ sets x pos (le 8 (length K) ++ (K ++ U))
map-bytes x {x₁} {x₂} {y} K U pos {stop} e₁ es e₂ e =
    let H = le 8 (length K) in
    let lh : length H ≡ 8 = length-le 8 (length K) in
    e ∙ rw (e₂, e₁) (ap (λ (z : List ℕ). sets z stop U) (sets-comm x pos (pos + 8) H K (rw lh (omega arith)))
    ∙ sets_then (sets x pos H) (pos + 8) stop K U es ∙ sets_then x pos (pos + 8) H (K ++ U) (rw lh))

-- an array that was read has whole words
array-eight : (t : Ty) (from : ℕ) {l : List ℕ} {n : ℕ} {cs : List Cell} {r : List ℕ} → Bytes l → n < 4294967296
    → run_get (replicate n (element t (script t))) (drop from l) ≡ some (cs, r) → length (content (li t) (node cs)) % 8 ≡ 0
array-eight t from {l} {n} {cs} {r} hb few e =
    let w = slot_of (codec t).wide in
    let k = kid w (codec t) in
    let f = array_fit t l from n cs r hb (omega arith) e in
    omega (arith, size_is (li t) (node cs), array_size t n cs f, tails-eight w (replicate n k) cs (repeat w n k (element-lawful t)))

pub element-rank : (d : ℕ) {m : ℕ} → 3 * d + 3 ≡ m → 3 * d + 2 < m
element-rank d e = omega arith

module _ {t : List ℕ} {c d : ℕ} {l : List ℕ} {from pos len : ℕ} (p : PutValue t c d l from pos len) where
  pub value-deep : 1 ≤ d
  value-deep = omega (arith, typed-deep (schema_of t) (pos_of t c) d p.stands.typed)

  -- and from a value to an array in it
  pub value-falls : {m : ℕ} → 3 * d + 2 ≡ m → 3 * (d - 1) + 3 < m
  value-falls e = omega (arith, value-deep)

  pub value-child : Fits w64 (c + 1)
  value-child = let s = p.stands in omega (arith, place-room t s.table c d s.typed, table-short t s.table)

  ready-as : {u : Ty} → type_of t c d ≡ u → Ready ((script u).get (drop from l)) (size u) pos len
  ready-as e = rw e at p.ready

-- e is the entry of its type, and k the type's place in the table of types
module _ {t : List ℕ} {c d : ℕ} {l : List ℕ} {from pos len : ℕ} (p : PutValue t c d l from pos len) {e : ℕ}
    (en : EntryAt t c d e) {k : ℕ} (ek : k ≡ place_in e) where
  place_is : k ≡ place_at (schema_of t) (pos_of t c)
  place_is = ek ∙ en.place

  pub struct-can : k ≡ 11 → PutStruct t c d l from pos len
  struct-can z = record { put = p; struct = sym place_is ∙ z }

  held-as : {u : Ty} → type_of t c d ≡ u → {x y : List ℕ} {next stop : ℕ} → Held u l from pos x y next stop → Held (type_of t c d) l from pos x y next stop
  held-as z w = rw z w

  -- what a list and a map hold stands one place on
  abbrev key_ty : Ty
  key_ty = type_of t (c + 1) (d - 1)

  abbrev value_ty : Ty
  value_ty = type_at (schema_of t) (next_at (schema_of t) (pos_of t (c + 1)) (d - 1)) (d - 1)

  list_at : k ≡ 9 → ListAt (schema_of t) (pos_of t c) d (pos_of t (c + 1))
  list_at q = entry-list p.stands en (sym ek ∙ q)

  map_at : k ≡ 10 → MapAt (schema_of t) (pos_of t c) d (pos_of t (c + 1)) (next_at (schema_of t) (pos_of t (c + 1)) (d - 1))
  map_at q = entry-map p.stands en (sym ek ∙ q)

  module _ (n11 : k ≡ 11 → ⊥) where
    ten : (k ≡ 9 → ⊥) → k ≡ 10
    ten n9 = omega (arith, p.holds, place_is, en.lined.few, ek)

    -- a list and a map begin with four bytes
    pub value-four : from + 4 ≤ length l
    value-four = go (ℕ_discrete k 9)
      where
        go : Dec (k ≡ 9) → from + 4 ≤ length l
        go (yes q) = omega (arith, list-four l from pos len key_ty (ready-as p (list_at q).whole))
        go (no f) = omega (arith, map-four l from pos len key_ty value_ty (ready-as p (map_at (ten f)).whole))

    pub value_after : Fits w64 (from + 4)
    value_after = omega (arith, value-four, p.short)

  -- ---- a list: n is its count

  module _ (q : k ≡ 9) {n : ℕ} (r : Reads l from 4 n) where
    list-head : from + 4 ≤ length l
    list-head = value-four (λ z. omega arith)

    pub list-can : PutArray t (c + 1) (d - 1) l (from + 4) n pos len
    list-can = record {
      stands = record { table = p.stands.table; typed = (list_at q).element };
      inside = list-head;
      few = omega (arith, r.below);
      ready = given-list l from pos len key_ty (ready-as p (list_at q).whole) n r.is;
      small = p.small;
      short = p.short;
    }

    pub list_held : Octets l → {x y : List ℕ} {next stop : ℕ} → ArrayWrote key_ty l (from + 4) n pos x y next stop → Held (type_of t c d) l from pos x y next stop
    unfolding script list_script
    list_held o {x} w =
        let four : 4 ≤ length l - from = omega (arith, list-head) in
        let er = r.is in
        let u = content (li key_ty) (node w.thing) in
        held-as (list_at q).whole (record {
          thing = node w.thing;
          reads = rw (cut_at 4 l from four, ← er, w.reads);
          inside = w.inside;
          bytes = w.bytes ∙ ap (sets x pos) (sym (padded-whole u (array-eight key_ty (from + 4) (slice-bytes o) list-can.few w.reads)));
          ends = w.ends;
        })

  -- ---- a map, which is what is left: its keys behind their size, and its values behind them

  module _ (n11 : k ≡ 11 → ⊥) (n9 : k ≡ 9 → ⊥) where
    at_map : MapAt (schema_of t) (pos_of t c) d (pos_of t (c + 1)) (next_at (schema_of t) (pos_of t (c + 1)) (d - 1))
    at_map = map_at (ten n11 n9)

    pub keys-stand : InTable t (c + 1) (d - 1)
    keys-stand = record { table = p.stands.table; typed = at_map.keys }

    module _ {n : ℕ} (r : Reads l from 4 n) where
      both : Pair l from pos len key_ty value_ty n
      both = given-map l from pos len key_ty value_ty (ready-as p at_map.whole) n r.is

      few : n < 4294967296
      few = omega (arith, r.below)

      pub keys-can : PutArray t (c + 1) (d - 1) l (from + 4) n (pos + 8) len
      keys-can = record {
        stands = keys-stand;
        inside = value-four n11;
        few = few;
        ready = record { thing = both.ks; rest = both.mid; reads = both.keys; room = omega (arith, both.room) };
        small = p.small;
        short = p.short;
      }

      pub head_in : {m : ℕ} → m ≡ len → pos + 8 ≤ m
      head_in e = omega (arith, both.room)

      -- where the keys end is stop, the listing goes on at mid, and v is the place of the values' type, behind the keys' entry e₁
      module _ {x x₁ : List ℕ} {mid stop : ℕ} (a : ArrayWrote key_ty l (from + 4) n (pos + 8) x x₁ mid stop) where
        module _ {e₁ v : ℕ} (en₁ : EntryAt t (c + 1) (d - 1) e₁) (ev : v ≡ after_in e₁) {mid₁ stop₁ : ℕ} (em : mid₁ ≡ mid) (es : stop₁ ≡ stop) where
          values-at : pos_of t v ≡ next_at (schema_of t) (pos_of t (c + 1)) (d - 1)
          values-at = ap (pos_of t) ev ∙ en₁.next

          pub values-can : {m : ℕ} → m ≡ len → PutArray t v (d - 1) l mid₁ n stop₁ m
          values-can el =
              let same = ap (λ cs. length (content (li key_ty) (node cs))) (same-thing both.keys a.reads) in
              rw (el, em, es) (record {
                stands = record { table = p.stands.table; typed = rw values-at at_map.values };
                inside = a.inside;
                few = few;
                ready = rw values-at (record {
                  thing = both.vs;
                  rest = both.rest;
                  reads = ap (run_get (replicate n (element value_ty (script value_ty)))) (sym (same_rest both.keys a.reads)) ∙ both.values;
                  room = omega (arith, a.ends, size_is (li key_ty) (node both.ks), same, both.room);
                });
                small = p.small;
                short = p.short;
              })

          pub map-held : Octets l → {x₂ y : List ℕ} {next last : ℕ} → x₂ ≡ sets x₁ pos (le 8 (stop₁ - (pos + 8)))
              → ArrayWrote (type_of t v (d - 1)) l mid₁ n stop₁ x₂ y next last → Held (type_of t c d) l from pos x y next last
          unfolding script map_script
          map-held o {x₂} {y} {next} {last} e₂ b' =
              let b : ArrayWrote value_ty l mid n stop x₂ y next last = rw (values-at, em, es) at b' in
              let K = content (li key_ty) (node a.thing) in
              let U = content (li value_ty) (node b.thing) in
              let four : 4 ≤ length l - from = omega (arith, value-four n11) in
              let er = r.is in
              let size : stop₁ - (pos + 8) ≡ length K = omega (arith, a.ends) in
              let e₃ : x₂ ≡ sets x₁ pos (le 8 (length K)) = rw size at e₂ in
              let all = content (ma key_ty value_ty) (node (node a.thing ∷ node b.thing ∷ [])) in
              let whole : all ≡ le 8 (length K) ++ (K ++ U) = map-content key_ty value_ty a.thing b.thing in
              let long : length all ≡ 8 + length K + length U = ap length whole ∙ rw (length-append, length-append, length-le) (omega arith) in
              let even : padded all ≡ all = padded-whole all (omega (
                arith,
                long,
                array-eight key_ty (from + 4) (slice-bytes o) few a.reads,
                array-eight value_ty mid (slice-bytes o) few b.reads,
              )) in
              held-as at_map.whole (record {
                thing = node (node a.thing ∷ node b.thing ∷ []);
                reads = rw (cut_at 4 l from four, ← er, a.reads, b.reads);
                inside = b.inside;
                bytes = map-bytes x K U pos a.bytes a.ends e₃ b.bytes ∙ ap (sets x pos) (sym whole ∙ sym even);
                ends = omega (arith, a.ends, b.ends, long);
              })
