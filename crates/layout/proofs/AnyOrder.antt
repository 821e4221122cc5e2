-- Bytes stand for contents (`Layout`: each value apart from its earlier siblings, and all the data taken) exactly when in every container
-- the present values stand in some order, one after another, with no gap; and every order of them has such bytes. Assumes nothing.
use mathlib.Core.Path.{◌≡◌, refl, sym, ap, ◌∙◌, subst}
use mathlib.Core.Logic.{◌↔◌}
use mathlib.Core.Option.{Option, none, some}
use mathlib.Core.List.{List, [], ◌∷◌, ◌++◌}
use Prim.Native.Nat.{ℕ, zero, suc, ◌+◌, ◌*◌, ◌-◌, ◌%◌, ◌^◌}
use native.Mathlib.Omega.{arith}
use lib.ListN.{length, replicate}
use Rattle.words.specs.Bytes.{le, padded, bitmap}
use Rattle.schema.specs.Types.{Ty, fix, text, li, ma, ro, Tys, end, ◌then◌}
use Rattle.layout.specs.Tiles.{Range, total}
use Rattle.layout.specs.Cells.{Cell, null, leaf, nodes, on_null, parts, part_of}
use Rattle.layout.specs.Layout.{Codec, Kid, inside, outside, kid_of, kid, slot_of, kid_lays, flags, AllLay, front, BodyLays, struct, array, pair}
use Rattle.layout.specs.Layout.{number, string, list, codec, kids, Lays}
use Rattle.layout.specs.Orders.{Order, which, Value, owns, OneAfterAnother, joined, Child, child_of, PresentSlot, Slot, Slots, BodyInOrder, ListInOrder}
use Rattle.layout.specs.Orders.{InOrder, children}
use Rattle.layout.proofs.Tiles.{Standing}
use Rattle.layout.proofs.Orders.{Row, SomeOrder, stands-order, order-stands}
use Rattle.layout.proofs.Values.{range_of, ranges, ranges-eights, order-map, order_from, order-to, All, order-all, all-order, There, row-values}
use Rattle.layout.proofs.Values.{values-row, data-joined, joined-there, placing, placing-own, placing-row}

-- ---- one child

-- values that stand beside each other in the data d, which starts at a byte of the container
record Good (at : ℕ) (d : List ℕ) (vs : List Value) : Type 0 where
  standing : Standing at (at + length d) (ranges vs)
  there : All (There at d) vs

-- the values that the slots up to one child say
record Gathered (Slotted : List Value → Type 0) (at : ℕ) (d : List ℕ) (rs : List Range) : Type 0 where
  values : List Value
  slotted : Slotted values
  are : ranges values ≡ rs
  good : Good at d values

module _ (w at : ℕ) (d : List ℕ) (c : Codec) (Image : Cell → List ℕ → Type 0) (alike : (x : Cell) (u : List ℕ) → c.Lays x u ↔ Image x u) where
  present-forth : (wide : Option ℕ) (x : Cell) (s : List ℕ) (vs : List Value) (rs : List Range) → (kid_of w wide c).Lays at d (ranges vs) x s rs → Good at d vs
      → Gathered (PresentSlot w wide Image x s vs) at d rs
  unfolding kid_of inside outside
  present-forth (some v) x s vs rs y g =
      record { values = vs; slotted = record { own = y.own; image = (alike x y.own).0 y.lays; slot = y.slot; same = refl }; are = y.same; good = g }
  present-forth none x s vs rs y g =
      let v : Value = record { start = y.place; own = y.own } in
      record {
        values = v ∷ vs;
        slotted = record { value = v; image = (alike x y.own).0 y.lays; slot = y.slot; more = refl };
        are = y.more;
        good = record { standing = (y.stands, g.standing); there = (record { behind = y.behind; is = y.there }, g.there) };
      }

  child-forth : (wide : Option ℕ) (x : Cell) (s : List ℕ) (vs : List Value) (rs : List Range) → kid_lays w (kid_of w wide c) at d (ranges vs) x s rs
      → Good at d vs
      → Gathered (Slot w (child_of wide Image) x s vs) at d rs
  unfolding on_null
  child-forth wide (null u) s vs rs y g = record { values = vs; slotted = record { fits = y.fits; is = y.is; same = refl }; are = y.same; good = g }
  child-forth wide (leaf u) s vs rs y g = present-forth wide (leaf u) s vs rs y g
  child-forth wide (nodes u) s vs rs y g = present-forth wide (nodes u) s vs rs y g

  present-back : (wide : Option ℕ) (x : Cell) (s : List ℕ) (vs vs' : List Value) → PresentSlot w wide Image x s vs vs' → Good at d vs'
      → (kid_of w wide c).Lays at d (ranges vs) x s (ranges vs') × Good at d vs
  unfolding kid_of inside outside
  present-back (some v) x s vs vs' y g =
      (record { own = y.own; lays = (alike x y.own).1 y.image; slot = y.slot; same = ap ranges y.same }, subst (Good at d) (sym y.same) g)
  present-back none x s vs vs' y g =
      let v = y.value in
      let h : Good at d (v ∷ vs) = subst (Good at d) (sym y.more) g in
      let t = h.there.0 in (
        record {
          place = v.start;
          own = v.own;
          behind = t.behind;
          lays = (alike x v.own).1 y.image;
          slot = y.slot;
          stands = h.standing.0;
          there = t.is;
          more = ap ranges y.more;
        },
        record { standing = h.standing.1; there = h.there.1 },
      )

  child-back : (wide : Option ℕ) (x : Cell) (s : List ℕ) (vs vs' : List Value) → Slot w (child_of wide Image) x s vs vs' → Good at d vs'
      → kid_lays w (kid_of w wide c) at d (ranges vs) x s (ranges vs') × Good at d vs
  unfolding on_null
  child-back wide (null u) s vs vs' y g = (record { fits = y.fits; is = y.is; same = ap ranges y.same }, subst (Good at d) (sym y.same) g)
  child-back wide (leaf u) s vs vs' y g = present-back wide (leaf u) s vs vs' y g
  child-back wide (nodes u) s vs vs' y g = present-back wide (nodes u) s vs vs' y g

-- ---- the children of a container

-- a child of either account
record AlikeOne (w : ℕ) (k : Kid) (j : Child) : Type 0 where
  forth : (at : ℕ) (d : List ℕ) (x : Cell) (s : List ℕ) (vs : List Value) (rs : List Range) → kid_lays w k at d (ranges vs) x s rs → Good at d vs
      → Gathered (Slot w j x s vs) at d rs
  back : (at : ℕ) (d : List ℕ) (x : Cell) (s : List ℕ) (vs vs' : List Value) → Slot w j x s vs vs' → Good at d vs'
      → kid_lays w k at d (ranges vs) x s (ranges vs') × Good at d vs

child-alike : (w : ℕ) (c : Codec) (Image : Cell → List ℕ → Type 0) → ((x : Cell) (u : List ℕ) → c.Lays x u ↔ Image x u)
    → AlikeOne w (kid w c) (child_of c.wide Image)
child-alike w c Image e = record {
  forth = λ at d x s vs rs y g. child-forth w at d c Image e c.wide x s vs rs y g;
  back = λ at d x s vs vs' y g. child-back w at d c Image e c.wide x s vs vs' y g;
}

abbrev Alike : ℕ → List Kid → List Child → Type 0
Alike w [] [] = Unit {0}
Alike w [] (j ∷ js) = ⊥
Alike w (k ∷ ks) [] = ⊥
Alike w (k ∷ ks) (j ∷ js) = AlikeOne w k j × Alike w ks js

alike-length : (w : ℕ) (ks : List Kid) (js : List Child) → Alike w ks js → length js ≡ length ks
alike-length w [] [] m = refl
alike-length w (k ∷ ks) (j ∷ js) m = ap suc (alike-length w ks js m.1)
alike-length w [] (j ∷ js) m = elim m [ ]
alike-length w (k ∷ ks) [] m = elim m [ ]

module _ (w at : ℕ) (d : List ℕ) where
  all-forth : (ks : List Kid) (js : List Child) → Alike w ks js → (cs : List Cell) (s : List ℕ) (vs : List Value) (rs : List Range)
      → AllLay w at d ks cs s (ranges vs) rs → Good at d vs
      → Gathered (Slots w js cs s vs) at d rs
  unfolding AllLay Slots
  all-forth [] [] m [] s vs rs y g = record { values = vs; slotted = (y.0, refl); are = y.1; good = g }
  all-forth (k ∷ ks) (j ∷ js) m (x ∷ cs) s vs rs y g =
      let r = m.0.forth at d x y.slot vs y.ranges y.one g in
      let t = all-forth ks js m.1 cs y.left r.values rs (subst (λ (l : List Range). AllLay w at d ks cs y.left l rs) (sym r.are)
      y.others) r.good in
      record {
        values = t.values;
        slotted = record { slot = y.slot; left = y.left; values = r.values; whole = y.whole; one = r.slotted; others = t.slotted };
        are = t.are;
        good = t.good;
      }
  all-forth [] [] m (x ∷ cs) s vs rs y g = elim y [ ]
  all-forth [] (j ∷ js) m cs s vs rs y g = elim m [ ]
  all-forth (k ∷ ks) [] m cs s vs rs y g = elim m [ ]
  all-forth (k ∷ ks) (j ∷ js) m [] s vs rs y g = elim y [ ]

  all_back : (ks : List Kid) (js : List Child) → Alike w ks js → (cs : List Cell) (s : List ℕ) (vs vs' : List Value) → Slots w js cs s vs vs' → Good at d vs'
      → AllLay w at d ks cs s (ranges vs) (ranges vs') × Good at d vs
  unfolding AllLay Slots
  all_back [] [] m [] s vs vs' y g = ((y.0, ap ranges y.1), subst (Good at d) (sym y.1) g)
  all_back (k ∷ ks) (j ∷ js) m (x ∷ cs) s vs vs' y g =
      let t = all_back ks js m.1 cs y.left y.values vs' y.others g in
      let r = m.0.back at d x y.slot vs y.values y.one t.1 in
      (record { slot = y.slot; left = y.left; ranges = ranges y.values; whole = y.whole; one = r.0; others = t.0 }, r.1)
  all_back [] [] m (x ∷ cs) s vs vs' y g = elim y [ ]
  all_back [] (j ∷ js) m cs s vs vs' y g = elim m [ ]
  all_back (k ∷ ks) [] m cs s vs vs' y g = elim m [ ]
  all_back (k ∷ ks) (j ∷ js) m [] s vs vs' y g = elim y [ ]

-- ---- bodies

module _ (h w : ℕ) (ks : List Kid) (js : List Child) (m : Alike w ks js) (e : h % 8 ≡ 0) (cs : List Cell) (b : List ℕ) where
  abbrev at : ℕ
  at = front h w (length ks)

  body-forth : BodyLays h w ks cs b → BodyInOrder h w js cs b
  unfolding total
  body-forth y =
      let d = y.variable in
      let r = all-forth w at d ks js m cs y.slots [] y.ranges y.children (record { standing = tt; there = tt }) in
      let o = stands-order at (at + length d) (ranges r.values) r.good.standing (rw (r.are, y.ends)) in
      let f = order_from range_of r.values o.same refl in
      let p = row-values at f.things (subst (λ (l : List Range). Row at l (at + length d)) (sym f.are) o.row) in
      let z : at - at ≡ 0 = omega arith in
      let j : d ≡ joined f.things = rw z at (data-joined at at d f.things (omega arith) p.0 (order-all (There at d) f.order r.good.there)
      p.1) in
      record {
        slots = y.slots;
        values = r.values;
        order = f.things;
        children = r.slotted;
        same = f.order;
        placed = rw (alike-length w ks js m) p.0;
        whole = rw (alike-length w ks js m, ← j) y.whole;
      }

  body_back : BodyInOrder h w js cs b → BodyLays h w ks cs b
  body_back y =
      let d = joined y.order in
      let p : OneAfterAnother at y.order = rw (alike-length w ks js m) at y.placed in
      let t = all-order (There at d) y.same (joined-there at [] y.order (subst (λ (x : ℕ). OneAfterAnother x y.order) (omega arith) p)) in
      let o : SomeOrder at (ranges y.values) (at + length d) = record
      { order = ranges y.order; same = order-map range_of y.same; row = values-row at y.order p } in
      let s = order-stands at (at + length d) (ranges y.values) (omega arith) (ranges-eights y.values) o in
      let r = all_back w at d ks js m cs y.slots [] y.values y.children (record { standing = s.0; there = t }) in
      record {
        slots = y.slots;
        variable = d;
        ranges = ranges y.values;
        whole = rw (alike-length w ks js m) at y.whole;
        children = r.0;
        ends = omega (arith, s.1);
      }

-- ---- types

alike-repeat : (w n : ℕ) (k : Kid) (j : Child) → AlikeOne w k j → Alike w (replicate n k) (replicate n j)
alike-repeat w zero k j m = tt
alike-repeat w (suc n) k j m = (m, alike-repeat w n k j m)

list-alike : (c : Codec) (Image : Cell → List ℕ → Type 0) → ((x : Cell) (u : List ℕ) → c.Lays x u ↔ Image x u) → (x : Cell) (b : List ℕ)
    → (list c).Lays x b ↔ ListInOrder (child_of c.wide Image) x b
unfolding array
list-alike c Image e x b =
    let w = slot_of c.wide in
    let n = length (parts x) in
    let m = alike-repeat w n (kid w c) (child_of c.wide Image) (child-alike w c Image e) in (
      λ y. record { rest = y.rest; plain = y.plain; whole = y.whole; body = body-forth 8 w _ _ m refl (parts x) y.rest y.body },
      λ y. record { rest = y.rest; plain = y.plain; whole = y.whole; body = body_back 8 w _ _ m refl (parts x) y.rest y.body },
    )

mutual
  unfolding codec number string pair struct InOrder

  -- what the layout accepts is the contents with the values of every container in some order, one after another, with no gap
  pub any_order : (t : Ty) (c : Cell) (b : List ℕ) → Lays t c b ↔ InOrder t c b
  any_order (fix f) c b = (λ y. y, λ y. y)
  any_order (text k) c b = (λ y. y, λ y. y)
  any_order (li t) c b = list-alike (codec t) (InOrder t) (λ x u. any_order t x u) c b
  any_order (ma k v) c b =
      let p = list-alike (codec k) (InOrder k) (λ x u. any_order k x u) (part_of 0 c) in
      let q = list-alike (codec v) (InOrder v) (λ x u. any_order v x u) (part_of 1 c) in (
        λ y. record {
          keys_array = y.keys_array;
          values_array = y.values_array;
          plain = y.plain;
          whole = y.whole;
          keys = (p y.keys_array).0 y.keys;
          values = (q y.values_array).0 y.values;
          counts = y.counts;
        },
        λ y. record {
          keys_array = y.keys_array;
          values_array = y.values_array;
          plain = y.plain;
          whole = y.whole;
          keys = (p y.keys_array).1 y.keys;
          values = (q y.values_array).1 y.values;
          counts = y.counts;
        },
      )
  any_order (ro ts) c b = (
    λ y. record { plain = y.plain; body = body-forth 0 8 _ _ (fields-alike ts) refl (parts c) b y.body },
    λ y. record { plain = y.plain; body = body_back 0 8 _ _ (fields-alike ts) refl (parts c) b y.body },
  )

  fields-alike : (ts : Tys) → Alike 8 (kids ts) (children ts)
  fields-alike end = tt
  fields-alike (t then ts) = (child-alike 8 (codec t) (InOrder t) (λ x u. any_order t x u), fields-alike ts)

-- ---- every order

-- the same children, with their values elsewhere
record Moved (Slotted : List ℕ → List Value → Type 0) (vs : List Value) : Type 0 where
  slots : List ℕ
  values : List Value
  slotted : Slotted slots values
  are : owns values ≡ owns vs

module _ (w : ℕ) where
  move-present : (wide : Option ℕ) (Image : Cell → List ℕ → Type 0) (c : Cell) (s : List ℕ) (vs vs' ws' : List Value) → PresentSlot w wide Image c s vs vs'
      → owns ws' ≡ owns vs'
      → Moved (λ s ws. PresentSlot w wide Image c s ws ws') vs
  move-present (some v) Image c s vs vs' ws' y e =
      record { slots = s; values = ws'; slotted = record { own = y.own; image = y.image; slot = y.slot; same = refl }; are = e ∙ ap owns (sym y.same) }
  move-present none Image c s vs vs' [] y e = absurd (omega (arith, ap length (e ∙ ap owns (sym y.more))))
  move-present none Image c s vs vs' (v ∷ ws) y e =
      let q : v.own ∷ owns ws ≡ y.value.own ∷ owns vs = e ∙ ap owns (sym y.more) in
      let p : y.value.own ≡ v.own = cc in
      record {
        slots = le 8 (v.start * 2 ^ 32 + length v.own);
        values = ws;
        slotted = record { value = v; image = subst (λ (u : List ℕ). Image c u) p y.image; slot = refl; more = refl };
        are = cc;
      }

  move-child : (k : Child) (c : Cell) (s : List ℕ) (vs vs' ws' : List Value) → Slot w k c s vs vs' → owns ws' ≡ owns vs'
      → Moved (λ s ws. Slot w k c s ws ws') vs
  unfolding on_null
  move-child k (null u) s vs vs' ws' y e = record {
    slots = s;
    values = ws';
    slotted = record { fits = y.fits; is = y.is; same = refl };
    are = e
        ∙ ap owns (sym y.same);
  }
  move-child k (leaf u) s vs vs' ws' y e = move-present k.wide k.Image (leaf u) s vs vs' ws' y e
  move-child k (nodes u) s vs vs' ws' y e = move-present k.wide k.Image (nodes u) s vs vs' ws' y e

  move_all : (ks : List Child) (cs : List Cell) (s : List ℕ) (vs vs' ws' : List Value) → Slots w ks cs s vs vs' → owns ws' ≡ owns vs'
      → Moved (λ s ws. Slots w ks cs s ws ws') vs
  unfolding Slots
  move_all [] [] s vs vs' ws' y e = record { slots = []; values = ws'; slotted = (refl, refl); are = e ∙ ap owns (sym y.1) }
  move_all (k ∷ ks) (c ∷ cs) s vs vs' ws' y e =
      let r = move_all ks cs y.left y.values vs' ws' y.others e in
      let o = move-child k c y.slot vs y.values r.values y.one r.are in
      record {
        slots = o.slots ++ r.slots;
        values = o.values;
        slotted = record { slot = o.slots; left = r.slots; values = r.values; whole = refl; one = o.slotted; others = r.slotted };
        are = o.are;
      }
  move_all [] (c ∷ cs) s vs vs' ws' y e = elim y [ ]
  move_all (k ∷ ks) [] s vs vs' ws' y e = elim y [ ]

-- a container's bytes in which the values have these bytes, child by child, and stand in this order
pub record Ordered (h w : ℕ) (ks : List Child) (cs : List Cell) {us ws : List (List ℕ)} (o : Order us ws) : Type 0 where
  pub bytes : List ℕ
  pub body : BodyInOrder h w ks cs bytes
  pub values : owns body.values ≡ us
  pub so : which body.same ≡ which o

-- Whatever bytes the children's values have, every order of them has its bytes: the slots s and the starts in vs may be any.
pub every-order : (h w : ℕ) (ks : List Child) (cs : List Cell) (s : List ℕ) (vs : List Value) → Slots w ks cs s [] vs → (us : List (List ℕ))
    (o : Order (owns vs) us) → Ordered h w ks cs o
every-order h w ks cs s vs y us o =
    let at = front h w (length ks) in
    let ws = placing at us in
    let t = order-to (λ (v : Value). v.own) ws o (placing-own at us) in
    let r = move_all w ks cs s [] vs t.things y t.are in
    let n : r.values ≡ [] = nothing_left r.values r.are in
    record {
      bytes = le (bitmap (length ks)) (flags cs) ++ (padded r.slots ++ joined ws);
      body = record {
        slots = r.slots;
        values = t.things;
        order = ws;
        children = subst (λ (l : List Value). Slots w ks cs r.slots l t.things) n r.slotted;
        same = t.order;
        placed = placing-row at us;
        whole = refl;
      };
      values = t.are;
      so = t.same;
    }
  where
    nothing_left : (vs : List Value) → owns vs ≡ [] → vs ≡ []
    nothing_left [] e = refl
    nothing_left (v ∷ vs) e = absurd (omega (arith, ap length e))
