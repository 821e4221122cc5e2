-- An array written element by element. Assumes nothing.
use mathlib.Core.Path.{◌≡◌, refl, sym, ap, ◌∙◌}
use mathlib.Core.Option.{Option, some}
use mathlib.Core.List.{List, ◌∷◌, ◌++◌}
use Prim.Native.Nat.{ℕ, ◌+◌, ◌*◌, ◌-◌, ◌^◌, ◌≤◌, ◌<◌}
use native.Mathlib.Omega.{arith}
use borrow.Author.Tests.{lt-ltb}
use lib.ListN.{length, drop, replicate, length-replicate}
use lib.Seq.{sets, length-sets}
use mir.Syntax.{w64}
use mir.Val.{Fits}
use Rattle.words.specs.Bytes.{le, pad, bitmap}
use Rattle.words.specs.Pairs.{low_in, high_in, Paired}
use Rattle.words.proofs.Numbers.{length-le, slice-bytes}
use Rattle.words.proofs.Runs.{sets_then}
use Rattle.schema.specs.Marks.{element_width}
use Rattle.schema.specs.Types.{Ty, li, mark}
use Rattle.schema.proofs.Places.{typed-place}
use Rattle.layout.specs.Cells.{Cell, node}
use Rattle.layout.specs.Layout.{Kid, kid, slot_of, tails, AllFit, array, codec, content, body_put}
use Rattle.layout.specs.Listing.{Script, item, run_get, script}
use Rattle.layout.proofs.Cells.{parts-node}
use Rattle.layout.proofs.Children.{AllLawful, all-length}
use Rattle.layout.proofs.Containers.{repeat, element-lawful}
use Rattle.layout.proofs.Widths.{element-wide, slot_small}
use Rattle.table.specs.Words.{place_in, width_in}
use Rattle.table.specs.Tables.{schema_of, pos_of, EntryAt, type_of}
use Rattle.measuring.proofs.Totals.{replicate_more, replicate-none, array_fit, array_size}
use Rattle.putting.specs.Put.{PutArray, ArrayWrote, FrontCan, front_of}
use Rattle.putting.proofs.Slots.{Octets}
use Rattle.putting.proofs.Paint.{paint, body_is}
use Rattle.putting.proofs.Paints.{size_is, cells_of, rest_of, Paints}
use Rattle.putting.proofs.Paints.{paints-answer, paints-bit, paints-slot, paints-ready, paints-next, paints-end}
use Rattle.putting.proofs.Placed.{Next, SeenHere}

abbrev kid_in : ℕ → Ty → Kid
kid_in w t = kid w (codec t)

abbrev item_in : ℕ → Ty → Script
item_in w t = item w (mark t) (script t)

abbrev array_run : ℕ → Ty → ℕ → List ℕ → ℕ → Option (List Cell × List ℕ)
array_run w t n l from = run_get (replicate n (item_in w t)) (drop from l)

-- where the elements' bytes start
abbrev start_of : ℕ → ℕ → ℕ → ℕ
start_of w n pos = pos + 8 + bitmap n + pad (n * w)

-- what an array asks, with the width that the code found
record ArrayAt (t : Ty) (w n : ℕ) (l : List ℕ) (from pos len : ℕ) : Type 0 where
  pub cells : List Cell
  pub rest : List ℕ
  pub reads : array_run w t n l from ≡ some (cells, rest)
  pub fit : AllFit w (replicate n (kid_in w t)) cells
  pub room : start_of w n pos + length (tails (replicate n (kid_in w t)) cells) ≤ len

-- what is left to be painted before element i of n
abbrev ArrayLeft : Ty → ℕ → ℕ → List ℕ → ℕ → ℕ → List ℕ → List ℕ → ℕ → ℕ → ℕ → ℕ → Type 0
ArrayLeft t w n l from pos x₀ x i from₁ slot cur = Paints (replicate (n - i) (kid_in w t)) (replicate (n - i) (item_in w t)) l pos (pos + 8) w
    (paint pos (pos + 8) w (replicate n (kid_in w t)) (cells_of (array_run w t n l from)) 0 (pos + 8 + bitmap n) (start_of w n pos) x₀)
    (rest_of (array_run w t n l from)) (start_of w n pos + length (tails (replicate n (kid_in w t)) (cells_of (array_run w t n l from)))) x i n from₁ slot cur

-- before element i, whose slot and other bytes stand at slot and cur: what was known before the loop, what is left to be painted, and that
-- element; x₀ is the output where the loop begins. What only this file takes apart is closed, so that no search at a place of the code looks
-- into it
pub record ArrayPaints (t : List ℕ) (c d e w k n : ℕ) (l : List ℕ) (from pos : ℕ) (x₀ x : List ℕ) (i from₁ slot cur : ℕ) : Type 0 where
  pub next : Next t c d w l from₁ pos (pos + 8) i n slot cur x
  put : PutArray t c d l from n pos (length x₀)
  octets : Octets l
  pub entry : EntryAt t c d e
  width : w ≡ element_width (place_in e)
  pub kind : k ≡ place_in e
  paints : ArrayLeft (type_of t c d) w n l from pos x₀ x i from₁ slot cur
  pub long : length x ≡ length x₀

-- there is a next one
more : (K : Kid) (S : Script) {l : List ℕ} {base bm w : ℕ} {goal stop : List ℕ} {last : ℕ} {x : List ℕ} {i n pos slot cur : ℕ}
    → Paints (replicate (n - i) K) (replicate (n - i) S) l base bm w goal stop last x i n pos slot cur → i < n
    → Paints (K ∷ replicate (n - (i + 1)) K) (S ∷ replicate (n - (i + 1)) S) l base bm w goal stop last x i n pos slot cur
more K S {i = i} {n = n} g h =
    let z : n - i ≡ 0 → ⊥ = λ e. omega arith in
    let e : n - i - 1 ≡ n - (i + 1) = omega arith in
    let p : replicate (n - i) K ≡ K ∷ replicate (n - (i + 1)) K = rw e at (replicate_more (n - i) K z) in
    let q : replicate (n - i) S ≡ S ∷ replicate (n - (i + 1)) S = rw e at (replicate_more (n - i) S z) in
    rw (p, q) at g

-- e is the entry of the elements' type, and w their width
module _ {t : List ℕ} {c d : ℕ} {l : List ℕ} {from n pos len : ℕ} (p : PutArray t c d l from n pos len) (o : Octets l) {e w : ℕ}
    (en : EntryAt t c d e) (ew : w ≡ element_width (place_in e)) where
  abbrev T : Ty
  T = type_of t c d

  width_is : w ≡ slot_of (codec T).wide
  width_is = ew ∙ element-wide T (place_in e) (en.place ∙ typed-place (schema_of t) (pos_of t c) d p.stands.typed)

  array_at : ArrayAt T w n l from pos len
  array_at =
      let r = p.ready in
      let f = array_fit T l from n r.thing r.rest (slice-bytes o) (omega (arith, p.few)) r.reads in
      let z : ArrayAt T (slot_of (codec T).wide) n l from pos len = record {
        cells = r.thing;
        rest = r.rest;
        reads = r.reads;
        fit = f;
        room = omega (arith, r.room, array_size T n r.thing f);
      } in
      rw width_is z

  -- the element before which that much is left to be painted
  array-next : {goal stop : List ℕ} {last : ℕ} {x : List ℕ} {i from₁ slot cur : ℕ}
      → Paints (replicate (n - i) (kid_in w T)) (replicate (n - i) (item_in w T)) l pos (pos + 8) w goal stop last x i n from₁ slot cur → length x ≡ len
      → Next t c d w l from₁ pos (pos + 8) i n slot cur x
  array-next q el = record {
    answer = paints-answer q p.short (omega (arith, p.small));
    child = λ h. record {
      stands = p.stands;
      wide = omega (arith, width_is);
      most = rw width_is (slot_small T);
      ready = paints-ready (kid_in w T) (item_in w T) (more (kid_in w T) (item_in w T) q h);
      octets = slice-bytes o;
      low = q.low;
      map = paints-bit q h;
      slots = paints-slot q h;
      small = omega (arith, p.small);
      short = p.short;
    };
  }

  pub array-front : FrontCan n w pos len
  array-front = record { few = p.few; room = omega (arith, array_at.room); small = p.small }

  pub array-cells : n * w < 2 ^ 40
  array-cells = omega (arith, array-front.room, p.small)

  pub array-size-fits : Fits w64 (n * w)
  array-size-fits = omega (arith, array-cells)

  module _ {bits : ℕ} (eb : bits ≡ bitmap n) where
    pub array-start : {room : ℕ} → room ≡ pad (n * w) → Fits w64 (pos + 8 + bits + room)
    array-start e = omega (arith, array-front.room, p.small)

pub array-begins : {t : List ℕ} {c d : ℕ} {l : List ℕ} {from n pos len : ℕ} → PutArray t c d l from n pos len → Octets l
    → {e w k : ℕ} → EntryAt t c d e → w ≡ element_width (place_in e) → k ≡ place_in e
    → {bits room : ℕ} → bits ≡ bitmap n → room ≡ pad (n * w) → {x₀ : List ℕ} → length x₀ ≡ len
    → ArrayPaints t c d e w k n l from pos x₀ x₀ 0 from (pos + 8 + bits) (pos + 8 + bits + room)
unfolding cells_of rest_of
array-begins {t} {c} {d} {l} {from} {n} {pos} {len} p' o {e} {w} {k} en ew ek {bits} {room} eb es {x₀} el =
    let z : n - 0 ≡ n = omega arith in
    let T = type_of t c d in
    let p : PutArray t c d l from n pos (length x₀) = rw el p' in
    let a = array_at p o en ew in
    let q : ArrayLeft T w n l from pos x₀ x₀ 0 from (pos + 8 + bits) (pos + 8 + bits + room) =
    rw (z, eb, es) (record {
      cells = a.cells;
      reads = a.reads ∙ rw a.reads;
      inside = p.inside;
      same = rw a.reads;
      ends = rw a.reads;
      room = rw a.reads (omega (arith, a.room));
      most = omega arith;
      map = omega arith;
      slots = rw z (omega arith);
      low = omega arith;
    }) in
    record { put = p; octets = o; entry = en; width = ew; kind = ek; paints = q; long = refl; next = array-next p o en ew q refl }

module _ {t : List ℕ} {c d e w k n : ℕ} {l : List ℕ} {from pos : ℕ} {x₀ x : List ℕ} {i from₁ slot cur : ℕ}
    (g : ArrayPaints t c d e w k n l from pos x₀ x i from₁ slot cur) where
  abbrev item_ty : Ty
  item_ty = type_of t c d

  -- a number's width is its element's
  pub array-width : k < 7 → w ≡ width_in e
  unfolding element_width
  array-width lo = g.width ∙ rw (← g.kind, lt-ltb k 7 lo) (rw g.kind (sym g.entry.lined.width))

  pub array-goes : i < n → {x₁ : List ℕ} {v next stop₁ : ℕ} → SeenHere g.next x₁ v next stop₁ → {y : List ℕ} → y ≡ sets x₁ slot (le w v)
      → ArrayPaints t c d e w k n l from pos x₀ y (i + 1) next (slot + w) stop₁
  array-goes h {x₁} {v} s ey =
      let el = ap length ey ∙ length-sets x₁ slot (le w v) ∙ s.long in
      let q = paints-next item_ty (more (kid_in w item_ty) (item_in w item_ty) g.paints h) h (s.wrote ey) el in
      record {
        put = g.put;
        octets = g.octets;
        entry = g.entry;
        width = g.width;
        kind = g.kind;
        paints = q;
        long = el ∙ g.long;
        next = array-next g.put g.octets g.entry g.width q (el ∙ g.long);
      }

  -- ---- the array is written: its count stands before the body

  abbrev ks : List Kid
  ks = replicate n (kid_in w item_ty)

  lawful : AllLawful w ks
  lawful =
      let v = slot_of (codec item_ty).wide in
      rw (width_is g.put g.octets g.entry g.width) (repeat v n (kid v (codec item_ty)) (element-lawful item_ty))

  array-wrote : ArrayAt item_ty w n l from pos (length x₀) → n ≤ i → {xx : List ℕ} → x₀ ≡ front_of xx n w pos
      → ArrayWrote item_ty l from n pos xx x from₁ cur
  unfolding cells_of rest_of codec array
  array-wrote a h {xx} e₀ =
      let wv = width_is g.put g.octets g.entry g.width in
      let cs = a.cells in
      let bits = bitmap n in
      let start = start_of w n pos in
      let ln : length ks ≡ n = length-replicate n (kid_in w item_ty) in
      let many : length cs ≡ n = all-length w ks cs a.fit ∙ ln in
      let z : n - i ≡ 0 = omega arith in
      let y = paints-end (rw (replicate-none (n - i) (kid_in w item_ty) z, replicate-none (n - i) (item_in w item_ty) z) at g.paints) in
      let X = sets xx pos (le 8 n) in
      let long : length x₀ ≡ length X = ap length e₀ ∙ simp length-sets in
      let b : paint pos (pos + 8) w ks cs 0 (pos + 8 + bits) start x₀ ≡ sets X (pos + 8) (body_put 8 w ks cs) =
      body_is pos (pos + 8) w 8 ks cs X x₀ bits (pos + 8 + bits + n * w) start (pad (n * w) - n * w) lawful a.fit
      (rw ln refl) refl (rw ln refl) (rw ln refl) (rw ln refl) (omega (arith, a.room, long)) e₀ in
      let q : content (li item_ty) (node cs) ≡ le 8 n ++ body_put 8 w ks cs = rw (parts-node, many, ← wv) in
      let by : x ≡ sets xx pos (content (li item_ty) (node cs)) =
      y.bytes ∙ ap (λ o. paint pos (pos + 8) w ks (cells_of o) 0 (pos + 8 + bits) start x₀) a.reads ∙ b
      ∙ sets_then xx pos (pos + 8) (le 8 n) (body_put 8 w ks cs) (rw length-le refl) ∙ ap (sets xx pos) (sym q) in
      let rd : array_run w item_ty n l from ≡ some (cs, drop from₁ l) =
      a.reads ∙ ap (λ (r : List ℕ). some (cs, r)) (sym (y.left ∙ ap rest_of a.reads)) in
      let f : AllFit (slot_of (codec item_ty).wide) (replicate n (kid (slot_of (codec item_ty).wide) (codec item_ty))) cs = rw wv at a.fit in
      let sz : length (content (li item_ty) (node cs)) ≡ 8 + bitmap n + pad (n * w) + length (tails ks cs) =
      rw wv (size_is (li item_ty) (node cs) ∙ array_size item_ty n cs f) in
      record {
        thing = cs;
        reads = rw wv at rd;
        inside = g.paints.inside;
        bytes = by;
        ends = omega (arith, y.ends ∙ ap (λ o. start + length (tails ks (cells_of o))) a.reads, sz);
      }

  pub array-done : n ≤ i → {xx : List ℕ} → x₀ ≡ front_of xx n w pos → {r : ℕ} → Paired from₁ cur r
      → ArrayWrote item_ty l from n pos xx x (low_in r) (high_in r)
  array-done h e₀ p = rw (p.low-is, p.high_is) (array-wrote (array_at g.put g.octets g.entry g.width) h e₀)
