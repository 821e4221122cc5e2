-- The loop that writes children: what is left to be written leads to the same bytes. Assumes nothing.
use mathlib.Core.Path.{◌≡◌, refl, ap, ◌∙◌}
use mathlib.Core.Option.{Option, none, some}
use mathlib.Core.List.{List, [], ◌∷◌}
use Prim.Native.Nat.{ℕ, suc, ◌+◌, ◌*◌, ◌-◌, ◌/◌, ◌^◌, ◌≤◌, ◌<◌}
use native.Mathlib.Omega.{arith}
use lib.ListN.{length, drop, length-append}
use lib.Seq.{sets}
use Rattle.schema.specs.Types.{Ty, mark}
use Rattle.layout.specs.Cells.{Cell}
use Rattle.layout.specs.Layout.{Kid, kid, kid_slot, kid_tail, tails, codec, content}
use Rattle.layout.specs.Listing.{Script, item, run_get, script}
use Rattle.measuring.specs.Measure.{size}
use Rattle.putting.specs.Put.{Ready}
use Rattle.putting.proofs.Given.{same_rest, run-after, run-first}
use Rattle.putting.proofs.Paint.{flagged, paint}

pub size_is : (t : Ty) (c : Cell) → length (content t c) ≡ size t c
unfolding size
size_is t c = refl

unfoldable pub cells_of : Option (List Cell × List ℕ) → List Cell
cells_of none = []
cells_of (some (cs, r)) = cs

unfoldable pub rest_of : Option (List Cell × List ℕ) → List ℕ
rest_of none = []
rest_of (some (cs, r)) = r

-- child i was written: its slot, its bytes behind the slots and its bit
pub record ChildWrote (t : Ty) (w : ℕ) (l : List ℕ) (from base bm i slot cur : ℕ) (x y : List ℕ) (next stop : ℕ) : Type 0 where
  pub thing : Cell
  pub reads : (item w (mark t) (script t)).get (drop from l) ≡ some (thing, drop next l)
  pub inside : next ≤ length l
  pub bytes : y ≡ flagged (sets (sets x cur (kid_tail (kid w (codec t)) thing)) slot (kid_slot (kid w (codec t)) (cur - base) thing)) bm i thing
  pub ends : stop ≡ cur + length (kid_tail (kid w (codec t)) thing)

-- before child i of n: painting what is left from here gives the goal; stop is what is left of the listing then, last where the bytes end
pub record Paints (ks : List Kid) (ss : List Script) (l : List ℕ) (base bm w : ℕ) (goal stop : List ℕ) (last : ℕ) (x : List ℕ) (i n pos slot cur : ℕ)
    : Type 0 where
  pub cells : List Cell
  pub reads : run_get ss (drop pos l) ≡ some (cells, stop)
  pub inside : pos ≤ length l
  pub same : paint base bm w ks cells i slot cur x ≡ goal
  pub ends : cur + length (tails ks cells) ≡ last
  pub room : last ≤ length x
  pub most : i ≤ n
  pub map : bm + (n + 7) / 8 ≤ slot
  pub slots : slot + (n - i) * w ≤ cur
  pub low : base ≤ cur

less : (w i n : ℕ) → i < n → (n - i) * w ≡ w + (n - (i + 1)) * w
less w i n h = let e : n - i ≡ suc (n - (i + 1)) = omega arith in rw e (omega arith)

module _ {ks : List Kid} {ss : List Script} {l : List ℕ} {base bm w : ℕ} {goal stop : List ℕ} {last : ℕ} {x : List ℕ} {i n pos slot cur : ℕ}
    (g : Paints ks ss l base bm w goal stop last x i n pos slot cur) where
  paints-cur : cur ≤ length x
  paints-cur = omega (arith, g.ends, g.room)

  pub paints-answer : length l ≤ 65536 → length x ≤ 16384 → (pos < 2 ^ 32) × (cur < 2 ^ 32)
  paints-answer hl hx = (omega (arith, g.inside), omega (arith, paints-cur))

  pub paints-bit : i < n → bm + i / 8 < slot
  paints-bit h = omega (arith, g.map)

  pub paints-slot : i < n → slot + w ≤ cur
  paints-slot h = omega (arith, g.slots, less w i n h)

module _ (k : Kid) {ks : List Kid} (s : Script) {ss : List Script} {l : List ℕ} {base bm w : ℕ} {goal stop : List ℕ} {last : ℕ} {x : List ℕ}
    {i n pos slot cur : ℕ} (g : Paints (k ∷ ks) (s ∷ ss) l base bm w goal stop last x i n pos slot cur) where
  pub paints-ready : Ready (s.get (drop pos l)) (λ c. length (kid_tail k c)) cur (length x)
  unfolding tails
  paints-ready =
      let f = run-first s ss (drop pos l) g.cells stop g.reads in
      let a = run-after s ss (drop pos l) g.cells stop f.cell f.left g.reads f.reads in
      let e : cur + length (tails (k ∷ ks) (f.cell ∷ a.others)) ≡ last = rw a.all at g.ends in
      record {
        thing = f.cell;
        rest = f.left;
        reads = f.reads;
        room = omega (arith, e, length-append (kid_tail k f.cell) (tails ks a.others), g.room);
      }

-- the next child was written
pub paints-next : (t : Ty) {ks : List Kid} {ss : List Script} {l : List ℕ} {base bm w : ℕ} {goal stop : List ℕ} {last : ℕ} {x : List ℕ} {i n pos slot cur : ℕ}
    → Paints (kid w (codec t) ∷ ks) (item w (mark t) (script t) ∷ ss) l base bm w goal stop last x i n pos slot cur → i < n
    → {x₁ : List ℕ} {next stop₁ : ℕ} → ChildWrote t w l pos base bm i slot cur x x₁ next stop₁ → length x₁ ≡ length x
    → Paints ks ss l base bm w goal stop last x₁ (i + 1) n next (slot + w) stop₁
unfolding tails paint
paints-next t {ks} {ss} {l} {base} {bm} {w} {goal} {stop} {last} {x} {i} {n} {pos} {slot} {cur} g h {x₁} {next} {stop₁} y el =
    let k = kid w (codec t) in
    let s = item w (mark t) (script t) in
    let c = y.thing in
    let a = run-after s ss (drop pos l) g.cells stop c (drop next l) g.reads y.reads in
    let e : cur + length (tails (k ∷ ks) (c ∷ a.others)) ≡ last = rw a.all at g.ends in
    let ex = y.bytes in
    let es = y.ends in
    record {
      cells = a.others;
      reads = a.rest;
      inside = y.inside;
      same = ap (λ (z : List ℕ). paint base bm w ks a.others (i + 1) (slot + w) stop₁ z) ex ∙ rw es (rw a.all at g.same);
      ends = omega (arith, e, length-append (kid_tail k c) (tails ks a.others));
      room = omega (arith, g.room);
      most = omega arith;
      map = omega (arith, g.map);
      slots = omega (arith, g.slots, less w i n h);
      low = omega (arith, g.low);
    }

pub record Painted (l goal stop : List ℕ) (last : ℕ) (x : List ℕ) (pos cur : ℕ) : Type 0 where
  pub bytes : x ≡ goal
  pub left : drop pos l ≡ stop
  pub ends : cur ≡ last

pub paints-end : {l : List ℕ} {base bm w : ℕ} {goal stop : List ℕ} {last : ℕ} {x : List ℕ} {i n pos slot cur : ℕ}
    → Paints [] [] l base bm w goal stop last x i n pos slot cur → Painted l goal stop last x pos cur
unfolding paint tails run_get
paints-end g = record { bytes = g.same; left = same_rest {a = []} refl g.reads; ends = omega (arith, g.ends) }
