-- One child of a container changes, in its slot or in the bytes of its range: the others stand as they did. Assumes nothing.
use mathlib.Core.Path.{◌≡◌, sym, ap, ◌∙◌, subst}
use mathlib.Core.Logic.{◌⊎◌, inl, inr}
use mathlib.Core.List.{List, [], ◌∷◌, ◌++◌}
use Prim.Native.Nat.{ℕ, zero, suc, ◌+◌, ◌*◌, ◌-◌, ◌≤◌, ◌<◌}
use native.Mathlib.Omega.{arith}
use lib.ListN.{length, set, take, drop, take-append-drop}
use lib.Seq.{sets, take-append_seam, take_at, drop-append-add}
use Rattle.words.specs.Bytes.{part}
use Rattle.words.proofs.Runs.{sets_behind, sets_over, part_apart}
use Rattle.layout.specs.Tiles.{Range, Apart, Stands}
use Rattle.layout.specs.Cells.{Cell}
use Rattle.layout.specs.Layout.{Kid, kid_lays, AllLay}
use Rattle.layout.proofs.Tiles.{Standing, Within, stands-within, Among, first, later}
use Rattle.layout.proofs.Kids.{Kept, Adds, same, more}
use Rattle.layout.proofs.Children.{AllLawful, kid-size, kid-adds, kid-keep}
use Rattle.layout.proofs.Steps.{kid_at}
use Rattle.layout.proofs.Bitmaps.{cell_at}

-- whatever stands beside the ranges rs is kept
abbrev pub Safe : ℕ → List ℕ → List ℕ → List Range → Type 0
Safe at d e rs = (q : Range) (qs : List Range) → ((z : Range) → Among z rs → Among z qs) → Standing at (at + length d) qs → Stands at (at + length d) qs q
    → Kept at d e q

pub adds-among : {at stop : ℕ} {rs rs' : List Range} → Adds at stop rs rs' → (z : Range) → Among z rs → Among z rs'
adds-among same z m = m
adds-among (more s e) z m = later m

pub adds-standing : {at stop : ℕ} {rs rs' : List Range} → Adds at stop rs rs' → Standing at stop rs → Standing at stop rs'
adds-standing same g = g
adds-standing (more s e) g = (s, g)

-- the range that was added is one of them
pub added : (q : Range) (rs rs' : List Range) → q ∷ rs ≡ rs' → Among q rs'
added q rs rs' e = rw (← e) first

pub cons-not : (q : Range) (rs : List Range) → q ∷ rs ≡ rs → ⊥
cons-not q rs e = omega (arith, ap length e)

adds-stands : {at stop : ℕ} {rs rs' : List Range} → Adds at stop rs rs' → (q : Range) → q ∷ rs ≡ rs' → Stands at stop rs q
adds-stands {rs = rs} same q e = absurd (cons-not q rs e)
adds-stands {at = at} {stop = stop} {rs = rs} (more {q = z} s n) q e = let p : z ≡ q = cc in subst (Stands at stop rs) p s

pub below : (i n : ℕ) → suc i < suc n → i < n
below i n h = omega arith

module _ (w at : ℕ) (d : List ℕ) where
  pub all_keep : (e : List ℕ) (ks : List Kid) (cs : List Cell) (s : List ℕ) (rs rs' : List Range) → AllLawful w ks → length e ≡ length d → Safe at d e rs
      → Standing at (at + length d) rs → AllLay w at d ks cs s rs rs' → AllLay w at e ks cs s rs rs'
  unfolding AllLay
  all_keep e [] [] s rs rs' l n g t y = y
  all_keep e (k ∷ ks) (c ∷ cs) s rs rs' l n g t y =
      let a = kid-adds w k l.0 at d rs c y.slot y.ranges y.one in
      record {
        slot = y.slot;
        left = y.left;
        ranges = y.ranges;
        whole = y.whole;
        one = kid-keep w k l.0 at d e rs c y.slot y.ranges n (λ q z. g q rs (λ _ m. m) t (adds-stands a q z)) y.one;
        others = all_keep e ks cs y.left y.ranges rs' l.1 n (λ q qs i u v. g q qs (λ z m. i z (adds-among a z m)) u v) (adds-standing a t) y.others;
      }
  all_keep e [] (c ∷ cs) s rs rs' l n g t y = elim y [ ]
  all_keep e (k ∷ ks) [] s rs rs' l n g t y = elim y [ ]

  -- child i as it stands, and what setting it asks for
  pub record Spot (ks : List Kid) (cs : List Cell) (s : List ℕ) (rs rs' : List Range) (i : ℕ) : Type 0 where
    pub before : List Range
    pub after : List Range
    pub slot : List ℕ
    pub lays : kid_lays w (kid_at ks i) at d before (cell_at cs i) slot after
    pub standing : Standing at (at + length d) before
    pub among : (z : Range) → Among z rs → Among z before
    pub found : part s (i * w) w ≡ slot
    pub put : (e : List ℕ) (x : Cell) (v : List ℕ) → length e ≡ length d → ((q : Range) → Among q before → Kept at d e q) → Safe at d e after
        → length v ≡ w → kid_lays w (kid_at ks i) at e before x v after → AllLay w at e ks (set cs i x) (sets s (i * w) v) rs rs'

  unfoldable pub spot : (ks : List Kid) (cs : List Cell) (s : List ℕ) (rs rs' : List Range) (i : ℕ) → AllLawful w ks → AllLay w at d ks cs s rs rs'
      → Standing at (at + length d) rs → i < length cs
      → Spot ks cs s rs rs' i
  unfolding AllLay
  spot [] [] s rs rs' i l y t h = absurd (omega arith)
  spot (k ∷ ks) (c ∷ cs) s rs rs' zero l y t h =
      let a = kid-adds w k l.0 at d rs c y.slot y.ranges y.one in
      let n = (kid-size w k l.0 at d rs c y.slot y.ranges y.one).slot in
      let o : 0 * w ≡ 0 = omega arith in
      record {
        before = rs;
        after = y.ranges;
        slot = y.slot;
        lays = y.one;
        standing = t;
        among = λ z m. m;
        found = rw (o, ← y.whole) (take_at y.slot y.left w n);
        put = λ e x v m f g u z. record {
          slot = v;
          left = y.left;
          ranges = y.ranges;
          whole = rw (o, ← y.whole) (sym (sets_over y.slot v y.left (omega arith)));
          one = z;
          others = all_keep e ks cs y.left y.ranges rs' l.1 m g (adds-standing a t) y.others;
        };
      }
  spot (k ∷ ks) (c ∷ cs) s rs rs' (suc i) l y t h =
      let a = kid-adds w k l.0 at d rs c y.slot y.ranges y.one in
      let n = (kid-size w k l.0 at d rs c y.slot y.ranges y.one).slot in
      let r = spot ks cs y.left y.ranges rs' i l.1 y.others (adds-standing a t) (below i (length cs) h) in
      let o : suc i * w ≡ length y.slot + i * w = rw n (omega arith) in
      record {
        before = r.before;
        after = r.after;
        slot = r.slot;
        lays = r.lays;
        standing = r.standing;
        among = λ z m. r.among z (adds-among a z m);
        found = rw (o, ← y.whole, drop-append-add y.slot y.left (i * w)) r.found;
        put = λ e x v m f g u z. record {
          slot = y.slot;
          left = sets y.left (i * w) v;
          ranges = y.ranges;
          whole = rw (o, ← y.whole) (sym (sets_behind y.slot y.left (i * w) v));
          one = kid-keep w k l.0 at d e rs c y.slot y.ranges m (λ q j. f q (r.among q (added q rs y.ranges j))) y.one;
          others = r.put e x v m f g u z;
        };
      }
  spot [] (c ∷ cs) s rs rs' i l y t h = elim y [ ]
  spot (k ∷ ks) [] s rs rs' i l y t h = elim y [ ]

  -- the ranges up to a child are among those before a later one
  pub spot-order : (ks : List Kid) (cs : List Cell) (s : List ℕ) (rs rs' : List Range) (i j : ℕ) (l : AllLawful w ks) (y : AllLay w at d ks cs s rs rs')
      (t : Standing at (at + length d) rs)
      (h : i < length cs) (k : j < length cs) → i < j → (z : Range) → Among z (spot ks cs s rs rs' i l y t h).after
      → Among z (spot ks cs s rs rs' j l y t k).before
  unfolding AllLay spot
  spot-order [] [] s rs rs' i j l y t h k o z m = absurd (omega arith)
  spot-order (q ∷ ks) (c ∷ cs) s rs rs' zero zero l y t h k o z m = absurd (omega arith)
  spot-order (q ∷ ks) (c ∷ cs) s rs rs' (suc i) zero l y t h k o z m = absurd (omega arith)
  spot-order (q ∷ ks) (c ∷ cs) s rs rs' zero (suc j) l y t h k o z m =
      let a = kid-adds w q l.0 at d rs c y.slot y.ranges y.one in
      (spot ks cs y.left y.ranges rs' j l.1 y.others (adds-standing a t) (below j (length cs) k)).among z m
  spot-order (q ∷ ks) (c ∷ cs) s rs rs' (suc i) (suc j) l y t h k o z m =
      let a = kid-adds w q l.0 at d rs c y.slot y.ranges y.one in
      spot-order ks cs y.left y.ranges rs' i j l.1 y.others (adds-standing a t) (below i (length cs) h) (below j (length cs) k) (omega arith) z m
  spot-order [] (c ∷ cs) s rs rs' i j l y t h k o z m = elim y [ ]
  spot-order (q ∷ ks) [] s rs rs' i j l y t h k o z m = elim y [ ]

-- ---- bytes put into one range: what stands apart from it is kept

apart-off : (q r : Range) (at j n k : ℕ) → k ≡ q.size → at ≤ q.start → at ≤ r.start → r.start - at ≤ j → j + n ≤ r.start - at + r.size → Apart q r
    → (q.start - at + k ≤ j) ⊎ (j + n ≤ q.start - at)
apart-off q r at j n k e h g a b (inl x) = inl (omega arith)
apart-off q r at j n k e h g a b (inr x) = inr (omega arith)

pub kept-apart : (at : ℕ) (d : List ℕ) (r q : Range) (j : ℕ) (v : List ℕ) → Within at (at + length d) r → r.start - at ≤ j
    → j + length v ≤ r.start - at + r.size
    → Within at (at + length d) q → Apart q r → Kept at d (sets d j v) q
kept-apart at d r q j v h lo hi g x u z n e =
    let a = q.start - at in
    let hl = h.low in
    let hh = h.high in
    let gl = g.low in
    let gh = g.high in
    let m : a + length u ≤ length d = omega arith in
    let t : part (sets d j v) a (length u) ≡ u = part_apart d j v (omega arith) a (length u) (apart-off q r at j (length v) (length u) n gl hl lo hi x) m
    ∙ ap (take (length u)) (sym e) ∙ take-append_seam u z in
    let y = drop a (sets d j v) in
    (drop (length u) y, ap (λ (l : List ℕ). l ++ drop (length u) y) (sym t) ∙ take-append-drop (length u) y)

pub among-within : {q : Range} {rs : List Range} → Among q rs → (at stop : ℕ) → Standing at stop rs → Within at stop q
among-within first at stop g = stands-within g.0
among-within (later m) at stop g = among-within m at stop g.1
