-- Contents, and where their values start, determine the bytes: ranges that stand and take all the data leave no byte free.
-- Assumes nothing.
use mathlib.Core.Path.{◌≡◌, refl, sym, ap, ◌∙◌, subst}
use mathlib.Core.Logic.{◌⊎◌, inl, inr}
use mathlib.Core.List.{List, [], ◌∷◌, ◌++◌}
use Prim.Native.Nat.{ℕ, suc, ◌+◌, ◌-◌, ◌≤◌, ◌<◌}
use native.Mathlib.Omega.{arith}
use native.Mathlib.Bridge.{le_prop}
use lib.ListN.{length, drop, take-append-drop}
use lib.Seq.{drop-drop, drop-length}
use Rattle.words.specs.Bytes.{part}
use Rattle.layout.specs.Tiles.{Range, total}
use Rattle.layout.specs.Orders.{Insert, here, there, Order, put}
use Rattle.layout.specs.Cells.{Cell}
use Rattle.layout.specs.Layout.{Kid, AllLay}
use Rattle.layout.proofs.Tiles.{Standing, Among, first, later}
use Rattle.layout.proofs.Orders.{Row, stands-order}
use Rattle.layout.proofs.Kids.{Adds, same, more}
use Rattle.layout.proofs.Children.{AllLawful, kid-adds}
use Rattle.layout.proofs.Spot.{adds-standing, Spot, spot}

-- ---- data that agree on every range

-- d and d' have the same bytes in the range q
abbrev Agree : ℕ → List ℕ → List ℕ → Range → Type 0
Agree at d d' q = part d (q.start - at) q.size ≡ part d' (q.start - at) q.size

insert-among : (q r : Range) {qs qs' : List Range} → Insert r qs qs' → Among q qs' → (q ≡ r) ⊎ Among q qs
insert-among q r here first = inl refl
insert-among q r here (later m) = inr m
insert-among q r (there i) first = inr first
insert-among q r (there i) (later m) = go (insert-among q r i m)
  where
    go : {x : Range} {xs : List Range} → (q ≡ r) ⊎ Among q xs → (q ≡ r) ⊎ Among q (x ∷ xs)
    go (inl e) = inl e
    go (inr a) = inr (later a)

order-among : (q : Range) {rs qs : List Range} → Order rs qs → Among q qs → Among q rs
order-among q (put {x = r} {xs = rs} {ys = qs} o i) m = go (insert-among q r i m) (λ a. order-among q o a)
  where
    go : (q ≡ r) ⊎ Among q qs → (Among q qs → Among q rs) → Among q (r ∷ rs)
    go (inl e) f = subst (λ (x : Range). Among x (r ∷ rs)) (sym e) first
    go (inr a) f = later (f a)
order-among q Rattle.layout.specs.Orders.nothing m = elim m [ ]

row_same : (at x : ℕ) (d d' : List ℕ) (qs : List Range) → length d ≡ length d' → at ≤ x → Row x qs (at + length d)
    → ((q : Range) → Among q qs → Agree at d d' q) → drop (x - at) d ≡ drop (x - at) d'
unfolding Row
row_same at x d d' [] n l r a =
    let e : x - at ≡ length d = omega arith in
    rw e (drop-length d ∙ sym (rw n (drop-length d')))
row_same at x d d' (q ∷ qs) n l r a =
    let s = q.start - at in
    let e : x - at ≡ s = omega (arith, r.0) in
    let f : s + q.size ≡ x + q.size - at = omega (arith, r.0) in
    let h = row_same at (x + q.size) d d' qs n (omega arith) r.1 (λ z m. a z (later m)) in
    let t : drop q.size (drop s d) ≡ drop q.size (drop s d') = drop-drop q.size s d ∙ rw f h ∙ sym (drop-drop q.size s d') in
    rw e (sym (take-append-drop q.size (drop s d)) ∙ ap (λ (u : List ℕ). u ++ drop q.size (drop s d)) (a q first)
    ∙ ap (λ (u : List ℕ). part d' s q.size ++ u) t ∙ take-append-drop q.size (drop s d'))

pub data-same : (at : ℕ) (d d' : List ℕ) (rs : List Range) → length d ≡ length d' → Standing at (at + length d) rs → total rs ≡ length d
    → ((q : Range) → Among q rs → Agree at d d' q) → d ≡ d'
data-same at d d' rs n g e a =
    let t = stands-order at (at + length d) rs g (omega arith) in
    let z : at - at ≡ 0 = omega arith in
    rw z at (row_same at at d d' t.order n (omega arith) t.row (λ q m. a q (order-among q t.same m)))

-- ---- children that are the same, one by one

-- a child's slot is the same in both, and if its range is then what stands there is too
pub record Twin (at : ℕ) (d d' : List ℕ) (before after : List Range) (s : List ℕ) (before' after' : List Range) (s' : List ℕ) : Type 0 where
  pub slot : s ≡ s'
  pub adds : before ≡ before' → after ≡ after'
  pub agree : (q : Range) → q ∷ before ≡ after → Agree at d d' q

pub record Twins (at : ℕ) (d d' : List ℕ) (rs rs₁ : List Range) (s : List ℕ) (rs₁' : List Range) (s' : List ℕ) : Type 0 where
  pub slots : s ≡ s'
  pub ranges : rs₁ ≡ rs₁'
  pub standing : Standing at (at + length d) rs₁
  pub agree : (q : Range) → Among q rs₁ → Among q rs ⊎ Agree at d d' q

module _ (w at : ℕ) (d d' : List ℕ) where
  abbrev TwinAt : {ks : List Kid} {cs : List Cell} {s s' : List ℕ} {rs rs₁ rs' rs₁' : List Range} {i : ℕ} → Spot w at d ks cs s rs rs₁ i
      → Spot w at d' ks cs s' rs' rs₁' i → Type 0
  TwinAt p q = Twin at d d' p.before p.after p.slot q.before q.after q.slot

  back : {rs rs₁ : List Range} (q : Range) → Adds at (at + length d) rs rs₁ → ((z : Range) → z ∷ rs ≡ rs₁ → Agree at d d' z) → Among q rs₁
      → Among q rs ⊎ Agree at d d' q
  back q same f m = inl m
  back q (more s n) f first = inr (f q refl)
  back q (more s n) f (later m) = inl m

  or_else : (q : Range) {rs rs₁ : List Range} → (Among q rs₁ → Among q rs ⊎ Agree at d d' q) → Among q rs₁ ⊎ Agree at d d' q → Among q rs ⊎ Agree at d d' q
  or_else q f (inl m) = f m
  or_else q f (inr a) = inr a

  pub twins : (ks : List Kid) (cs : List Cell) (s s' : List ℕ) (rs rs' rs₁ rs₁' : List Range) (l : AllLawful w ks) (y : AllLay w at d ks cs s rs rs₁)
      (y' : AllLay w at d' ks cs s' rs' rs₁')
      (g : Standing at (at + length d) rs) (g' : Standing at (at + length d') rs') → rs ≡ rs'
      → ((i : ℕ) (k : i < length cs) → TwinAt (spot w at d ks cs s rs rs₁ i l y g k) (spot w at d' ks cs s' rs' rs₁' i l y' g' k))
      → Twins at d d' rs rs₁ s rs₁' s'
  unfolding AllLay spot
  twins [] [] s s' rs rs' rs₁ rs₁' l y y' g g' e t = record {
    slots = y.0 ∙ sym y'.0;
    ranges = sym y.1 ∙ e ∙ y'.1;
    standing = rw y.1 at g;
    agree = λ q m. inl (rw (← y.1) at m);
  }
  twins (k ∷ ks) (c ∷ cs) s s' rs rs' rs₁ rs₁' l y y' g g' e t =
      let a = kid-adds w k l.0 at d rs c y.slot y.ranges y.one in
      let a' = kid-adds w k l.0 at d' rs' c y'.slot y'.ranges y'.one in
      let f = t 0 (omega arith) in
      let r = twins ks cs y.left y'.left y.ranges y'.ranges rs₁ rs₁' l.1 y.others y'.others (adds-standing a g) (adds-standing a' g')
      (f.adds e)
      (λ i h. subst (λ (h : i < length cs). TwinAt (spot w at d ks cs y.left y.ranges rs₁ i l.1 y.others (adds-standing a g) h)
      (spot w at d' ks cs y'.left y'.ranges rs₁' i l.1 y'.others (adds-standing a' g') h))
      (le_prop _ _) (t (suc i) (omega arith))) in
      record {
        slots = sym y.whole ∙ ap (λ (z : List ℕ). z ++ y.left) f.slot ∙ ap (λ (z : List ℕ). y'.slot ++ z) r.slots ∙ y'.whole;
        ranges = r.ranges;
        standing = r.standing;
        agree = λ q m. or_else q (back q a f.agree) (r.agree q m);
      }
  twins [] (c ∷ cs) s s' rs rs' rs₁ rs₁' l y y' g g' e t = elim y [ ]
  twins (k ∷ ks) [] s s' rs rs' rs₁ rs₁' l y y' g g' e t = elim y [ ]
