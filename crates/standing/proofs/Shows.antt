-- The maps show which units the ranges before a value take: the value is admitted exactly where it is apart from all of them.
-- Assumes nothing.
use mathlib.Core.Path.{◌≡◌, refl, sym, ap, ◌∙◌, subst}
use mathlib.Core.Logic.{◌↔◌, ◌⊎◌, inl, inr}
use mathlib.Core.Bool.{Bool, true, false, not, cond, true≢false}
use mathlib.Core.List.{List, [], ◌∷◌}
use Prim.Native.Nat.{ℕ, zero, suc, ◌+◌, ◌-◌, ◌/◌, ◌%◌, ◌^◌, ◌≤◌, ◌<◌}
use native.Mathlib.Nat.{zero-div}
use native.Mathlib.Decide.{dec_lt, dec_le, ℕ_discrete}
use native.Mathlib.Omega.{arith}
use lib.Dec.{eqb}
use lib.ListN.{length, get_or, length-replicate, get_or-replicate}
use borrow.Author.Tests.{eq-eqb, ne_eqb, not-true, not-false}
use Rattle.words.specs.Bytes.{zeros}
use Rattle.words.specs.Bits.{bit, with_bit, put_bit}
use Rattle.words.proofs.BitLaws.{bit-put, bit-put-other, bit-run, length-put}
use Rattle.layout.specs.Tiles.{Range, ends, Aparts, Stands}
use Rattle.layout.proofs.Units.{Covers, Inner, Empty, NoneOf, Even, AllEven, Free, free-is-apart}
use Rattle.standing.specs.Maps.{both, clear_from, marked, admits, taken, admitted, places, with_range}
use Rattle.standing.proofs.Marks.{length_marked, Beside, places-no}

-- ---- the bits of a map

clear-all : (m : List ℕ) (at a n q : ℕ) → clear_from m at a n ≡ true → a ≤ q → q < a + n → bit m at q ≡ false
unfolding clear_from
clear-all m at a zero q e h k = absurd (omega arith)
clear-all m at a (suc n) q e h k = go (bit m at a) refl (ℕ_discrete q a) e (λ l x. clear-all m at (suc a) n q x l (omega arith))
  where
    go : (v : Bool) → bit m at a ≡ v → Dec (q ≡ a) → both (not v) (clear_from m at (suc a) n) ≡ true
        → (suc a ≤ q → clear_from m at (suc a) n ≡ true → bit m at q ≡ false) → bit m at q ≡ false
    go true f d x r = absurd (true≢false (sym x))
    go false f (yes z) x r = ap (bit m at) z ∙ f
    go false f (no z) x r = r (omega arith) x

-- a bit that is set, from a on
record Some (m : List ℕ) (at a n : ℕ) : Type 0 where
  unit : ℕ
  low : a ≤ unit
  high : unit < a + n
  set : bit m at unit ≡ true

clear-some : (m : List ℕ) (at a n : ℕ) → clear_from m at a n ≡ false → Some m at a n
unfolding clear_from
clear-some m at a zero e = absurd (true≢false e)
clear-some m at a (suc n) e = go (bit m at a) refl e (λ x. clear-some m at (suc a) n x)
  where
    go : (v : Bool) → bit m at a ≡ v → both (not v) (clear_from m at (suc a) n) ≡ false → (clear_from m at (suc a) n ≡ false → Some m at (suc a) n)
        → Some m at a (suc n)
    go true f x r = record { unit = a; low = omega arith; high = omega arith; set = f }
    go false f x r = let s = r x in record { unit = s.unit; low = omega (arith, s.low); high = omega (arith, s.high); set = s.set }

marked-out : (at : ℕ) (m : List ℕ) (a n q : ℕ) → at + 257 ≤ length m → a + n ≤ 2048 → (q < a) ⊎ (a + n ≤ q) → bit (marked m at a n) at q ≡ bit m at q
unfolding marked
marked-out at m a zero q h k o = refl
marked-out at m a (suc n) q h k o =
    let l = length-put m at a true in
    marked-out at (put_bit m at a true) (suc a) n q (omega arith) (omega arith) (further o) ∙ bit-put-other m at a true (omega arith) q (λ e. not_there o e)
  where
    further : (q < a) ⊎ (a + suc n ≤ q) → (q < suc a) ⊎ (suc a + n ≤ q)
    further (inl x) = inl (omega arith)
    further (inr x) = inr (omega arith)

    not_there : (q < a) ⊎ (a + suc n ≤ q) → q ≡ a → ⊥
    not_there (inl x) e = omega arith
    not_there (inr x) e = omega arith

marked-in : (at : ℕ) (m : List ℕ) (a n q : ℕ) → at + 257 ≤ length m → a + n ≤ 2048 → a ≤ q → q < a + n → bit (marked m at a n) at q ≡ true
unfolding marked
marked-in at m a zero q h k lo hi = absurd (omega arith)
marked-in at m a (suc n) q h k lo hi = go (ℕ_discrete q a) (λ x. marked-in at (put_bit m at a true) (suc a) n q (omega (arith, length-put m at a true))
    (omega arith) x (omega arith))
  where
    go : Dec (q ≡ a) → (suc a ≤ q → bit (marked (put_bit m at a true) at (suc a) n) at q ≡ true) → bit (marked (put_bit m at a true) at (suc a) n) at q ≡ true
    go (yes z) f = marked-out at (put_bit m at a true) (suc a) n q (omega (arith, length-put m at a true)) (omega arith) (inl (omega arith))
        ∙ ap (bit (put_bit m at a true) at) z ∙ bit-put m at a true (omega arith)
    go (no z) f = f (omega arith)

-- the two bitmaps lie apart
abbrev Other : ℕ → ℕ → Type 0
Other at to = (at + 257 ≤ to) ⊎ (to + 257 ≤ at)

put-elsewhere : (at to : ℕ) (m : List ℕ) (a q : ℕ) → Other at to → at + 257 ≤ length m → a ≤ 2048 → q ≤ 2048 → bit (put_bit m at a true) to q ≡ bit m to q
put-elsewhere at to m a q o h k l = bit-run m (at + a / 8) (with_bit (get_or m (at + a / 8) 0) (a % 8) true ∷ []) to q (omega arith) (apart o)
  where
    apart : Other at to → (to + q / 8 < at + a / 8) ⊎ (at + a / 8 + 1 ≤ to + q / 8)
    apart (inl x) = inr (omega arith)
    apart (inr x) = inl (omega arith)

marked-elsewhere : (at to : ℕ) (m : List ℕ) (a n q : ℕ) → Other at to → at + 257 ≤ length m → a + n ≤ 2048 → q ≤ 2048 → bit (marked m at a n) to q ≡ bit m to q
unfolding marked
marked-elsewhere at to m a zero q o h k l = refl
marked-elsewhere at to m a (suc n) q o h k l = marked-elsewhere at to (put_bit m at a true) (suc a) n q o (omega (arith, length-put m at a true))
    (omega arith) l ∙ put-elsewhere at to m a q o h (omega arith) l

-- ---- what the maps show

abbrev Shown : (Range → ℕ → Type 0) → List ℕ → ℕ → List Range → Type 0
Shown P m at rs = (q : ℕ) → q ≤ 2048 → (bit m at q ≡ false) ↔ NoneOf P rs q

pub record MapShows (m : List ℕ) (rs : List Range) : Type 0 where
  pub long : length m ≡ 792
  pub covers : Shown Covers m 0 rs
  pub inner : Shown Inner m 264 rs
  pub empty : Shown Empty m 528 rs

zero_bit : (n at q : ℕ) → at + q / 8 < n → bit (zeros n) at q ≡ false
zero_bit n at q h = rw (get_or-replicate {A = ℕ} n (at + q / 8) 0 0 h, zero-div (2 ^ (q % 8)))

pub shows-start : MapShows (zeros 792) []
shows-start = record {
  long = length-replicate {A = ℕ} 792 0;
  covers = λ q h. (λ e. tt, λ x. zero_bit 792 0 q (omega arith));
  inner = λ q h. (λ e. tt, λ x. zero_bit 792 264 q (omega arith));
  empty = λ q h. (λ e. tt, λ x. zero_bit 792 528 q (omega arith));
}

-- one more range, which holds of the units from lo up to hi
shown-more : (P : Range → ℕ → Type 0) (m m' : List ℕ) (at : ℕ) (rs : List Range) (r : Range) (lo hi : ℕ) → ((q : ℕ) → P r q → (lo ≤ q) × (q < hi))
    → ((q : ℕ) → lo ≤ q → q < hi → P r q)
    → ((q : ℕ) → q ≤ 2048 → lo ≤ q → q < hi → bit m' at q ≡ true) → ((q : ℕ) → q ≤ 2048 → (q < lo) ⊎ (hi ≤ q) → bit m' at q ≡ bit m at q) → Shown P m at rs
    → Shown P m' at (r ∷ rs)
shown-more P m m' at rs r lo hi f g i o s q h = go (dec_le lo q) (dec_lt q hi)
  where
    go : Dec (lo ≤ q) → Dec (q < hi) → (bit m' at q ≡ false) ↔ NoneOf P (r ∷ rs) q
    go (yes l) (yes u) = (λ e. absurd (true≢false (sym (i q h l u) ∙ e)), λ p. absurd (p.0 (g q l u)))
    go (yes l) (no u) = let b = o q h (inr (omega arith)) in (λ e. (λ p. u (f q p).1, (s q h).0 (sym b ∙ e)), λ p. b ∙ (s q h).1 p.1)
    go (no l) u = let b = o q h (inl (omega arith)) in (λ e. (λ p. l (f q p).0, (s q h).0 (sym b ∙ e)), λ p. b ∙ (s q h).1 p.1)

-- a range that takes the units from a up to b
module _ (m : List ℕ) (rs : List Range) (s : MapShows m rs) (r : Range) (e : Even r) (a b : ℕ) (ea : a ≡ r.start / 8) (eb : b ≡ (r.start + r.size) / 8)
    (hi : b ≤ 2048) where
  long : length m ≡ 792
  long = s.long

  admits-free : admits m a b ≡ true → Free r rs
  unfolding admits
  admits-free f = go (ℕ_discrete a b) f
    where
      two : (x y : Bool) → both x y ≡ true → (x ≡ true) × (y ≡ true)
      two true y z = (refl, z)
      two false y z = absurd (true≢false (sym z))

      go : Dec (a ≡ b) → cond (eqb a b) (not (bit m 264 a)) (both (clear_from m 0 a (b - a)) (clear_from m 528 (suc a) (b - suc a))) ≡ true → Free r rs
      go (yes z) f =
          let g : bit m 264 a ≡ false = not-true _ (rw (eq-eqb a b z) at f) in
          record {
            units = λ q c. absurd (omega (arith, c.0, c.1, e.0, e.1));
            bounds = λ q c. absurd (omega (arith, c.0, c.1, e.0, e.1));
            point = λ q c. (let w : q ≡ a = omega (arith, c.1) in subst (NoneOf Inner rs) (sym w) ((s.inner a (omega arith)).0 g));
          }
      go (no z) f =
          let g = two _ _ (rw (ne_eqb a b z) at f) in
          record {
            units = λ q c. (s.covers q (omega (arith, c.0, c.1, e.0, e.1))).0
                (clear-all m 0 a (b - a) q g.0 (omega (arith, c.0)) (omega (arith, c.1, e.0, e.1)));
            bounds = λ q c. (s.empty q (omega (arith, c.0, c.1, e.0, e.1))).0
                (clear-all m 528 (suc a) (b - suc a) q g.1 (omega (arith, c.0, e.0)) (omega (arith, c.0, c.1, e.0, e.1)));
            point = λ q c. absurd (z (omega (arith, c.0)));
          }

  admits-not : admits m a b ≡ false → Free r rs → ⊥
  unfolding admits
  admits-not f = go (ℕ_discrete a b) f
    where
      either : (x y : Bool) → both x y ≡ false → (x ≡ false) ⊎ (y ≡ false)
      either true y z = inr z
      either false y z = inl refl

      over : Free r rs → (clear_from m 0 a (b - a) ≡ false) ⊎ (clear_from m 528 (suc a) (b - suc a) ≡ false) → ⊥
      over g (inl x) =
          let t = clear-some m 0 a (b - a) x in
          let lo = t.low in
          let up = t.high in
          true≢false (sym t.set ∙ (s.covers t.unit (omega arith)).1 (g.units t.unit (omega (arith, e.0), omega (arith, e.0, e.1))))
      over g (inr x) =
          let t = clear-some m 528 (suc a) (b - suc a) x in
          let lo = t.low in
          let up = t.high in
          true≢false (sym t.set ∙ (s.empty t.unit (omega arith)).1 (g.bounds t.unit (omega (arith, e.0), omega (arith, e.0, e.1))))

      go : Dec (a ≡ b) → cond (eqb a b) (not (bit m 264 a)) (both (clear_from m 0 a (b - a)) (clear_from m 528 (suc a) (b - suc a))) ≡ false → Free r rs → ⊥
      go (yes z) f g =
          let t : bit m 264 a ≡ true = not-false _ (rw (eq-eqb a b z) at f) in
          true≢false (sym t ∙ (s.inner a (omega arith)).1 (g.point a (omega (arith, e.0, e.1), omega (arith, e.0))))
      go (no z) f g = over g (either _ _ (rw (ne_eqb a b z) at f))

  -- admitted: apart from all
  admit-apart : AllEven rs → admits m a b ≡ true → Aparts r rs
  admit-apart es f = (free-is-apart r rs e es).0 (admits-free f)

  admit-meets : AllEven rs → admits m a b ≡ false → Aparts r rs → ⊥
  admit-meets es f g = admits-not f ((free-is-apart r rs e es).1 g)

  -- and shown from then on
  shows_more : (m' : List ℕ) → m' ≡ taken m a b → MapShows m' (r ∷ rs)
  unfolding taken
  shows_more m' f = subst (λ (x : List ℕ). MapShows x (r ∷ rs)) (sym f) (go (ℕ_discrete a b))
    where
      go : Dec (a ≡ b) → MapShows (cond (eqb a b) (put_bit m 528 a true) (marked (marked m 0 a (b - a)) 264 (suc a) (b - suc a))) (r ∷ rs)
      go (yes z) = rw (eq-eqb a b z) (record {
        long = length-put m 528 a true ∙ long;
        covers = shown-more Covers m (put_bit m 528 a true) 0 rs r a a (λ q c. absurd (omega (arith, c.0, c.1, e.0, e.1)))
            (λ q l u. absurd (omega arith)) (λ q h l u. absurd (omega arith))
            (λ q h o. put-elsewhere 528 0 m a q (inr (omega arith)) (omega (arith, long)) (omega arith) h) s.covers;
        inner = shown-more Inner m (put_bit m 528 a true) 264 rs r a a (λ q c. absurd (omega (arith, c.0, c.1, e.0, e.1)))
            (λ q l u. absurd (omega arith)) (λ q h l u. absurd (omega arith))
            (λ q h o. put-elsewhere 528 264 m a q (inr (omega arith)) (omega (arith, long)) (omega arith) h) s.inner;
        empty = shown-more Empty m (put_bit m 528 a true) 528 rs r a (suc a) (λ q c. (omega (arith, c.1), omega (arith, c.1)))
            (λ q l u. (omega (arith, e.0, e.1), omega (arith, e.0)))
            (λ q h l u. (let w : q ≡ a = omega arith in ap (bit (put_bit m 528 a true) 528) w ∙ bit-put m 528 a true (omega (arith, long))))
            (λ q h o. bit-put-other m 528 a true (omega (arith, long)) q (λ w. at_a o w)) s.empty;
      })
        where
          at_a : {q : ℕ} → (q < a) ⊎ (suc a ≤ q) → q ≡ a → ⊥
          at_a (inl x) w = omega arith
          at_a (inr x) w = omega arith
      go (no z) =
          let m₁ = marked m 0 a (b - a) in
          let l₁ : length m₁ ≡ 792 = length_marked m 0 a (b - a) ∙ long in
          rw (ne_eqb a b z) (record {
            long = length_marked m₁ 264 (suc a) (b - suc a) ∙ l₁;
            covers = shown-more Covers m (marked m₁ 264 (suc a) (b - suc a)) 0 rs r a b (λ q c. (omega (arith, c.0), omega (arith, c.1, e.0, e.1)))
                (λ q l u. (omega (arith, e.0), omega (arith, e.0, e.1)))
                (λ q h l u. marked-elsewhere 264 0 m₁ (suc a) (b - suc a) q (inr (omega arith)) (omega arith) (omega arith) h
                ∙ marked-in 0 m a (b - a) q (omega (arith, long)) (omega arith) l (omega arith))
                (λ q h o. marked-elsewhere 264 0 m₁ (suc a) (b - suc a) q (inr (omega arith)) (omega arith) (omega arith) h
                ∙ marked-out 0 m a (b - a) q (omega (arith, long)) (omega arith) (upto o)) s.covers;
            inner = shown-more Inner m (marked m₁ 264 (suc a) (b - suc a)) 264 rs r (suc a) b
                (λ q c. (omega (arith, c.0, e.0), omega (arith, c.1, e.0, e.1))) (λ q l u. (omega (arith, e.0), omega (arith, e.0, e.1)))
                (λ q h l u. marked-in 264 m₁ (suc a) (b - suc a) q (omega arith) (omega arith) l (omega arith))
                (λ q h o. marked-out 264 m₁ (suc a) (b - suc a) q (omega arith) (omega arith) (upto' o)
                ∙ marked-elsewhere 0 264 m a (b - a) q (inl (omega arith)) (omega (arith, long)) (omega arith) h) s.inner;
            empty = shown-more Empty m (marked m₁ 264 (suc a) (b - suc a)) 528 rs r a a (λ q c. absurd (z (omega (arith, c.0))))
                (λ q l u. absurd (omega arith)) (λ q h l u. absurd (omega arith))
                (λ q h o. marked-elsewhere 264 528 m₁ (suc a) (b - suc a) q (inl (omega arith)) (omega arith) (omega arith) h
                ∙ marked-elsewhere 0 528 m a (b - a) q (inl (omega arith)) (omega (arith, long)) (omega arith) h) s.empty;
          })
        where
          upto : {q : ℕ} → (q < a) ⊎ (b ≤ q) → (q < a) ⊎ (a + (b - a) ≤ q)
          upto (inl x) = inl x
          upto (inr x) = inr (omega arith)

          upto' : {q : ℕ} → (q < suc a) ⊎ (b ≤ q) → (q < suc a) ⊎ (suc a + (b - suc a) ≤ q)
          upto' (inl x) = inl x
          upto' (inr x) = inr (omega arith)

-- ---- a range that may stand, or may not

module _ {m : List ℕ} {rs : List Range} (s : MapShows m rs) where
  module _ {start len : ℕ} {r : Range} (small : len ≤ 16384) (ez : r.size % 8 ≡ 0) (p : Beside m start len r) where
    pub shows_beside : {m' : List ℕ} → m' ≡ with_range m r true → MapShows m' (r ∷ rs)
    unfolding with_range admitted
    shows_beside {m'} f =
        shows_more m rs s r (p.even, ez) (r.start / 8) (ends r / 8) refl refl (omega (arith, p.high)) m' f

  module _ (es : AllEven rs) {start len : ℕ} {r : Range} (small : len ≤ 16384) (ez : r.size % 8 ≡ 0) where
    pub stands-beside : Beside m start len r → Stands start len rs r
    stands-beside p = record {
      low = p.low;
      high = p.high;
      eight = p.even;
      clear = admit-apart m rs s r (p.even, ez) (r.start / 8) (ends r / 8) refl refl (omega (arith, p.high)) es p.admits;
    }

    pub stands-places : places m start len r ≡ false → Stands start len rs r → ⊥
    stands-places f t = go (admits m (r.start / 8) (ends r / 8)) refl
      where
        go : (v : Bool) → admits m (r.start / 8) (ends r / 8) ≡ v → ⊥
        go true e = places-no f (record { low = t.low; even = t.eight; high = t.high; admits = e })
        go false e =
            admit-meets m rs s r (t.eight, ez) (r.start / 8) (ends r / 8) refl refl (omega (arith, t.high)) es e t.clear
