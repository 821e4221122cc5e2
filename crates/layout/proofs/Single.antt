-- One row for contents and the places of their values: bytes that stand for the same contents, with every value at the same place, are
-- the same. Assumes nothing.
use mathlib.Core.Path.{◌≡◌, refl, sym, ap, ◌∙◌, subst}
use mathlib.Core.Logic.{◌⊎◌, inl, inr}
use mathlib.Core.Option.{Option, none, some, none-ne-some}
use mathlib.Core.List.{List, [], ◌∷◌, ◌++◌}
use Prim.Native.Nat.{ℕ, zero, suc, ◌+◌, ◌-◌, ◌<◌, ◌^◌}
use native.Mathlib.Omega.{arith}
use native.Mathlib.Decide.{dec_lt}
use lib.ListN.{length, replicate, length-replicate, get_or-replicate}
use lib.Seq.{take_at}
use Rattle.words.specs.Bytes.{le, fill, pad, padded, part}
use Rattle.words.proofs.Numbers.{length-le, length-padded}
use Rattle.schema.specs.Types.{Ty, fix, text, li, ma, ro, Tys, end, ◌then◌, count, field}
use Rattle.layout.specs.Tiles.{Range, range, total}
use Rattle.layout.specs.Cells.{Cell, null, leaf, nodes, on_null, flag, parts, part_of}
use Rattle.layout.specs.Layout.{Kid, Placed, kid_of, kid, slot_of, kid_lays, front, BodyLays, number, string, array, pair, struct, codec, kids, Lays}
use Rattle.layout.specs.Places.{starts}
use Rattle.layout.specs.Reading.{type_along}
use Rattle.layout.specs.Walk.{Seat, seat_of, child, step_in, go_on, walk, seen, seat_at}
use Rattle.layout.proofs.Reader.{assert-yes}
use Rattle.layout.proofs.Cells.{flag-bit}
use Rattle.layout.proofs.Tiles.{Among, first, later}
use Rattle.layout.proofs.Children.{AllLawful, all-length}
use Rattle.layout.proofs.Containers.{repeat, body-fit, codec-lawful, kids-lawful, element-lawful, kids-count, lays-size}
use Rattle.layout.proofs.Steps.{nobody, kid_at}
use Rattle.layout.proofs.Spot.{cons-not, Spot}
use Rattle.layout.proofs.Bodies.{spot_in}
use Rattle.layout.proofs.Aside.{Holds}
use Rattle.layout.proofs.Slotted.{inside-given}
use Rattle.layout.proofs.Stepping.{placed_of, there-of, own_of, high-of}
use Rattle.layout.proofs.Walked.{own-holds, head-8, list-says, map-says, array-holds, struct_holds, kids-at}
use Rattle.layout.proofs.Seen.{seen-starts, into-on}
use Rattle.layout.proofs.Placing.{Twin, twins, data-same}

-- at every path the value starts at the same byte in both
abbrev pub Starting : Ty → Seat → ℕ → List ℕ → List ℕ → Type 0
Starting t s o b b' = (q : List ℕ) (T : Ty) → type_along q t ≡ some T → starts T (walk q t s o b) ≡ starts T (walk q t s o b')

abbrev Single : Ty → Type 0
Single t = (c : Cell) (b b' : List ℕ) (s : Seat) (o : ℕ) → Lays t c b → Lays t c b' → length b < 2 ^ 32 → Starting t s o b b' → b ≡ b'

-- a fixed width has one form
fixed-single : (t : Ty) (v : ℕ) (c : Cell) (u u' : List ℕ) → (codec t).wide ≡ some v → Lays t c u → Lays t c u' → u ≡ u'
unfolding codec number string array pair struct
fixed-single (fix f) v c u u' e y y' = sym y.is ∙ y'.is
fixed-single (text k) v c u u' e y y' = absurd (none-ne-some v e)
fixed-single (li t) v c u u' e y y' = absurd (none-ne-some v e)
fixed-single (ma a b) v c u u' e y y' = absurd (none-ne-some v e)
fixed-single (ro ts) v c u u' e y y' = absurd (none-ne-some v e)

-- ---- one child, in two bodies

no-range : (at : ℕ) (d d' : List ℕ) (b a b' a' : List Range) (s s' : List ℕ) → s ≡ s' → b ≡ a → b' ≡ a' → Twin at d d' b a s b' a' s'
no-range at d d' b a b' a' s s' e f g = record { slot = e; adds = λ h. sym f ∙ h ∙ g; agree = λ q z. absurd (cons-not q b (z ∙ sym f)) }

null-twin : (w : ℕ) (k : Kid) (at : ℕ) (d d' : List ℕ) (b a b' a' : List Range) (x : Cell) (s s' : List ℕ) → kid_lays w k at d b x s a
    → kid_lays w k at d' b' x s' a' → flag x ≡ 1 → Twin at d d' b a s b' a' s'
unfolding on_null
null-twin w k at d d' b a b' a' (null u) s s' y y' f = no-range at d d' b a b' a' s s' (sym y.is ∙ y'.is) y.same y'.same
null-twin w k at d d' b a b' a' (leaf u) s s' y y' f = absurd (omega arith)
null-twin w k at d d' b a b' a' (nodes u) s s' y y' f = absurd (omega arith)

range-is : (q r : Range) (b a : List Range) → q ∷ b ≡ a → r ∷ b ≡ a → q ≡ r
range-is q r b a e f = let g : q ∷ b ≡ r ∷ b = e ∙ sym f in cc

placed-twin : (t : Ty) (at : ℕ) (d d' : List ℕ) (b a b' a' : List Range) (x : Cell) (s s' : List ℕ) (p : Placed (codec t).Lays at d b x s a)
    (p' : Placed (codec t).Lays at d' b' x s' a')
    → p.place ≡ p'.place → p.own ≡ p'.own → Twin at d d' b a s b' a' s'
placed-twin t at d d' b a b' a' x s s' p p' e f =
    let r = range p.place (pad (length p.own)) in
    let m : range p.place (pad (length p.own)) ∷ b' ≡ a' = rw (e, f) p'.more in
    let long : length (padded p.own) ≡ pad (length p.own) = length-padded p.own in
    let one : part d (p.place - at) (pad (length p.own)) ≡ padded p.own = rw (← p.there)
    (take_at (padded p.own) p.behind (pad (length p.own)) long) in
    let two : part d' (p.place - at) (pad (length p.own)) ≡ padded p.own = rw (e, f, ← p'.there)
    (take_at (padded p'.own) p'.behind (pad (length p'.own)) (length-padded p'.own)) in
    record {
      slot = sym p.slot ∙ rw (e, f) p'.slot;
      adds = λ h. sym p.more ∙ ap (λ (l : List Range). r ∷ l) h ∙ m;
      agree = λ q z. subst (λ (q : Range). part d (q.start - at) q.size ≡ part d' (q.start - at) q.size) (sym (range-is q r b a z p.more))
          (one ∙ sym two);
    }

-- ---- a walk into a child

module _ (F : ℕ → Ty) (c : Cell) (hs r b : List ℕ) (h w : ℕ) (ks : List Kid) (e : hs ++ r ≡ b) (eh : length hs ≡ h) (l : AllLawful w ks)
    (hF : (j : ℕ) → Holds w (codec (F j)).wide)
    (y : BodyLays h w ks (parts c) r) (lim : length b < 2 ^ 32) (kF : (j : ℕ) → j < length (parts c) → kid_at ks j ≡ kid w (codec (F j)))
    (T : Ty) (steps : (r' : List ℕ) (j : ℕ) (z : Seat) (o : ℕ) → step_in T j z o (hs ++ r') ≡ child h w (length ks) (F j) j o (hs ++ r')) (whole : Lays T c b)
    (j : ℕ) (kj : j < length (parts c)) (zj : flag (part_of j c) ≡ 0) (nj : (codec (F j)).wide ≡ none) where
  abbrev held : Placed (codec (F j)).Lays (front h w (length ks)) y.variable (spot_in h w ks (parts c) r l y j kj).before (part_of j c)
      (spot_in h w ks (parts c) r l y j kj).slot (spot_in h w ks (parts c) r l y j kj).after
  held = placed_of F c hs r b h w ks e eh l hF y lim kF j kj zj nj

  walk-child : (q : List ℕ) (s : Seat) (o : ℕ) → walk (j ∷ q) T s o b ≡ walk q (F j) (seat_of h w (length ks) j o) (o + held.place) held.own
  unfolding walk
  walk-child q s o =
      own-holds T c s o b _ whole lim
      ∙ ap (go_on q (λ t s o b. walk q t s o b)) (ap (step_in T j s o) (sym e) ∙ steps r j s o ∙ ap (child h w (length ks) (F j) j o) e
      ∙ there-of F c hs r b h w ks e eh l hF y lim kF j kj zj nj b held.own refl refl refl (own_of F c hs r b h w ks e eh l hF y lim kF j kj zj nj) o)
      ∙ into-on q (F j) (seat_of h w (length ks) j o) (o + held.place) held.own

  start-child : (s : Seat) (o : ℕ) → length held.own < 2 ^ 32 → starts (F j) (walk (j ∷ []) T s o b) ≡ o + held.place
  unfolding walk
  start-child s o lim =
      ap (starts (F j)) (walk-child [] s o
      ∙ own-holds (F j) (part_of j c) (seat_of h w (length ks) j o) (o + held.place) held.own
      (seen (seat_of h w (length ks) j o) (o + held.place) held.own) held.lays lim)
      ∙ seen-starts (F j) (seat_of h w (length ks) j o) (o + held.place) held.own nj

-- ---- two bodies of the same contents

among-some : {q : Range} {rs : List Range} → Among q rs → 0 < length rs
among-some first = omega arith
among-some (later m) = omega arith

module _ (F : ℕ → Ty) (c : Cell) (hs : List ℕ) (h w : ℕ) (ks : List Kid) (eh : length hs ≡ h) (l : AllLawful w ks) (hF : (j : ℕ) → Holds w (codec (F j)).wide)
    (kF : (j : ℕ) → j < length (parts c) → kid_at ks j ≡ kid w (codec (F j))) (T : Ty)
    (steps : (r' : List ℕ) (j : ℕ) (z : Seat) (o : ℕ) → step_in T j z o (hs ++ r') ≡ child h w (length ks) (F j) j o (hs ++ r'))
    (typed : (j : ℕ) (q : List ℕ) (U : Ty) → j < length (parts c) → type_along q (F j) ≡ some U → type_along (j ∷ q) T ≡ some U)
    (r b : List ℕ) (e : hs ++ r ≡ b) (y : BodyLays h w ks (parts c) r) (lim : length b < 2 ^ 32) (whole : Lays T c b)
    (r' b' : List ℕ) (e' : hs ++ r' ≡ b') (y' : BodyLays h w ks (parts c) r') (lim' : length b' < 2 ^ 32) (whole' : Lays T c b')
    (s : Seat) (o : ℕ) (st : Starting T s o b b') (one : (j : ℕ) → j < length (parts c) → Single (F j)) where
  abbrev at : ℕ
  at = front h w (length ks)

  module _ (j : ℕ) (kj : j < length (parts c)) where
    abbrev sp : Spot w at y.variable ks (parts c) y.slots [] y.ranges j
    sp = spot_in h w ks (parts c) r l y j kj

    abbrev sp' : Spot w at y'.variable ks (parts c) y'.slots [] y'.ranges j
    sp' = spot_in h w ks (parts c) r' l y' j kj

    abbrev Same : Type 0
    Same = Twin at y.variable y'.variable sp.before sp.after sp.slot sp'.before sp'.after sp'.slot

    lays-at : (wd : Option ℕ) → (codec (F j)).wide ≡ wd → kid_lays w (kid_of w wd (codec (F j))) at y.variable sp.before (part_of j c) sp.slot sp.after
    lays-at wd q = subst (λ (o : Option ℕ). kid_lays w (kid_of w o (codec (F j))) at y.variable sp.before (part_of j c) sp.slot sp.after) q
        (rw (kF j kj) at sp.lays)

    lays-at' : (wd : Option ℕ) → (codec (F j)).wide ≡ wd → kid_lays w (kid_of w wd (codec (F j))) at y'.variable sp'.before (part_of j c) sp'.slot
        sp'.after
    lays-at' wd q = subst (λ (o : Option ℕ). kid_lays w (kid_of w o (codec (F j))) at y'.variable sp'.before (part_of j c) sp'.slot sp'.after) q
        (rw (kF j kj) at sp'.lays)

    here-twin : flag (part_of j c) ≡ 0 → (wd : Option ℕ) → (codec (F j)).wide ≡ wd → Same
    unfolding kid_of type_along
    here-twin z (some v) q =
        let t = codec (F j) in
        let p = inside-given w v t at y.variable sp.before sp.after (part_of j c) sp.slot (lays-at (some v) q) z in
        let p' = inside-given w v t at y'.variable sp'.before sp'.after (part_of j c) sp'.slot (lays-at' (some v) q) z in
        let f = fixed-single (F j) v (part_of j c) p.own p'.own q p.lays p'.lays in
        no-range at y.variable y'.variable sp.before sp.after sp'.before sp'.after sp.slot sp'.slot
        (sym p.slot ∙ ap (fill w) f ∙ p'.slot) p.same p'.same
    here-twin z none q =
        let p = placed_of F c hs r b h w ks e eh l hF y lim kF j kj z q in
        let p' = placed_of F c hs r' b' h w ks e' eh l hF y' lim' kF j kj z q in
        let sh : length p.own < 2 ^ 32 = omega (arith, high-of F c hs r b h w ks e eh l hF y lim kF j kj z q) in
        let sh' : length p'.own < 2 ^ 32 = omega (arith, high-of F c hs r' b' h w ks e' eh l hF y' lim' kF j kj z q) in
        let seat = seat_of h w (length ks) j o in
        let pe : p.place ≡ p'.place = omega (
          arith,
          start-child F c hs r b h w ks e eh l hF y lim kF T steps whole j kj z q s o sh,
          start-child F c hs r' b' h w ks e' eh l hF y' lim' kF T steps whole' j kj z q s o sh',
          st (j ∷ []) (F j) (typed j [] (F j) kj refl),
        ) in
        let f = one j kj (part_of j c) p.own p'.own seat (o + p.place) p.lays p'.lays sh (λ i U g.
        sym (ap (starts U) (walk-child F c hs r b h w ks e eh l hF y lim kF T steps whole j kj z q i s o)) ∙ st (j ∷ i) U (typed j i U kj g)
        ∙ ap (starts U) (walk-child F c hs r' b' h w ks e' eh l hF y' lim' kF T steps whole' j kj z q i s o
        ∙ ap (λ (n : ℕ). walk i (F j) seat (o + n) p'.own) (sym pe))) in
        placed-twin (F j) at y.variable y'.variable sp.before sp.after sp'.before sp'.after (part_of j c) sp.slot sp'.slot p p' pe f

    twin-by : (f : ℕ) → flag (part_of j c) ≡ f → f < 2 → Same
    twin-by zero z k = here-twin z (codec (F j)).wide refl
    twin-by (suc zero) z k = null-twin w (kid_at ks j) at y.variable y'.variable sp.before sp.after sp'.before sp'.after (part_of j c)
        sp.slot sp'.slot sp.lays sp'.lays z
    twin-by (suc (suc f)) z k = absurd (omega arith)

  body_same : r ≡ r'
  body_same =
      let d = y.variable in
      let d' = y'.variable in
      let t = twins w at d d' ks (parts c) y.slots y'.slots [] [] y.ranges y'.ranges l y.children y'.children tt tt refl
      (λ j kj. twin-by j kj (flag (part_of j c)) refl (flag-bit (part_of j c))) in
      let n : length d ≡ length d' = sym y.ends ∙ ap total t.ranges ∙ y'.ends in
      let g = data-same at d d' y.ranges n t.standing y.ends (λ q m. go q (t.agree q m)) in
      sym y.whole ∙ rw (t.slots, g) y'.whole
    where
      go : (q : Range) → Among q [] ⊎ (part y.variable (q.start - at) q.size ≡ part y'.variable (q.start - at) q.size)
          → part y.variable (q.start - at) q.size ≡ part y'.variable (q.start - at) q.size
      go q (inl m) = absurd (omega (arith, among-some m))
      go q (inr a) = a

-- ---- types

list-single : (t : Ty) → Single t → Single (li t)
unfolding codec array step_in type_along
list-single t one c b b' s o y y' lim st =
    let m = length (parts c) in
    let w = slot_of (codec t).wide in
    let k = kid w (codec t) in
    let lim' : length b' < 2 ^ 32 = omega (arith, lays-size (li t) c b y, lays-size (li t) c b' y') in
    let small : m < 256 ^ 8 = omega (arith, (list-says t c b y lim).room) in
    let g = body_same (λ _. t) c (le 8 m) 8 w (replicate m k) (length-le 8 m) (repeat w m k (element-lawful t)) (λ _. array-holds (codec t).wide)
    (λ j h. get_or-replicate m j k nobody h) (li t)
    (λ r' j z o. rw (head-8 m r' small, length-replicate)) (λ j q U h e. e) y.rest b y.whole y.body lim y y'.rest b' y'.whole
    y'.body lim' y' s o st (λ j h. one) in
    sym y.whole ∙ ap (λ (u : List ℕ). le 8 m ++ u) g ∙ y'.whole

keys-walk : (k v : Ty) (c : Cell) (b p r : List ℕ) (s : Seat) (o : ℕ) (q : List ℕ) → Lays (ma k v) c b → length b < 2 ^ 32 → le 8 (length p) ++ (p ++ r) ≡ b
    → walk (0 ∷ q) (ma k v) s o b ≡ walk q (li k) (seat_at (o + 8)) (o + 8) p
unfolding walk step_in
keys-walk k v c b p r s o q y lim e =
    let m = map-says c b p r e lim in
    own-holds (ma k v) c s o b _ y lim ∙ rw (m.k, m.keys) (into-on q (li k) (seat_at (o + 8)) (o + 8) p)

values-walk : (k v : Ty) (c : Cell) (b p r : List ℕ) (s : Seat) (o : ℕ) (q : List ℕ) → Lays (ma k v) c b → length b < 2 ^ 32
    → le 8 (length p) ++ (p ++ r) ≡ b → walk (1 ∷ q) (ma k v) s o b ≡ walk q (li v) (seat_at (o + (8 + length p))) (o + (8 + length p)) r
unfolding walk step_in
values-walk k v c b p r s o q y lim e =
    let m = map-says c b p r e lim in
    own-holds (ma k v) c s o b _ y lim ∙ rw (m.k, m.values) (into-on q (li v) (seat_at (o + (8 + length p))) (o + (8 + length p)) r)

map-single : (k v : Ty) → Single (li k) → Single (li v) → Single (ma k v)
unfolding codec pair type_along
map-single k v one two c b b' s o y y' lim st =
    let p = y.keys_array in
    let p' = y'.keys_array in
    let r = y.values_array in
    let r' = y'.values_array in
    let m = map-says c b p r y.whole lim in
    let lim' : length b' < 2 ^ 32 = omega (arith, lays-size (ma k v) c b y, lays-size (ma k v) c b' y') in
    let f : p ≡ p' = one (part_of 0 c) p p' (seat_at (o + 8)) (o + 8) y.keys y'.keys (omega (arith, m.size)) (λ q U e.
    sym (ap (starts U) (keys-walk k v c b p r s o q y lim y.whole)) ∙ st (0 ∷ q) U e ∙ ap (starts U) (keys-walk k v c b' p' r' s o q y' lim' y'.whole)) in
    let n : length p' ≡ length p = ap length (sym f) in
    let g : r ≡ r' = two (part_of 1 c) r r' (seat_at (o + (8 + length p))) (o + (8 + length p)) y.values y'.values (omega (arith, m.size)) (λ q U e.
    sym (ap (starts U) (values-walk k v c b p r s o q y lim y.whole)) ∙ st (1 ∷ q) U e
    ∙ ap (starts U) (values-walk k v c b' p' r' s o q y' lim' y'.whole ∙ ap (λ (n : ℕ). walk q (li v) (seat_at (o + (8 + n))) (o + (8 + n)) r') n)) in
    sym y.whole ∙ rw (f, g) y'.whole

struct-single : (ts : Tys) → ((j : ℕ) → j < count ts → Single (field ts j)) → Single (ro ts)
unfolding codec struct step_in type_along
struct-single ts one c b b' s o y y' lim st =
    let lim' : length b' < 2 ^ 32 = omega (arith, lays-size (ro ts) c b y, lays-size (ro ts) c b' y') in
    let n : length (parts c) ≡ count ts = all-length 8 (kids ts) (parts c) (body-fit 0 8 (kids ts) (kids-lawful ts) (parts c) b y.body) ∙ kids-count ts in
    body_same (field ts) c [] 0 8 (kids ts) refl (kids-lawful ts)
    (λ j. struct_holds (codec (field ts j)).wide (codec (field ts j)) (codec-lawful (field ts j)).sized)
    (λ j h. kids-at ts j (omega (arith, kids-count ts))) (ro ts) (λ r' j z o. rw (kids-count ts))
    (λ j q U h e. rw (assert-yes (dec_lt j (count ts)) (omega arith)) e)
    b b refl y.body lim y b' b' refl y'.body lim' y' s o st (λ j h. one j (omega arith))

mutual
  unfolding codec number string field count

  pub single : (t : Ty) → Single t
  single (fix f) c b b' s o y y' lim st = sym y.is ∙ y'.is
  single (text k) c b b' s o y y' lim st = sym y.is ∙ y'.is
  single (li t) c b b' s o y y' lim st = list-single t (λ c b b' s o y y' lim st. single t c b b' s o y y' lim st) c b b' s o y y' lim st
  single (ma k v) c b b' s o y y' lim st =
      map-single k v (list-single k (λ c b b' s o y y' lim st. single k c b b' s o y y' lim st))
      (list-single v (λ c b b' s o y y' lim st. single v c b b' s o y y' lim st)) c b b' s o y y' lim st
  single (ro ts) c b b' s o y y' lim st = struct-single ts (λ j h. singles ts j h) c b b' s o y y' lim st

  singles : (ts : Tys) (j : ℕ) → j < count ts → Single (field ts j)
  singles end j h = absurd (omega arith)
  singles (t then ts) zero h = λ c b b' s o y y' lim st. single t c b b' s o y y' lim st
  singles (t then ts) (suc j) h = singles ts j (omega arith)
