-- The walk over bytes that stand for contents finds, at the end of a path, bytes of the row that stand for what the tree holds there;
-- and it refuses exactly where the tree has no such place, or a null before it. Assumes nothing.
use mathlib.Core.Path.{◌≡◌, refl, sym, ap, ◌∙◌}
use mathlib.Core.Option.{Option, none, some}
use mathlib.Core.List.{List, [], ◌∷◌, ◌++◌}
use Prim.Native.Nat.{ℕ, zero, suc, ◌+◌, ◌*◌, ◌%◌, ◌^◌, ◌≤◌, ◌<◌}
use native.Mathlib.Nat.{add-zero}
use native.Mathlib.Omega.{arith}
use native.Mathlib.Decide.{dec_le, dec_lt, ℕ_discrete}
use lib.ListN.{length, replicate, set, take, drop, length-append, length-replicate, get_or-replicate}
use lib.Seq.{sets, length-sets, take-length, take_at, take-append_seam, drop_at, drop-append-add}
use Rattle.words.specs.Bytes.{le, num, part}
use Rattle.words.proofs.Numbers.{length-le, num-le}
use Rattle.words.proofs.Parts.{part-part}
use Rattle.words.proofs.Runs.{sets_behind, sets_over, sets-whole}
use Rattle.schema.specs.Types.{Ty, fix, text, li, ma, ro, Tys, end, ◌then◌, count, field}
use Rattle.layout.specs.Tiles.{total}
use Rattle.layout.specs.Cells.{Cell, node, flag, bytes, parts, part_of}
use Rattle.layout.specs.Layout.{Codec, spells?, number, string, kid, slot_of, struct, array, pair, front, limit, codec, kids, Lays}
use Rattle.layout.specs.Walk.{child_ty, Seat, Seen, bad, null_at, seen, Step, stop, to_null, into, must, own, child, step_in, go_on, walk, seat_at}
use Rattle.layout.specs.Refusals.{Refusal, numbered, broken_at}
use Rattle.layout.proofs.Cells.{parts-node, leaf-parts}
use Rattle.layout.proofs.Kids.{Sized}
use Rattle.layout.proofs.Children.{all-length, tails-eight}
use Rattle.layout.proofs.Containers.{repeat, body-total, body-take, body-fit, codec-lawful, kids-lawful, element-lawful, child-lawful, list_lawful}
use Rattle.layout.proofs.Containers.{kids-count}
use Rattle.layout.proofs.Steps.{nobody, kid_at}
use Rattle.layout.proofs.Stepped as Stepped
use Rattle.layout.proofs.Stepped.{Comes}
use Rattle.layout.proofs.Stepping.{child-comes}
use Rattle.layout.proofs.Aside.{Holds, Aside}

-- ---- headers

pub head-8 : (n : ℕ) (b : List ℕ) → n < 256 ^ 8 → num (take 8 (le 8 n ++ b)) ≡ n
head-8 n b h = rw (take_at (le 8 n) b 8 (length-le 8 n)) (num-le 8 n h)

-- of a list: its count, that its fixed part fits, and that its size is a multiple of 8
pub record ListSays (t : Ty) (c : Cell) (b : List ℕ) : Type 0 where
  pub count : num (take 8 b) ≡ length (parts c)
  pub room : front 8 (slot_of (codec t).wide) (length (parts c)) ≤ length b
  pub eight : length b % 8 ≡ 0

eights : (a b d n : ℕ) → d % 8 ≡ 0 → 8 + n ≡ 8 + a * 8 + b * 8 + d → (8 + n) % 8 ≡ 0
eights a b d n q e = omega arith

pub list-says : (t : Ty) (c : Cell) (b : List ℕ) → Lays (li t) c b → length b < 2 ^ 32 → ListSays t c b
unfolding codec array total
list-says t c b y lim =
    let n = length (parts c) in
    let w = slot_of (codec t).wide in
    let k = kid w (codec t) in
    let lw = repeat w n k (element-lawful t) in
    let tot = rw length-replicate at (body-total 8 w (replicate n k) lw (parts c) y.rest y.body) in
    let m : length b ≡ 8 + length y.rest = rw (← y.whole, length-append, length-le) in
    let tk = (body-take 8 w (replicate n k) lw (parts c) y.rest y.body).adds in
    let d8 : length y.body.variable % 8 ≡ 0 = omega (arith, y.body.ends, tails-eight w (replicate n k) (parts c) lw) in
    record { count = rw (← y.whole) (head-8 n y.rest (omega arith)); room = omega arith; eight = rw m (eights _ _ _ (length y.rest) d8 tot) }

-- of a map: K, and where the two arrays are
pub record MapSays (c : Cell) (b p q : List ℕ) : Type 0 where
  pub size : length b ≡ 8 + (length p + length q)
  pub k : num (take 8 b) ≡ length p
  pub keys : part b 8 (length p) ≡ p
  pub values : drop (8 + length p) b ≡ q

pub map-says : (c : Cell) (b p q : List ℕ) → le 8 (length p) ++ (p ++ q) ≡ b → length b < 2 ^ 32 → MapSays c b p q
map-says c b p q z lim =
    let m : length b ≡ 8 + (length p + length q) = rw (← z, length-append, length-le, length-append) in
    record {
      size = m;
      k = rw (← z) (head-8 (length p) (p ++ q) (omega arith));
      keys = rw (← z, drop_at (le 8 (length p)) (p ++ q) 8 (length-le 8 (length p))) (take-append_seam p q);
      values = rw (← z) (rw length-le at (drop-append-add (le 8 (length p)) (p ++ q) (length p)) ∙ drop_at p q (length p) refl);
    }

-- ---- one step

pub array-holds : (o : Option ℕ) → Holds (slot_of o) o
unfolding slot_of
array-holds none = refl
array-holds (some v) = omega arith

pub struct_holds : (o : Option ℕ) (c : Codec) → Sized o c.Fits c.put → Holds 8 o
struct_holds none c s = refl
struct_holds (some v) c s = s.small

pub kids-at : (ts : Tys) (i : ℕ) → i < length (kids ts) → kid_at (kids ts) i ≡ kid 8 (codec (field ts i))
unfolding codec field
kids-at end i h = absurd (omega arith)
kids-at (t then ts) zero h = refl
kids-at (t then ts) (suc i) h = kids-at ts i (omega arith)

list-comes : (t : Ty) (c : Cell) (i o : ℕ) (b : List ℕ) → Lays (li t) c b → length b < 2 ^ 32
    → Comes (li t) t c i o b (child 8 (slot_of (codec t).wide) (num (take 8 b)) t i o b)
unfolding codec array step_in
list-comes t c i o b y lim =
    let m = length (parts c) in
    let w = slot_of (codec t).wide in
    let k = kid w (codec t) in
    let cnt : num (take 8 b) ≡ length (replicate m k) = (list-says t c b y lim).count ∙ sym (length-replicate m k) in
    let small : m < 256 ^ 8 = omega (arith, (list-says t c b y lim).room) in
    rw cnt (child-comes (λ _. t) c (le 8 m) y.rest b 8 w (replicate m k) y.whole (length-le 8 m) (repeat w m k (element-lawful t))
    (λ _. array-holds (codec t).wide) y.body lim
    (λ j h. get_or-replicate m j k nobody h) (li t) i o (element-lawful t)
    (λ cs r' e _ z. record { rest = r'; plain = rw parts-node; whole = rw (parts-node, e); body = rw (parts-node, e) z })
    (λ r' j z o. rw (head-8 m r' small, length-replicate)))

struct-comes : (ts : Tys) (c : Cell) (i o : ℕ) (b : List ℕ) → Lays (ro ts) c b → length b < 2 ^ 32
    → Comes (ro ts) (field ts i) c i o b (child 0 8 (count ts) (field ts i) i o b)
unfolding codec struct step_in
struct-comes ts c i o b y lim =
    rw (← (kids-count ts)) (child-comes (field ts) c [] b b 0 8 (kids ts) refl refl (kids-lawful ts)
    (λ j. struct_holds (codec (field ts j)).wide (codec (field ts j)) (codec-lawful (field ts j)).sized) y.body lim
    (λ j h. kids-at ts j (omega (arith, all-length 8 (kids ts) (parts c) (body-fit 0 8 (kids ts) (kids-lawful ts) (parts c) b y.body)))) (ro ts) i o
    (child-lawful (field ts i))
    (λ cs r' e _ z. record { plain = rw parts-node; body = rw parts-node z })
    (λ r' j z o. rw (kids-count ts)))

pub pair_parts : (x a b : Cell) → x ≡ node (a ∷ b ∷ []) → parts x ≡ a ∷ b ∷ []
pair_parts x a b e = ap parts e ∙ parts-node (a ∷ b ∷ [])

-- bytes that are a map too, with one of the two arrays changed
keys-aside : (k v : Ty) (c : Cell) (b u p q : List ℕ) → le 8 (length p) ++ (p ++ q) ≡ b → length b < 2 ^ 32 → length u ≡ length p
    → sets b 8 u ≡ le 8 (length u) ++ (u ++ q) → Aside (ma k v) 0 b (sets b 8 u)
unfolding step_in
keys-aside k v c b u p q e lim n t zero ne z o = absurd (ne refl)
keys-aside k v c b u p q e lim n t (suc zero) ne z o =
    let m = map-says c b p q e lim in
    let m' = map-says c (sets b 8 u) u q (sym t) (rw length-sets lim) in
    rw (m.k, m'.k, m.values, m'.values, n)
keys-aside k v c b u p q e lim n t (suc (suc j)) ne z o = refl

values-aside : (k v : Ty) (c : Cell) (b b' p q u : List ℕ) → le 8 (length p) ++ (p ++ q) ≡ b → length b < 2 ^ 32 → length b' ≡ length b
    → le 8 (length p) ++ (p ++ u) ≡ b' → Aside (ma k v) 1 b b'
unfolding step_in
values-aside k v c b b' p q u e lim n t zero ne z o =
    let m = map-says c b p q e lim in
    let m' = map-says c b' p u t (rw n lim) in
    rw (m.k, m'.k, m.keys, m'.keys)
values-aside k v c b b' p q u e lim n t (suc zero) ne z o = absurd (ne refl)
values-aside k v c b b' p q u e lim n t (suc (suc j)) ne z o = refl

keys-comes : (k v : Ty) (c : Cell) (s : Seat) (o : ℕ) (b : List ℕ) → Lays (ma k v) c b → length b < 2 ^ 32
    → Comes (ma k v) (li k) c 0 o b (into (li k) s (o + 8) (part b 8 (num (take 8 b))))
unfolding codec pair step_in
keys-comes k v c s o b y lim =
    let p = y.keys_array in
    let q = y.values_array in
    let m = map-says c b p q y.whole lim in
    let two = pair_parts c (part_of 0 c) (part_of 1 c) y.plain in
    let lk = list_lawful (codec k) (codec-lawful k) in
    rw (m.k, m.keys) (Stepped.on {j = 8} {u = p} (rw two (omega arith)) (lk.here (part_of 0 c) (lk.fits (part_of 0 c) p y.keys)) (record {
      lays = y.keys;
      there = m.keys;
      room = omega (arith, m.size);
      put = λ _ x u l n cnt.
          let e : node (set (parts c) 0 x) ≡ node (x ∷ part_of 1 c ∷ []) = ap (λ (l : List Cell). node (set l 0 x)) two in
          rw (e, over u n) (record {
            keys_array = u;
            values_array = q;
            plain = rw parts-node refl;
            whole = refl;
            keys = rw parts-node l;
            values = rw parts-node y.values;
            counts = rw parts-node (cnt ∙ y.counts);
          });
      put-aside = λ _ u n. keys-aside k v c b u p q y.whole lim n (over u n);
      put-there = λ _ u n z o. (let m' = map-says c (sets b 8 u) u q (sym (over u n)) (rw length-sets lim) in
          record { seat = seat_at (o + 8); was = rw (m.k, m.keys); is = rw (m'.k, m'.keys) });
    }) (λ a. absurd a))
  where
    over : (u : List ℕ) → length u ≡ length y.keys_array → sets b 8 u ≡ le 8 (length u) ++ (u ++ y.values_array)
    over u n =
        let p = y.keys_array in
        let q = y.values_array in
        rw (← y.whole, n) (rw length-le at (sets_behind (le 8 (length p)) (p ++ q) 0 u) ∙ ap (λ (z : List ℕ). le 8 (length p) ++ z) (sets_over p u q n))

values-comes : (k v : Ty) (c : Cell) (s : Seat) (o : ℕ) (b : List ℕ) → Lays (ma k v) c b → length b < 2 ^ 32
    → Comes (ma k v) (li v) c 1 o b (into (li v) s (o + (8 + num (take 8 b))) (drop (8 + num (take 8 b)) b))
unfolding codec pair step_in
values-comes k v c s o b y lim =
    let p = y.keys_array in
    let q = y.values_array in
    let m = map-says c b p q y.whole lim in
    let two = pair_parts c (part_of 0 c) (part_of 1 c) y.plain in
    let lv = list_lawful (codec v) (codec-lawful v) in
    rw (m.k, m.values) (Stepped.on {j = 8 + length p} {u = q} (rw two (omega arith)) (lv.here (part_of 1 c) (lv.fits (part_of 1 c) q y.values)) (record {
      lays = y.values;
      there = rw m.values (take-length q);
      room = omega (arith, m.size);
      put = λ _ x u l n cnt.
          let e : node (set (parts c) 1 x) ≡ node (part_of 0 c ∷ x ∷ []) = ap (λ (l : List Cell). node (set l 1 x)) two in
          rw (e, over u n) (record {
            keys_array = p;
            values_array = u;
            plain = rw parts-node refl;
            whole = refl;
            keys = rw parts-node y.keys;
            values = rw parts-node l;
            counts = rw parts-node (y.counts ∙ sym cnt);
          });
      put-aside = λ _ u n. values-aside k v c b (sets b (8 + length p) u) p q u y.whole lim (length-sets b (8 + length p) u) (sym (over u n));
      put-there = λ _ u n z o. (let m' = map-says c (sets b (8 + length p) u) p u (sym (over u n)) (rw length-sets lim) in
          record { seat = seat_at (o + (8 + length p)); was = rw (m.k, m.values); is = rw (m'.k, m'.values) });
    }) (λ a. absurd a))
  where
    over : (u : List ℕ) → length u ≡ length y.values_array → sets b (8 + length y.keys_array) u ≡ le 8 (length y.keys_array) ++ (y.keys_array ++ u)
    over u n =
        let p = y.keys_array in
        let q = y.values_array in
        rw (← y.whole) (rw length-le at (sets_behind (le 8 (length p)) (p ++ q) (length p) u)
        ∙ ap (λ (z : List ℕ). le 8 (length p) ++ z) (ap (λ (j : ℕ). sets (p ++ q) j u) (sym (add-zero (length p))) ∙ sets_behind p q 0 u
        ∙ ap (λ (z : List ℕ). p ++ z) (sets-whole q u n)))

third-comes : (k v : Ty) (c : Cell) (i o : ℕ) (b : List ℕ) → Lays (ma k v) c b → Comes (ma k v) (li v) c (suc (suc i)) o b (stop (numbered 5))
unfolding codec pair
third-comes k v c i o b y = Stepped.past (rw (pair_parts c (part_of 0 c) (part_of 1 c) y.plain) (omega arith))

-- a step into bytes that stand for c comes to child i of c
pub comes : (t : Ty) (c : Cell) (i : ℕ) (s : Seat) (o : ℕ) (b : List ℕ) → Lays t c b → length b < 2 ^ 32 → Comes t (child_ty t i) c i o b (step_in t i s o b)
unfolding child_ty step_in codec number string
comes (fix f) c i s o b y lim = Stepped.past (omega (arith, leaf-parts c (bytes c) y.fits.plain))
comes (text t) c i s o b y lim = Stepped.past (omega (arith, leaf-parts c (bytes c) y.fits.plain))
comes (li t) c i s o b y lim = list-comes t c i o b y lim
comes (ma k v) c zero s o b y lim = keys-comes k v c (seat_at (o + 8)) o b y lim
comes (ma k v) c (suc zero) s o b y lim = values-comes k v c (seat_at (o + (8 + num (take 8 b)))) o b y lim
comes (ma k v) c (suc (suc i)) s o b y lim = third-comes k v c i o b y
comes (ro ts) c i s o b y lim = struct-comes ts c i o b y lim

-- ---- a type's own rules hold of bytes that stand for contents

must-yes : {P : Type 0} (d : Dec P) (n : Refusal) (s : Seen) → P → must d n s ≡ s
unfolding must
must-yes (yes p) n s h = refl
must-yes (no q) n s h = absurd (q h)

pub struct-room : (ts : Tys) (c : Cell) (b : List ℕ) → Lays (ro ts) c b → front 0 8 (count ts) ≤ length b
unfolding codec struct
struct-room ts c b y = rw (← (kids-count ts)) (omega (arith, body-total 0 8 (kids ts) (kids-lawful ts) (parts c) b y.body))

pub own-holds : (t : Ty) (c : Cell) (a : Seat) (o : ℕ) (b : List ℕ) (s : Seen) → Lays t c b → length b < 2 ^ 32 → own t a o b s ≡ s
unfolding own codec number string pair
own-holds (fix g) c p o b s y lim = must-yes (dec_lt (num b) (limit g)) (broken_at o) s (rw (← y.is) y.fits.below)
own-holds (text t) c p o b s y lim = must-yes (spells? t b) (broken_at p.slot) s (rw (← y.is) y.fits.spelled)
own-holds (li t) c p o b s y lim =
    let a = list-says t c b y lim in
    must-yes (dec_le 8 (length b)) _ _ (omega (arith, a.room))
    ∙ must-yes (dec_le (front 8 (slot_of (codec t).wide) (num (take 8 b))) (length b)) _ s (rw a.count a.room)
own-holds (ma k v) c p o b s y lim =
    let m = map-says c b y.keys_array y.values_array y.whole lim in
    let a = list-says k (part_of 0 c) y.keys_array y.keys (omega (arith, m.size)) in
    rw m.k
    (must-yes (dec_le 8 (length b)) _ _ (omega (arith, m.size))
    ∙ must-yes (ℕ_discrete (length y.keys_array % 8) 0) _ _ a.eight
    ∙ must-yes (dec_le (8 + length y.keys_array) (length b)) _ s (omega (arith, m.size)))
own-holds (ro ts) c p o b s y lim = must-yes (dec_le (front 0 8 (count ts)) (length b)) _ s (struct-room ts c b y)

-- ---- the walk

-- b stands at the row's byte o
pub record Sits (row : List ℕ) (o : ℕ) (b : List ℕ) : Type 0 where
  pub there : part row o (length b) ≡ b
  pub room : o + length b ≤ length row

pub sits-in : {row b : List ℕ} {o : ℕ} (j : ℕ) (u : List ℕ) → Sits row o b → part b j (length u) ≡ u → j + length u ≤ length b → Sits row (o + j) u
sits-in {row} {b} {o} j u s e h = record {
  there = sym (part-part row o (length b) j (length u) h) ∙ ap (λ (l : List ℕ). part l j (length u)) s.there ∙ e;
  room = omega (arith, s.room);
}

-- what may be found for a path in contents c of type t, which the row holds
pub data Finds (row : List ℕ) : List ℕ → Ty → Cell → Seen → Type 0 where
  here : {t : Ty} {c : Cell} {s : Seat} {o : ℕ} {u : List ℕ} → Lays t c u → length u < 2 ^ 32 → Sits row o u → Finds row [] t c (seen s o u)
  past : {i : ℕ} {p : List ℕ} {t : Ty} {c : Cell} → length (parts c) ≤ i → Finds row (i ∷ p) t c (bad (numbered 5))
  missing : {i : ℕ} {t : Ty} {c : Cell} {s : Seat} → i < length (parts c) → flag (part_of i c) ≡ 1 → Finds row (i ∷ []) t c (null_at s)
  under : {i j : ℕ} {p : List ℕ} {t : Ty} {c : Cell} → i < length (parts c) → flag (part_of i c) ≡ 1 → Finds row (i ∷ j ∷ p) t c (bad (numbered 6))
  on : {i : ℕ} {p : List ℕ} {t : Ty} {c : Cell} {r : Seen} → i < length (parts c) → flag (part_of i c) ≡ 0 → Finds row p (child_ty t i) (part_of i c) r
      → Finds row (i ∷ p) t c r

-- what a walk does of its path after a step
abbrev Walks : List ℕ → List ℕ → Type 0
Walks row p = (t : Ty) (c : Cell) (s : Seat) (o : ℕ) (b : List ℕ) → Lays t c b → length b < 2 ^ 32 → Sits row o b → Finds row p t c (walk p t s o b)

null-finds : (row : List ℕ) (i : ℕ) (p : List ℕ) (t : Ty) (c : Cell) (s : Seat) → i < length (parts c) → flag (part_of i c) ≡ 1
    → Finds row (i ∷ p) t c (go_on p (λ t s o b. walk p t s o b) (to_null s))
unfolding go_on
null-finds row i [] t c s k f = missing k f
null-finds row i (j ∷ p) t c s k f = under k f

step-finds : (row : List ℕ) (i : ℕ) (p : List ℕ) (t : Ty) (c : Cell) (o : ℕ) (b : List ℕ) (r : Step) → length b < 2 ^ 32 → Sits row o b → Walks row p
    → Comes t (child_ty t i) c i o b r
    → Finds row (i ∷ p) t c (go_on p (λ t s o b. walk p t s o b) r)
unfolding go_on
step-finds row i p t c o b r lim st w (Stepped.past h) = past h
step-finds row i p t c o b r lim st w (Stepped.missing {s = s} k f q) = null-finds row i p t c s k f
step-finds row i p t c o b r lim st w (Stepped.on {s = s} {j = j} {u = u} k f h q) =
    on k f (w (child_ty t i) (part_of i c) s (o + j) u h.lays (omega (arith, h.room)) (sits-in j u st h.there h.room))

pub walk-finds : (row : List ℕ) (p : List ℕ) → Walks row p
unfolding walk
walk-finds row [] t c s o b y lim st = rw (own-holds t c s o b (seen s o b) y lim) (here y lim st)
walk-finds row (i ∷ p) t c s o b y lim st =
    rw (own-holds t c s o b (go_on p (λ t s o b. walk p t s o b) (step_in t i s o b)) y lim)
    (step-finds row i p t c o b (step_in t i s o b) lim st (λ t c s o b y l q. walk-finds row p t c s o b y l q) (comes t c i s o b y lim))
