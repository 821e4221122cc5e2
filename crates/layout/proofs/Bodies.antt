-- A body with one child changed: in its bit and slot, in its slot alone, or in the bytes of its range. Assumes nothing.
use mathlib.Core.Path.{◌≡◌, refl, sym, ap, ◌∙◌}
use mathlib.Core.Bool.{Bool}
use mathlib.Core.List.{List, [], ◌∷◌, ◌++◌, append_assoc}
use Prim.Native.Nat.{ℕ, suc, ◌+◌, ◌*◌, ◌-◌, ◌/◌, ◌%◌, ◌^◌, ◌≤◌, ◌<◌}
use native.Mathlib.Nat.{mul-le-mul_right, add-suc, add-zero}
use native.Mathlib.Omega.{arith}
use lib.ListN.{length, get_or, set, drop, length-append, length-drop, get_or-append}
use lib.Seq.{sets, length-sets, take_at, take-append-le, drop-append-le, drop-append-add, drop-set-add, get_or-append-add}
use Rattle.words.specs.Bytes.{le, num, zeros, fill, pad, padded, bitmap, part}
use Rattle.words.specs.Bits.{with_bit, put_bit}
use Rattle.words.proofs.Numbers.{length-le, num-le, length-padded}
use Rattle.words.proofs.Runs.{sets_behind, sets-ahead, sets_over, sets_same}
use Rattle.layout.specs.Tiles.{Range, range}
use Rattle.layout.specs.Cells.{Cell, flag}
use Rattle.layout.specs.Layout.{Codec, Kid, Placed, kid_lays, flags, AllLay, front, BodyLays}
use Rattle.layout.proofs.Tiles.{apart-turn, Standing, stands-within, stands-apart, Among}
use Rattle.layout.proofs.Kids.{Kept}
use Rattle.layout.proofs.Children.{AllLawful, all-length, flags-fit}
use Rattle.layout.proofs.Containers.{body-take, body-fit}
use Rattle.layout.proofs.Steps.{kid_at}
use Rattle.layout.proofs.Bitmaps.{cell_at, flag_at, flags-same, nulled, bits-set}
use Rattle.layout.proofs.Spot.{Safe, added, Spot, spot, kept-apart, among-within}

-- ---- runs in joined lists

put-ahead : (xs ys : List ℕ) (i : ℕ) (v : Bool) → i / 8 < length xs → put_bit (xs ++ ys) 0 i v ≡ put_bit xs 0 i v ++ ys
put-ahead xs ys i v h =
    let z : 0 + i / 8 ≡ i / 8 = omega arith in
    rw (z, get_or-append xs ys 0 (i / 8) h) (sets-ahead xs ys (i / 8) (with_bit (get_or xs (i / 8) 0) (i % 8) v ∷ []) (omega arith))

pub put-behind : (xs ys : List ℕ) (at i : ℕ) (v : Bool) → put_bit (xs ++ ys) (length xs + at) i v ≡ xs ++ put_bit ys at i v
put-behind xs ys at i v =
    let e : length xs + at + i / 8 ≡ length xs + (at + i / 8) = omega arith in
    rw (e, get_or-append-add xs ys (at + i / 8) 0) (sets_behind xs ys (at + i / 8) (with_bit (get_or ys (at + i / 8) 0) (i % 8) v ∷ []))

drop-sets : (n : ℕ) (l : List ℕ) (i : ℕ) (v : List ℕ) → drop n (sets l (n + i) v) ≡ sets (drop n l) i v
drop-sets n l i [] = refl
drop-sets n l i (a ∷ v) = ap (λ (k : ℕ). drop n (sets (set l (n + i) a) k v)) (sym (add-suc n i)) ∙ drop-sets n (set l (n + i) a) (suc i) v
    ∙ ap (λ (t : List ℕ). sets t (suc i) v) (drop-set-add n l i a)

padded-sets : (u : List ℕ) (i : ℕ) (v : List ℕ) → i + length v ≤ length u → padded (sets u i v) ≡ sets (padded u) i v
unfolding fill
padded-sets u i v h = rw (length-sets u i v) (sym (sets-ahead u _ i v h))

-- v bytes at j in the middle of three regions
pub in-middle : (xs s z zs : List ℕ) (j v : ℕ) → j + v ≤ length s → part (xs ++ ((s ++ z) ++ zs)) (length xs + j) v ≡ part s j v
in-middle xs s z zs j v h =
    let e : v ≤ length (drop j s) = rw length-drop (omega arith) in
    rw (drop-append-add xs ((s ++ z) ++ zs) j, append_assoc, drop-append-le j s (z ++ zs) (omega arith), take-append-le v (drop j s) (z ++ zs) e)

pub in-last : (xs ys zs : List ℕ) (j : ℕ) → drop (length xs + length ys + j) (xs ++ (ys ++ zs)) ≡ drop j zs
in-last xs ys zs j = rw (← (append_assoc xs ys zs), ← (length-append xs ys)) (drop-append-add (xs ++ ys) zs j)

sets-third : (xs ys zs : List ℕ) (j : ℕ) (v : List ℕ) → sets (xs ++ (ys ++ zs)) (length xs + length ys + j) v ≡ xs ++ (ys ++ sets zs j v)
sets-third xs ys zs j v =
    let e : length xs + length ys + j ≡ length xs + (length ys + j) = omega arith in
    rw e (sets_behind xs (ys ++ zs) (length ys + j) v ∙ ap (λ (t : List ℕ). xs ++ t) (sets_behind ys zs j v))

-- ---- a value put over another of the same size, in its range

module _ (c : Codec) (at : ℕ) (d : List ℕ) (before after : List Range) (x₀ : Cell) (s : List ℕ) (y : Placed c.Lays at d before x₀ s after)
    (g : Standing at (at + length d) before) where
  abbrev changed : List ℕ → List ℕ
  changed u = sets d (y.place - at) u

  pub outside-lays : (x : Cell) (u : List ℕ) → c.Lays x u → length u ≡ length y.own → Placed c.Lays at (changed u) before x s after
  unfolding fill
  outside-lays x u l n =
      let o = y.place in
      let j = o - at in
      let z = zeros (pad (length y.own) - length y.own) in
      let a : drop j (changed u) ≡ u ++ (z ++ y.behind) =
      ap (λ (k : ℕ). drop j (sets d k u)) (sym (add-zero j)) ∙ drop-sets j d 0 u
      ∙ ap (λ (t : List ℕ). sets t 0 u) (sym y.there ∙ append_assoc y.own z y.behind) ∙ sets_over y.own u (z ++ y.behind) n in
      record {
        place = o;
        own = u;
        behind = y.behind;
        lays = l;
        slot = rw n y.slot;
        stands = rw (n, length-sets d j u) y.stands;
        there = rw (n, append_assoc) (sym a);
        more = rw n y.more;
      }

  abbrev own_range : Range
  own_range = range y.place (pad (length y.own))

  module _ (u : List ℕ) (n : length u ≡ length y.own) where
    pub outside_kept : (q : Range) → Among q before → Kept at d (changed u) q
    outside_kept q m = kept-apart at d own_range q (y.place - at) u (stands-within y.stands) (omega arith) (omega arith)
        (among-within m at (at + length d) g) (apart-turn own_range q (stands-apart y.stands g m))

    pub outside-safe : Safe at d (changed u) after
    outside-safe q qs i gs st =
        kept-apart at d own_range q (y.place - at) u (stands-within y.stands) (omega arith) (omega arith) (stands-within st)
        (stands-apart st gs (i own_range (added own_range before after y.more)))

-- ---- a body

module _ (h w : ℕ) (ks : List Kid) (cs : List Cell) (r : List ℕ) (l : AllLawful w ks) (y : BodyLays h w ks cs r) (i : ℕ) (k : i < length cs) where
  abbrev pub spot_in : Spot w (front h w (length ks)) y.variable ks cs y.slots [] y.ranges i
  spot_in = spot w (front h w (length ks)) y.variable ks cs y.slots [] y.ranges i l y.children tt k

  pub count-in : length cs ≡ length ks
  count-in = all-length w ks cs (body-fit h w ks l cs r y)

  slots-in : length y.slots ≡ length ks * w
  slots-in = (body-take h w ks l cs r y).slots

  padded-in : length (padded y.slots) ≡ pad (length ks * w)
  padded-in = length-padded y.slots ∙ ap pad slots-in

  pub fit-in : i * w + w ≤ length ks * w
  fit-in = omega (arith, mul-le-mul_right {m = suc i} {n = length ks} w (omega (arith, count-in)))

  bits_in : i / 8 < bitmap (length ks)
  bits_in = omega (arith, count-in)

  pub slot-in : part r (bitmap (length ks) + i * w) w ≡ spot_in.slot
  unfolding fill
  slot-in =
      let n = length ks in
      let s = y.slots in
      let m = le (bitmap n) (flags cs) in
      rw (← y.whole) (rw (length-le (bitmap n) (flags cs)) at
      (in-middle m s (zeros (pad (length s) - length s)) y.variable (i * w) w (omega (arith, fit-in, slots-in)))) ∙ spot_in.found

  pub flag-in : num (part r 0 (bitmap (length ks))) / 2 ^ i % 2 ≡ flag (cell_at cs i)
  flag-in =
      let n = length ks in
      let m = le (bitmap n) (flags cs) in
      let t : part r 0 (bitmap n) ≡ m = rw (← y.whole) (take_at m _ (bitmap n) (length-le (bitmap n) (flags cs))) in
      rw (t, num-le (bitmap n) (flags cs) (rw count-in at (flags-fit cs))) (flag_at cs i)

  -- what stands at j in the variable data
  pub variable-in : (j : ℕ) → drop (bitmap (length ks) + pad (length ks * w) + j) r ≡ drop j y.variable
  variable-in j = rw (length-le (bitmap (length ks)) (flags cs), padded-in, y.whole) at
      (in-last (le (bitmap (length ks)) (flags cs)) (padded y.slots) y.variable j)

  -- the child's slot changes, in the same data
  module _ (x : Cell) (v : List ℕ) (n : length v ≡ w) (z : kid_lays w (kid_at ks i) (front h w (length ks)) y.variable spot_in.before x v
      spot_in.after) where
    children-slot : AllLay w (front h w (length ks)) y.variable ks (set cs i x) (sets y.slots (i * w) v) [] y.ranges
    children-slot = spot_in.put y.variable x v refl (λ q m u t e f. (t, f)) (λ q qs j g st u t e f. (t, f)) n z

    slots-put : (m : List ℕ) → length m ≡ bitmap (length ks) → sets (m ++ (padded y.slots ++ y.variable)) (bitmap (length ks) + i * w) v ≡ m ++
        (padded (sets y.slots (i * w) v) ++ y.variable)
    slots-put m e =
        let s = y.slots in
        let a : i * w + length v ≤ length s = omega (arith, fit-in, slots-in) in
        let b : i * w + length v ≤ length (padded s) = omega (arith, fit-in, padded-in) in
        rw (← e) (sets_behind m (padded s ++ y.variable) (i * w) v ∙ ap (λ (t : List ℕ). m ++ t)
        (sets-ahead (padded s) y.variable (i * w) v b ∙ rw (padded-sets s (i * w) v a)))

    pub body-slot : BodyLays h w ks (set cs i x) (sets (put_bit r 0 i (nulled x)) (bitmap (length ks) + i * w) v)
    body-slot =
        let b = bitmap (length ks) in
        let m = le b (flags cs) in
        let m' = le b (flags (set cs i x)) in
        let p : put_bit r 0 i (nulled x) ≡ m' ++ (padded y.slots ++ y.variable) =
        rw (← y.whole) (put-ahead m (padded y.slots ++ y.variable) i (nulled x) (rw length-le bits_in)
        ∙ ap (λ (t : List ℕ). t ++ (padded y.slots ++ y.variable)) (sym (bits-set b cs x i k (omega (arith, count-in))))) in
        record {
          slots = sets y.slots (i * w) v;
          variable = y.variable;
          ranges = y.ranges;
          whole = rw p (sym (slots-put m' (length-le b (flags (set cs i x)))));
          children = children-slot;
          ends = y.ends;
        }

    -- and its flag stays
    pub body-slot-alone : flag x ≡ flag (cell_at cs i) → BodyLays h w ks (set cs i x) (sets r (bitmap (length ks) + i * w) v)
    body-slot-alone f =
        let b = bitmap (length ks) in
        record {
          slots = sets y.slots (i * w) v;
          variable = y.variable;
          ranges = y.ranges;
          whole = rw (flags-same cs i x f) (sym (rw y.whole at (slots-put (le b (flags cs)) (length-le b (flags cs)))));
          children = children-slot;
          ends = y.ends;
        }

  -- the child's data changes in its range, and its slot and flag stay
  pub body-data : (x : Cell) (j : ℕ) (u : List ℕ) → flag x ≡ flag (cell_at cs i)
      → ((q : Range) → Among q spot_in.before → Kept (front h w (length ks)) y.variable (sets y.variable j u) q)
      → Safe (front h w (length ks)) y.variable (sets y.variable j u) spot_in.after → length spot_in.slot ≡ w
      → kid_lays w (kid_at ks i) (front h w (length ks)) (sets y.variable j u) spot_in.before x spot_in.slot spot_in.after
      → BodyLays h w ks (set cs i x) (sets r (bitmap (length ks) + pad (length ks * w) + j) u)
  body-data x j u f kept safe n z =
      let b = bitmap (length ks) in
      let m = le b (flags cs) in
      let d = y.variable in
      let o : sets y.slots (i * w) spot_in.slot ≡ y.slots = ap (sets y.slots (i * w)) (sym spot_in.found)
      ∙ sets_same y.slots (i * w) w (omega (arith, fit-in, slots-in)) in
      let e : sets r (b + pad (length ks * w) + j) u ≡ m ++ (padded y.slots ++ sets d j u) = rw (length-le b (flags cs), padded-in, y.whole) at
      (sets-third m (padded y.slots) d j u) in
      record {
        slots = y.slots;
        variable = sets d j u;
        ranges = y.ranges;
        whole = rw (flags-same cs i x f) (sym e);
        children = rw o at (spot_in.put (sets d j u) x spot_in.slot (length-sets d j u) kept safe n z);
        ends = rw length-sets y.ends;
      }
