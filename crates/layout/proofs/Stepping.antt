-- One step of the walk into bytes that stand for contents, laid out as a body: it comes to the child that the contents hold there. Assumes
-- nothing.
use mathlib.Core.Path.{◌≡◌, refl, sym, ap, ◌∙◌, subst}
use mathlib.Core.Logic.{◌≢◌, ◌⊎◌, inl, inr}
use mathlib.Core.Option.{Option, none, some, none-ne-some}
use mathlib.Core.List.{List, [], ◌∷◌, ◌++◌}
use Prim.Native.Nat.{ℕ, zero, suc, ◌+◌, ◌*◌, ◌-◌, ◌/◌, ◌%◌, ◌^◌, ◌≤◌, ◌<◌}
use native.Mathlib.Nat.{mul-le-mul_right}
use native.Mathlib.Omega.{arith}
use native.Mathlib.Decide.{dec_le, dec_lt, ℕ_discrete}
use lib.ListN.{length, get_or, set, take, drop, length-append, length-replicate, length-set}
use lib.Seq.{get_or-set_other, sets, length-sets, take-take, drop_at, drop-append-add}
use Rattle.words.specs.Bytes.{le, num, zeros, fill, pad, padded, bitmap, part}
use Rattle.words.specs.Bits.{with_bit, put_bit}
use Rattle.words.proofs.Numbers.{bytes-zeros, take-filled}
use Rattle.words.proofs.Runs.{sets_behind, part-sets, part_apart}
use Rattle.words.proofs.BitLaws.{length-put}
use Rattle.schema.specs.Types.{Fixed, Ty, fix}
use Rattle.layout.specs.Tiles.{Range, range, Apart}
use Rattle.layout.specs.Cells.{Cell, null, leaf, node, on_null, flag, parts, part_of}
use Rattle.layout.specs.Layout.{Kid, number, inside, Placed, outside, kid_of, kid, kid_lays, front, BodyLays, codec, Lays}
use Rattle.layout.specs.Refusals.{numbered, broken_at}
use Rattle.layout.specs.Walk.{Seat, into, must_step, by_flag, by_slot, seat_of, child, step_in}
use Rattle.layout.proofs.Cells.{flag-bit}
use Rattle.layout.proofs.Tiles.{apart-turn, stands-within, stands-apart}
use Rattle.layout.proofs.Kids.{LawfulKid, Sized}
use Rattle.layout.proofs.Children.{AllLawful, all-length, kid-size}
use Rattle.layout.proofs.Containers.{body-total, body-fit, codec-lawful}
use Rattle.layout.proofs.Steps.{kid_at}
use Rattle.layout.proofs.Bitmaps.{nulled}
use Rattle.layout.proofs.Spot.{Spot, spot-order, added}
use Rattle.layout.proofs.Aside.{Holds, Aside, Agree, child-same}
use Rattle.layout.proofs.Bodies.{put-behind, outside-lays, outside_kept, outside-safe, spot_in, count-in, fit-in, slot-in, flag-in, variable-in}
use Rattle.layout.proofs.Bodies.{body-slot, body-slot-alone, body-data}
use Rattle.layout.proofs.Stepped.{FixedSlot, Seated, Into, Comes, past, missing, on}
use Rattle.layout.proofs.Slotted.{must-step, inside-given, outside-given, outside-made, null-same, take_own, FixedIn, fixed_in, SlotSays}
use Rattle.layout.proofs.Slotted.{slot-says}

-- the children of a body b, with its header hs; F has their types
module _ (F : ℕ → Ty) (c : Cell) (hs r b : List ℕ) (h w : ℕ) (ks : List Kid) (e : hs ++ r ≡ b) (eh : length hs ≡ h) (l : AllLawful w ks)
    (hF : (j : ℕ) → Holds w (codec (F j)).wide)
    (y : BodyLays h w ks (parts c) r) (lim : length b < 2 ^ 32) (kF : (j : ℕ) → j < length (parts c) → kid_at ks j ≡ kid w (codec (F j))) where
  abbrev n : ℕ
  n = length ks

  abbrev at : ℕ
  at = front h w n

  size-b : length b ≡ h + length r
  size-b = rw (← e, length-append, eh)

  drop-b : (j : ℕ) → drop (h + j) b ≡ drop j r
  drop-b j = rw (← e) (rw eh at (drop-append-add hs r j))

  sets-b : (j : ℕ) (v : List ℕ) → sets b (h + j) v ≡ hs ++ sets r j v
  sets-b j v = rw (← e) (rw eh at (sets_behind hs r j v))

  room-b : h + length r ≡ at + length y.variable
  room-b = body-total h w ks l (parts c) r y

  slot-of : (j : ℕ) (kj : j < length (parts c)) → part b (h + (bitmap n + j * w)) w ≡ (spot_in h w ks (parts c) r l y j kj).slot
  slot-of j kj = rw (drop-b (bitmap n + j * w)) (slot-in h w ks (parts c) r l y j kj)

  flag-of : (j : ℕ) (kj : j < length (parts c)) → num (part b h (bitmap n)) / 2 ^ j % 2 ≡ flag (part_of j c)
  flag-of j kj = let d : drop h b ≡ r = rw (← e) (drop_at hs r h eh) in rw d (flag-in h w ks (parts c) r l y j kj)

  counted : length (parts c) ≡ n
  counted = all-length w ks (parts c) (body-fit h w ks l (parts c) r y)

  -- a child whose value stands in the data, as its slot says
  module _ (j : ℕ) (kj : j < length (parts c)) (zj : flag (part_of j c) ≡ 0) (nj : (codec (F j)).wide ≡ none) where
    abbrev spot_at : Spot w at y.variable ks (parts c) y.slots [] y.ranges j
    spot_at = spot_in h w ks (parts c) r l y j kj

    pub placed_of : Placed (codec (F j)).Lays at y.variable spot_at.before (part_of j c) spot_at.slot spot_at.after
    unfolding kid_of
    placed_of =
        let a : kid_lays w (kid_of w (codec (F j)).wide (codec (F j))) at y.variable spot_at.before (part_of j c) spot_at.slot spot_at.after = rw
        (kF j kj) at spot_at.lays in
        let g : kid_lays w (outside (codec (F j))) at y.variable spot_at.before (part_of j c) spot_at.slot spot_at.after =
        subst (λ (o : Option ℕ). kid_lays w (kid_of w o (codec (F j))) at y.variable spot_at.before (part_of j c) spot_at.slot spot_at.after) nj a in
        outside-given w (codec (F j)) at y.variable spot_at.before spot_at.after (part_of j c) spot_at.slot g zj

    slot-eight : part b (h + (bitmap n + j * w)) 8 ≡ spot_at.slot
    slot-eight = let w8 : w ≡ 8 = subst (Holds w) nj (hF j) in ap (part b (h + (bitmap n + j * w))) (sym w8) ∙ slot-of j kj

    says_of : SlotSays placed_of.place placed_of.own (part b (h + (bitmap n + j * w)) 8)
    says_of = rw slot-eight (slot-says (codec (F j)) at y.variable spot_at.before spot_at.after (part_of j c) spot_at.slot placed_of
        (omega (arith, size-b, room-b)))

    -- a step to it, in bytes b' that have its bit and slot too: v is what stands there in its place
    pub there-of : (b' v : List ℕ) → length b' ≡ length b → part b' h (bitmap n) ≡ part b h (bitmap n)
        → part b' (h + (bitmap n + j * w)) 8 ≡ part b (h + (bitmap n + j * w)) 8
        → part b' placed_of.place (length placed_of.own) ≡ v → (o : ℕ) → child h w n (F j) j o b' ≡ into (F j) (seat_of h w n j o) (o + placed_of.place) v
    unfolding child by_flag by_slot
    there-of b' v len bits slot own o =
        let st = stands-within placed_of.stands in
        let hi = st.high in
        must-step (dec_lt j n) (numbered 5) _ (omega (arith, counted))
        ∙ rw (bits, flag-of j kj, zj, nj, slot, says_of.offset, says_of.size, own)
        (must-step (dec_le at placed_of.place) _ _ st.low
        ∙ must-step (ℕ_discrete (placed_of.place % 8) 0) _ _ placed_of.stands.eight
        ∙ must-step (dec_le (placed_of.place + length placed_of.own) (length b')) _ _ (omega (arith, len, size-b, room-b)))

    -- it lies in b, behind the fixed part
    low_of : at ≤ placed_of.place
    low_of = (stands-within placed_of.stands).low

    pub high-of : placed_of.place + pad (length placed_of.own) ≤ length b
    high-of = omega (arith, (stands-within placed_of.stands).high, size-b, room-b)

    -- its bytes
    pub own_of : part b placed_of.place (length placed_of.own) ≡ placed_of.own
    own_of =
        let pl = placed_of in
        let pe : pl.place ≡ h + (bitmap n + pad (n * w) + (pl.place - at)) = omega (arith, low_of) in
        let dr : drop pl.place b ≡ padded pl.own ++ pl.behind =
        ap (λ (j : ℕ). drop j b) pe ∙ drop-b (bitmap n + pad (n * w) + (pl.place - at)) ∙ variable-in h w ks (parts c) r l y j kj (pl.place - at)
        ∙ sym pl.there in
        ap (take (length pl.own)) dr ∙ take_own pl.own pl.behind

  -- two of them are apart
  module _ (a d : ℕ) (ka : a < length (parts c)) (kd : d < length (parts c)) (za : flag (part_of a c) ≡ 0) (zd : flag (part_of d c) ≡ 0)
      (na : (codec (F a)).wide ≡ none) (nd : (codec (F d)).wide ≡ none) where
    abbrev ra : Range
    ra = range (placed_of a ka za na).place (pad (length (placed_of a ka za na).own))

    abbrev rd : Range
    rd = range (placed_of d kd zd nd).place (pad (length (placed_of d kd zd nd).own))

    later-apart : a < d → Apart rd ra
    later-apart lt =
        stands-apart (placed_of d kd zd nd).stands (spot_in h w ks (parts c) r l y d kd).standing
        (spot-order w at y.variable ks (parts c) y.slots [] y.ranges a d l y.children tt ka kd lt ra
        (added ra (spot_in h w ks (parts c) r l y a ka).before (spot_in h w ks (parts c) r l y a ka).after (placed_of a ka za na).more))

  both-apart : (a d : ℕ) (ka : a < length (parts c)) (kd : d < length (parts c)) (za : flag (part_of a c) ≡ 0) (zd : flag (part_of d c) ≡ 0)
      (na : (codec (F a)).wide ≡ none) (nd : (codec (F d)).wide ≡ none)
      → a ≢ d → Dec (a < d) → Apart (rd a d ka kd za zd na nd) (ra a d ka kd za zd na nd)
  both-apart a d ka kd za zd na nd ne (yes lt) = later-apart a d ka kd za zd na nd lt
  both-apart a d ka kd za zd na nd ne (no ge) = apart-turn _ _ (later-apart d a kd ka zd za nd na (omega arith))

  module _ (T : Ty) (i o : ℕ) (lk : LawfulKid w (kid w (codec (F i))))
      (wrap : (cs : List Cell) (r' : List ℕ) → length cs ≡ length (parts c) → length r' ≡ length r → BodyLays h w ks cs r' → Lays T (node cs) (hs ++ r'))
      (steps : (r' : List ℕ) (j : ℕ) (z : Seat) (o : ℕ) → step_in T j z o (hs ++ r') ≡ child h w (length ks) (F j) j o (hs ++ r')) where
    abbrev t : Ty
    t = F i

    abbrev hw : Holds w (codec t).wide
    hw = hF i

    abbrev kt : i < length (parts c) → kid_at ks i ≡ kid w (codec t)
    kt = kF i

    module _ (k : i < length (parts c)) where
      abbrev sp : Spot w at y.variable ks (parts c) y.slots [] y.ranges i
      sp = spot_in h w ks (parts c) r l y i k

      slot-b : part b (h + (bitmap n + i * w)) w ≡ sp.slot
      slot-b = slot-of i k

      lays-b : kid_lays w (kid w (codec t)) at y.variable sp.before (part_of i c) sp.slot sp.after
      lays-b = rw (kt k) at sp.lays

      -- its bit and slot, or its slot alone
      seat-slot : (x : Cell) (v : List ℕ) → length v ≡ w → kid_lays w (kid w (codec t)) at y.variable sp.before x v sp.after
          → Lays T (node (set (parts c) i x)) (sets (put_bit b h i (nulled x)) (h + (bitmap n + i * w)) v)
      seat-slot x v m z =
          let r' = sets (put_bit r 0 i (nulled x)) (bitmap n + i * w) v in
          let p : put_bit b h i (nulled x) ≡ hs ++ put_bit r 0 i (nulled x) =
          rw (← e) (ap (λ (q : ℕ). put_bit (hs ++ r) q i (nulled x)) (sym (omega (arith, eh))) ∙ put-behind hs r 0 i (nulled x)) in
          let q : sets (put_bit b h i (nulled x)) (h + (bitmap n + i * w)) v ≡ hs ++ r' = rw (p, ← eh)
          (sets_behind hs (put_bit r 0 i (nulled x)) (bitmap n + i * w) v) in
          rw q (wrap (set (parts c) i x) r' (length-set (parts c) i x)
          (length-sets (put_bit r 0 i (nulled x)) (bitmap n + i * w) v ∙ length-put r 0 i (nulled x))
          (body-slot h w ks (parts c) r l y i k x v m (rw (kt k) z)))

      seat-alone : (x : Cell) (v : List ℕ) → length v ≡ w → flag x ≡ flag (part_of i c)
          → kid_lays w (kid w (codec t)) at y.variable sp.before x v sp.after
          → Lays T (node (set (parts c) i x)) (sets b (h + (bitmap n + i * w)) v)
      seat-alone x v m f z =
          rw (sets-b (bitmap n + i * w) v) (wrap (set (parts c) i x) (sets r (bitmap n + i * w) v) (length-set (parts c) i x)
          (length-sets r (bitmap n + i * w) v)
          (body-slot-alone h w ks (parts c) r l y i k x v m (rw (kt k) z) f))

      -- ---- the other children

      aside-by : (b' r' : List ℕ) → b' ≡ hs ++ r' → ((j : ℕ) → j ≢ i → j < length (parts c) → Agree h w n (F j) j b b') → Aside T i b b'
      aside-by b' r' q a j ne z o' =
          ap (step_in T j z o') q ∙ steps r' j z o' ∙ ap (child h w n (F j) j o') (sym q)
          ∙ child-same h w n (F j) j b b' o' (hF j) (λ kj. a j ne (omega (arith, counted)))
          ∙ sym (ap (step_in T j z o') (sym e) ∙ steps r j z o' ∙ ap (child h w n (F j) j o') e)

      slots_apart : (j : ℕ) → j ≢ i → Dec (j < i) → (h + (bitmap n + j * w) + w ≤ h + (bitmap n + i * w)) ⊎
          (h + (bitmap n + i * w) + w ≤ h + (bitmap n + j * w))
      slots_apart j ne (yes lt) = inl (omega (arith, mul-le-mul_right {m = suc j} {n = i} w lt))
      slots_apart j ne (no ge) = inr (omega (arith, mul-le-mul_right {m = suc i} {n = j} w (omega arith)))

      -- bytes behind the bitmap that are not this child's slot stay
      abbrev Stay : List ℕ → Type 0
      Stay b' = (a q : ℕ) → h + bitmap n ≤ a → a + q ≤ length b → (a + q ≤ h + (bitmap n + i * w)) ⊎ (h + (bitmap n + i * w) + w ≤ a) → part b' a q ≡ part b a q

      agree-slot : (b' : List ℕ) → length b' ≡ length b → ((j : ℕ) → j ≢ i → j < length (parts c)
          → num (part b' h (bitmap n)) / 2 ^ j % 2 ≡ num (part b h (bitmap n)) / 2 ^ j % 2)
          → Stay b' → (j : ℕ) → j ≢ i → j < length (parts c) → Agree h w n (F j) j b b'
      agree-slot b' len bit stay j ne kj = record {
        size = len;
        bit = bit j ne kj;
        slot = stay (h + (bitmap n + j * w)) w (omega arith) (omega (arith, size-b, room-b, fit-in h w ks (parts c) r l y j kj)) (slots_apart j ne (dec_lt j i));
        value = λ z q.
            let f : flag (part_of j c) ≡ 0 = sym (flag-of j kj) ∙ z in
            let s = says_of j kj f q in
            rw (s.offset, s.size) (stay (placed_of j kj f q).place (length (placed_of j kj f q).own) (omega (arith, low_of j kj f q))
            (omega (arith, high-of j kj f q))
            (inr (omega (arith, low_of j kj f q, fit-in h w ks (parts c) r l y i k))));
      }

      slot-fits : h + (bitmap n + i * w) + w ≤ length b
      slot-fits = omega (arith, size-b, room-b, fit-in h w ks (parts c) r l y i k)

      aside-slot : (x : Cell) (v : List ℕ) → length v ≡ w → kid_lays w (kid w (codec t)) at y.variable sp.before x v sp.after
          → Aside T i b (sets (put_bit b h i (nulled x)) (h + (bitmap n + i * w)) v)
      aside-slot x v m z =
          let g = put_bit b h i (nulled x) in
          let b' = sets g (h + (bitmap n + i * w)) v in
          let r' = sets (put_bit r 0 i (nulled x)) (bitmap n + i * w) v in
          let lg : length g ≡ length b = length-put b h i (nulled x) in
          let p : g ≡ hs ++ put_bit r 0 i (nulled x) =
          rw (← e) (ap (λ (q : ℕ). put_bit (hs ++ r) q i (nulled x)) (sym (omega (arith, eh))) ∙ put-behind hs r 0 i (nulled x)) in
          let q : b' ≡ hs ++ r' = rw (p, ← eh) (sets_behind hs (put_bit r 0 i (nulled x)) (bitmap n + i * w) v) in
          let y' = body-slot h w ks (parts c) r l y i k x v m (rw (kt k) z) in
          let len : length b' ≡ length b = length-sets g (h + (bitmap n + i * w)) v ∙ lg in
          let bits : (j : ℕ) → j ≢ i → j < length (parts c) → num (part b' h (bitmap n)) / 2 ^ j % 2 ≡ num (part b h (bitmap n)) / 2 ^ j % 2 = λ j ne kj.
          let d : drop h b' ≡ r' = rw q (drop_at hs r' h eh) in
          rw d (flag-in h w ks (set (parts c) i x) r' l y' j (rw length-set kj)) ∙ ap (λ (z : Cell). flag z) (get_or-set_other (parts c) i j x (leaf []) ne)
          ∙ sym (flag-of j kj) in
          aside-by b' r' q (agree-slot b' len bits λ a s lo hi ap.
          part_apart g (h + (bitmap n + i * w)) v (omega (arith, slot-fits)) a s (rw m ap) (omega arith)
          ∙ part_apart b (h + i / 8) (with_bit (get_or b (h + i / 8) 0) (i % 8) (nulled x) ∷ [])
          (omega (arith, slot-fits, count-in h w ks (parts c) r l y i k)) a s (inr (omega (arith, count-in h w ks (parts c) r l y i k))) hi)

      aside-alone : (v : List ℕ) → length v ≡ w → Aside T i b (sets b (h + (bitmap n + i * w)) v)
      aside-alone v m =
          let b' = sets b (h + (bitmap n + i * w)) v in
          let fits : h + (bitmap n + i * w) + length v ≤ length b = omega (arith, slot-fits) in
          let bits : part b' h (bitmap n) ≡ part b h (bitmap n) = part_apart b (h + (bitmap n + i * w)) v fits h (bitmap n) (inl (omega arith))
          (omega (arith, slot-fits)) in
          aside-by b' (sets r (bitmap n + i * w) v) (sets-b (bitmap n + i * w) v)
          (agree-slot b' (length-sets b (h + (bitmap n + i * w)) v) (λ j ne kj. rw bits) λ a s lo hi ap. part_apart b (h + (bitmap n + i * w)) v fits a s
          (rw m ap) hi)

      flag-part : flag (part_of i c) < 2
      flag-part = flag-bit (part_of i c)

      fixed-here : (f : Fixed) → t ≡ fix f → (x : Cell) (v : List ℕ) → FixedSlot w f x v → FixedIn t w at y.variable sp.before sp.after x v
      fixed-here f ft x v fs =
          subst (λ (t : Ty). LawfulKid w (kid w (codec t)) → kid_lays w (kid w (codec t)) at y.variable sp.before (part_of i c) sp.slot sp.after
          → FixedIn t w at y.variable sp.before sp.after x v) (sym ft)
          (λ lk z. fixed_in f w at y.variable sp.before sp.after (part_of i c) sp.slot x v lk z fs) lk lays-b

      seated : Seated T t c i o b (seat_of h w n i o)
      unfolding on_null
      seated = record {
        bits₀ = h;
        slot₀ = h + (bitmap n + i * w);
        bits = refl;
        number = refl;
        slot = refl;
        bit-room = omega (arith, size-b, room-b, count-in h w ks (parts c) r l y i k);
        slot-room = omega (arith, size-b, room-b, fit-in h w ks (parts c) r l y i k);
        long = λ f ft x v fs. (fixed-here f ft x v fs).wide;
        fixed = λ f ft x v fs. let g = fixed-here f ft x v fs in seat-slot x v g.wide g.lays;
        emptied = λ _ f. seat-alone (null (zeros w)) (zeros w) (length-replicate w 0) (sym f)
            (record {
              fits = record { wide = length-replicate w 0; proper = bytes-zeros w };
              is = refl;
              same = null-same w (kid w (codec t)) at
                  y.variable sp.before sp.after (part_of i c) sp.slot lays-b f;
            });
        fixed-aside = λ f ft x v fs. let g = fixed-here f ft x v fs in aside-slot x v g.wide g.lays;
        emptied-aside = λ _ f. aside-alone (zeros w) (length-replicate w 0);
      }

      -- the child as one of the width that its type has
      as_wide : (wd : Option ℕ) → (codec t).wide ≡ wd → kid_lays w (kid_of w wd (codec t)) at y.variable sp.before (part_of i c) sp.slot sp.after
      as_wide wd q = subst (λ (o : Option ℕ). kid_lays w (kid_of w o (codec t)) at y.variable sp.before (part_of i c) sp.slot sp.after) q lays-b

      of-wide : (wd : Option ℕ) → (codec t).wide ≡ wd → (d : List ℕ) (x : Cell) → kid_lays w (kid_of w wd (codec t)) at d sp.before x sp.slot sp.after
          → kid_lays w (kid_at ks i) at d sp.before x sp.slot sp.after
      of-wide wd q d x g =
          subst (λ (j : Kid). kid_lays w j at d sp.before x sp.slot sp.after) (sym (kt k))
          (subst (λ (o : Option ℕ). kid_lays w (kid_of w o (codec t)) at d sp.before x sp.slot sp.after) (sym q) g)

      module _ (z : flag (part_of i c) ≡ 0) (no : (codec t).wide ≡ none) (v : List ℕ) (m : length v ≡ length (placed_of i k z no).own) where
        abbrev place : ℕ
        place = (placed_of i k z no).place

        abbrev b' : List ℕ
        b' = sets b place v

        fits : place + length v ≤ length b
        fits = omega (arith, high-of i k z no)

        bits-stay : part b' h (bitmap n) ≡ part b h (bitmap n)
        bits-stay = part_apart b place v fits h (bitmap n) (inl (omega (arith, low_of i k z no))) (omega (arith, slot-fits))

        slot-stays : (j s : ℕ) → j < length (parts c) → s ≤ w → part b' (h + (bitmap n + j * w)) s ≡ part b (h + (bitmap n + j * w)) s
        slot-stays j s kj le =
            let f = fit-in h w ks (parts c) r l y j kj in
            part_apart b place v fits (h + (bitmap n + j * w)) s (inl (omega (arith, low_of i k z no))) (omega (arith, size-b, room-b))

        as-joined : b' ≡ hs ++ sets r (bitmap n + pad (n * w) + (place - at)) v
        as-joined =
            let pe : place ≡ h + (bitmap n + pad (n * w) + (place - at)) = omega (arith, low_of i k z no) in
            ap (λ (q : ℕ). sets b q v) pe ∙ sets-b (bitmap n + pad (n * w) + (place - at)) v

        agree-data : (j : ℕ) → j ≢ i → j < length (parts c) → Agree h w n (F j) j b b'
        agree-data j ne kj = record {
          size = length-sets b place v;
          bit = rw bits-stay;
          slot = slot-stays j w kj (omega arith);
          value = λ g q.
              let f : flag (part_of j c) ≡ 0 = sym (flag-of j kj) ∙ g in
              let s = says_of j kj f q in
              rw (s.offset, s.size) (part_apart b place v fits (placed_of j kj f q).place (length (placed_of j kj f q).own)
              (nearer (placed_of j kj f q).place (length (placed_of j kj f q).own) (both-apart i j k kj z f no q (λ d. ne (sym d)) (dec_lt i j)))
              (omega (arith, high-of j kj f q)));
        }
          where
            nearer : (a s : ℕ) → (a + pad s ≤ place) ⊎ (place + pad (length (placed_of i k z no).own) ≤ a) → (a + s ≤ place) ⊎ (place + length v ≤ a)
            nearer a s (inl x) = inl (omega arith)
            nearer a s (inr x) = inr (omega arith)

        aside-data : Aside T i b b'
        aside-data = aside-by b' (sets r (bitmap n + pad (n * w) + (place - at)) v) as-joined agree-data

        there-data : (s : Seat) (o' : ℕ) → Into T t i place o' s b (placed_of i k z no).own b' v
        there-data s o' = record {
          seat = seat_of h w n i o';
          was = ap (step_in T i s o') (sym e) ∙ steps r i s o' ∙ ap (child h w n t i o') e
              ∙ there-of i k z no b (placed_of i k z no).own refl refl refl (own_of i k z no) o';
          is = ap (step_in T i s o') as-joined ∙ steps (sets r (bitmap n + pad (n * w) + (place - at)) v) i s o' ∙ ap (child h w n t i o') (sym as-joined)
              ∙ there-of i k z no b' v (length-sets b place v) bits-stay (slot-stays i 8 k (omega (arith, subst (Holds w) no hw)))
              (rw (← m) (part-sets b place v fits)) o';
        }

      module _ (z : flag (part_of i c) ≡ 0) where
        by-slot : (wd : Option ℕ) → (codec t).wide ≡ wd → Comes T t c i o b (by_slot wd t (seat_of h w n i o) at o (h + (bitmap n + i * w)) b)
        unfolding by_slot kid_of
        by-slot (some v) q =
            let f : kid_lays w (inside w v (codec t)) at y.variable sp.before (part_of i c) sp.slot sp.after = as_wide (some v) q in
            let g = inside-given w v (codec t) at y.variable sp.before sp.after (part_of i c) sp.slot f z in
            let u = g.own in
            let lc = codec-lawful t in
            let sz = subst (λ (o : Option ℕ). Sized o (codec t).Fits (codec t).put) q lc.sized in
            let m : length u ≡ v = lc.size (part_of i c) u g.lays ∙ sz.size (part_of i c) (lc.fits (part_of i c) u g.lays) in
            let vw : v ≤ w = subst (Holds w) q hw in
            let a : part b (h + (bitmap n + i * w)) v ≡ u =
            sym (take-take v w (drop (h + (bitmap n + i * w)) b) vw) ∙ ap (take v) (slot-b ∙ sym g.slot) ∙ ap (λ (k : ℕ). take k (fill w u)) (sym m)
            ∙ take-filled w u in
            rw a (on {j = h + (bitmap n + i * w)} {u = u} k z (record {
              lays = g.lays;
              there = rw m a;
              room = omega (arith, size-b, room-b, fit-in h w ks (parts c) r l y i k);
              put = λ no. absurd (none-ne-some v (sym no ∙ q));
              put-aside = λ no. absurd (none-ne-some v (sym no ∙ q));
              put-there = λ no. absurd (none-ne-some v (sym no ∙ q));
            }) (λ _. seated))
        by-slot none q =
            let d = y.variable in
            let pl = placed_of i k z q in
            let u = pl.own in
            let says = says_of i k z q in
            let broken = broken_at (seat_of h w n i o).slot in
            let a = must-step (dec_le at pl.place) broken _ (low_of i k z q)
            ∙ must-step (ℕ_discrete (pl.place % 8) 0) broken _ pl.stands.eight
            ∙ must-step (dec_le (pl.place + length u) (length b)) broken (into t (seat_of h w n i o) (o + pl.place) u) (omega (arith, high-of i k z q)) in
            rw (says.offset, says.size, own_of i k z q, a) (on {j = pl.place} {u = u} k z (record {
              lays = pl.lays;
              there = own_of i k z q;
              room = omega (arith, high-of i k z q);
              put = λ _ x v lv nv _.
                  let j = pl.place - at in
                  let pe : pl.place ≡ h + (bitmap n + pad (n * w) + j) = omega (arith, low_of i k z q) in
                  let fl : flag x ≡ 0 = (codec-lawful t).here x ((codec-lawful t).fits x v lv) in
                  let kl = of-wide none q (sets d j v) x (outside-made w (codec t) at (sets d j v) sp.before sp.after x sp.slot fl
                  (outside-lays (codec t) at d sp.before sp.after (part_of i c) sp.slot pl sp.standing x v lv nv)) in
                  let bd = body-data h w ks (parts c) r l y i k x j v (fl ∙ sym z)
                  (outside_kept (codec t) at d sp.before sp.after (part_of i c) sp.slot pl sp.standing v nv)
                  (outside-safe (codec t) at d sp.before sp.after (part_of i c) sp.slot pl sp.standing v nv)
                  (kid-size w (kid w (codec t)) lk at d sp.before (part_of i c) sp.slot sp.after lays-b).slot kl in
                  rw (pe, sets-b (bitmap n + pad (n * w) + j) v)
                  (wrap (set (parts c) i x) (sets r (bitmap n + pad (n * w) + j) v) (length-set (parts c) i x)
                  (length-sets r (bitmap n + pad (n * w) + j) v) bd);
              put-aside = λ _ v nv. aside-data z q v nv;
              put-there = λ _ v nv. there-data z q v nv;
            }) (λ _. seated))

      by_flag_lem : (f : ℕ) → f ≡ flag (part_of i c) → Comes T t c i o b
          (by_flag f (seat_of h w n i o) (by_slot (codec t).wide t (seat_of h w n i o) at o (h + (bitmap n + i * w)) b))
      unfolding by_flag
      by_flag_lem zero q = by-slot (sym q) (codec t).wide refl
      by_flag_lem (suc f) q = missing k (omega (arith, flag-part)) seated

    by_number : (d : Dec (i < n)) → Comes T t c i o b
        (must_step d (numbered 5) (by_flag (num (part b h (bitmap n)) / 2 ^ i % 2) (seat_of h w n i o)
        (by_slot (codec t).wide t (seat_of h w n i o) at o (h + (bitmap n + i * w)) b)))
    unfolding must_step
    by_number (yes k) = let m : i < length (parts c) = omega (arith, all-length w ks (parts c) (body-fit h w ks l (parts c) r y)) in by_flag_lem m _ (flag-of i m)
    by_number (no k) = past (omega (arith, all-length w ks (parts c) (body-fit h w ks l (parts c) r y)))

    pub child-comes : Comes T t c i o b (child h w n t i o b)
    unfolding child
    child-comes = by_number (dec_lt i n)
