-- Where writing lays each child of a body, its bit, its slot and its data, and what a step of the walk comes to there. Assumes nothing.
use mathlib.Core.Path.{◌≡◌, refl, sym, ap, ◌∙◌, subst}
use mathlib.Core.Logic.{◌⊎◌, inl, inr}
use mathlib.Core.Option.{Option, none, some, none-ne-some}
use mathlib.Core.List.{List, [], ◌∷◌, ◌++◌, map}
use Prim.Native.Nat.{ℕ, zero, suc, ◌+◌, ◌*◌, ◌-◌, ◌/◌, ◌%◌, ◌^◌, ◌≤◌, ◌<◌}
use native.Mathlib.Nat.{add-zero, mul-le-mul_right}
use native.Mathlib.Omega.{arith}
use native.Mathlib.Decide.{dec_le, dec_lt, ℕ_discrete}
use lib.ListN.{length, length-append, length-replicate, get_or-replicate, replicate, take, drop, length-map, get_or-map}
use lib.Seq.{take-take, take_at, drop_at, drop-append-add}
use Rattle.words.specs.Bytes.{le, fill, pad, padded, bitmap, num, zeros, part}
use Rattle.words.proofs.Numbers.{length-le, length-padded, num-le, take-filled}
use Rattle.words.proofs.Parts.{lt-or-le}
use Rattle.schema.specs.Types.{Fixed, Ty, fix, text, li, ma, ro, Tys, field}
use Rattle.layout.specs.Cells.{Cell, null, leaf, nodes, on_null, flag, parts, part_of, clean}
use Rattle.layout.specs.Layout.{Kid, outside, kid_of, kid, kid_fits, kid_slot, kid_tail, AllFit, flags, slots, tails, front, body_put, number, string}
use Rattle.layout.specs.Layout.{struct, array, pair, codec, Fits, content, slot_of, kids}
use Rattle.layout.specs.Refusals.{numbered}
use Rattle.layout.specs.Walk.{Seat, Step, stop, to_null, into, must_step, by_flag, by_slot, seat_of, child, step_in, child_ty}
use Rattle.layout.proofs.Cells.{present, flag-bit, parts-clean}
use Rattle.layout.proofs.Kids.{LawfulKid}
use Rattle.layout.proofs.Children.{AllLawful, all-length, slots_length, kid-wide, AllCleaned, all-cleaned, kid-eight, flags-fit}
use Rattle.layout.proofs.Containers.{lays-content, clean-fits, body-length, repeat, codec-lawful, kids-lawful, element-lawful, kids-count}
use Rattle.layout.proofs.Steps.{kid_at, nobody}
use Rattle.layout.proofs.Bitmaps.{cell_at, flag_at}
use Rattle.layout.proofs.Bodies.{in-middle, in-last}
use Rattle.layout.proofs.Aside.{Holds}
use Rattle.layout.proofs.Slotted.{must-step}
use Rattle.layout.proofs.Judged.{fit_at}
use Rattle.layout.proofs.Recorded.{kid-fits}
use Rattle.layout.proofs.Walked.{head-8, list-says, array-holds, struct_holds, kids-at}

-- the bytes of data of the children before child k
unfoldable pub before : List Kid → List Cell → ℕ → ℕ
before [] cs k = 0
before (q ∷ ks) [] k = 0
before (q ∷ ks) (c ∷ cs) zero = 0
before (q ∷ ks) (c ∷ cs) (suc k) = length (kid_tail q c) + before ks cs k

before-eight : (w : ℕ) (ks : List Kid) (cs : List Cell) (k : ℕ) → AllLawful w ks → before ks cs k % 8 ≡ 0
unfolding before
before-eight w [] cs k l = omega arith
before-eight w (q ∷ ks) [] k l = omega arith
before-eight w (q ∷ ks) (c ∷ cs) zero l = omega arith
before-eight w (q ∷ ks) (c ∷ cs) (suc k) l = omega (arith, kid-eight w q l.0 c, before-eight w ks cs k l.1)

-- contents made clean have as much data
pub tail-clean : (w : ℕ) (q : Kid) (c : Cell) → LawfulKid w q → kid_fits w q c → length (kid_tail q (clean c)) ≡ length (kid_tail q c)
unfolding on_null clean
tail-clean w q (null u) l f = refl
tail-clean w q (leaf u) l f = (l.cleaned (leaf u) f).size
tail-clean w q (nodes u) l f = (l.cleaned (nodes u) f).size

before-clean : (w : ℕ) (ks : List Kid) (cs : List Cell) (k : ℕ) → AllLawful w ks → AllFit w ks cs → before ks (map clean cs) k ≡ before ks cs k
unfolding before AllFit
before-clean w [] [] k l f = refl
before-clean w (q ∷ ks) (c ∷ cs) zero l f = refl
before-clean w (q ∷ ks) (c ∷ cs) (suc k) l f = rw (tail-clean w q c l.0 f.0, before-clean w ks cs k l.1 f.1)
before-clean w [] (c ∷ cs) k l f = elim f [ ]
before-clean w (q ∷ ks) [] k l f = elim f [ ]

pub flag-clean : (c : Cell) → flag (clean c) ≡ flag c
unfolding on_null clean
flag-clean (null u) = refl
flag-clean (leaf u) = refl
flag-clean (nodes u) = refl

slots_at : (w at : ℕ) (ks : List Kid) (cs : List Cell) (k : ℕ) → AllLawful w ks → AllFit w ks cs → k < length cs
    → part (slots at ks cs) (k * w) w ≡ kid_slot (kid_at ks k) (at + before ks cs k) (cell_at cs k)
unfolding AllFit slots before
slots_at w at [] [] k l f h = absurd (omega arith)
slots_at w at (q ∷ ks) (c ∷ cs) zero l f h =
    let o : 0 * w ≡ 0 = omega arith in
    rw (o, add-zero) (take_at (kid_slot q at c) _ w (kid-wide w q l.0 at c f.0))
slots_at w at (q ∷ ks) (c ∷ cs) (suc k) l f h =
    let m = length (kid_tail q c) in
    let o : suc k * w ≡ length (kid_slot q at c) + k * w = rw (kid-wide w q l.0 at c f.0) (omega arith) in
    let e : at + (m + before ks cs k) ≡ at + m + before ks cs k = omega arith in
    rw (o, e, drop-append-add (kid_slot q at c) (slots (at + m) ks cs) (k * w)) (slots_at w (at + m) ks cs k l.1 f.1 (omega arith))
slots_at w at [] (c ∷ cs) k l f h = elim f [ ]
slots_at w at (q ∷ ks) [] k l f h = elim f [ ]

-- u stands at j in d
record DataAt (d : List ℕ) (j : ℕ) (u : List ℕ) : Type 0 where
  there : part d j (length u) ≡ u
  room : j + length u ≤ length d

tails-at : (w : ℕ) (ks : List Kid) (cs : List Cell) (k : ℕ) → AllFit w ks cs → k < length cs
    → DataAt (tails ks cs) (before ks cs k) (kid_tail (kid_at ks k) (cell_at cs k))
unfolding AllFit tails before
tails-at w [] [] k f h = absurd (omega arith)
tails-at w (q ∷ ks) (c ∷ cs) zero f h = record { there = take_at (kid_tail q c) (tails ks cs) _ refl; room = rw length-append (omega arith) }
tails-at w (q ∷ ks) (c ∷ cs) (suc k) f h =
    let a = tails-at w ks cs k f.1 (omega arith) in
    record { there = rw (drop-append-add (kid_tail q c) (tails ks cs) (before ks cs k)) a.there; room = rw length-append (omega (arith, a.room)) }
tails-at w [] (c ∷ cs) k f h = elim f [ ]
tails-at w (q ∷ ks) [] k f h = elim f [ ]

-- ---- child k of a body behind a header hs

module _ (hs : List ℕ) (h w : ℕ) (ks : List Kid) (cs : List Cell) (eh : length hs ≡ h) (l : AllLawful w ks) (f : AllFit w ks cs) where
  abbrev laid_out : List ℕ
  laid_out = hs ++ body_put h w ks cs

  drop-b : (j : ℕ) → drop (h + j) laid_out ≡ drop j (body_put h w ks cs)
  drop-b j = rw eh at (drop-append-add hs (body_put h w ks cs) j)

  module _ (k : ℕ) (lt : k < length cs) where
    fixed-room : k * w + w ≤ length ks * w
    fixed-room = omega (arith, mul-le-mul_right {m = suc k} {n = length ks} w (omega (arith, all-length w ks cs f)))

    bit_is : num (part laid_out h (bitmap (length ks))) / 2 ^ k % 2 ≡ flag (cell_at cs k)
    unfolding body_put
    bit_is =
        let d : drop h laid_out ≡ body_put h w ks cs = drop_at hs (body_put h w ks cs) h eh in
        rw (
          d,
          take_at (le (bitmap (length ks)) (flags cs)) _ (bitmap (length ks)) (length-le (bitmap (length ks)) (flags cs)),
          num-le (bitmap (length ks)) (flags cs) (rw (all-length w ks cs f) at (flags-fit cs)),
        ) (flag_at cs k)

    slot_is : part laid_out (h + (bitmap (length ks) + k * w)) w ≡ kid_slot (kid_at ks k) (front h w (length ks) + before ks cs k) (cell_at cs k)
    unfolding body_put fill
    slot_is =
        let m = le (bitmap (length ks)) (flags cs) in
        let s = slots (front h w (length ks)) ks cs in
        let a : k * w + w ≤ length s = omega (arith, fixed-room, slots_length w (front h w (length ks)) ks cs l f) in
        rw (drop-b (bitmap (length ks) + k * w)) (rw (length-le (bitmap (length ks)) (flags cs)) at
        (in-middle m s (zeros (pad (length s) - length s)) (tails ks cs) (k * w) w a) ∙ slots_at w (front h w (length ks)) ks cs k l f lt)

    data_is : DataAt laid_out (front h w (length ks) + before ks cs k) (kid_tail (kid_at ks k) (cell_at cs k))
    unfolding body_put
    data_is =
        let m = le (bitmap (length ks)) (flags cs) in
        let s = slots (front h w (length ks)) ks cs in
        let a = tails-at w ks cs k f lt in
        let p : length (padded s) ≡ pad (length ks * w) = length-padded s ∙ ap pad (slots_length w (front h w (length ks)) ks cs l f) in
        let e : front h w (length ks) + before ks cs k ≡ h + (bitmap (length ks) + pad (length ks * w) + before ks cs k) = omega arith in
        let g = rw (length-le (bitmap (length ks)) (flags cs), p) at (in-last m (padded s) (tails ks cs) (before ks cs k)) in
        record {
          there = rw (e, drop-b (bitmap (length ks) + pad (length ks * w) + before ks cs k), g) a.there;
          room = rw (length-append, eh, length-append, length-le, length-append, p) (omega (arith, a.room));
        }

-- ---- one step from what is written

-- child k is null: a step finds its seat, at p, and clean contents have zeros there
pub record Missing (T : Ty) (c : Cell) (k p w : ℕ) : Type 0 where
  pub seat : ℕ → Seat
  pub step : (s : Seat) (o : ℕ) → step_in T k s o (content T c) ≡ to_null (seat o)
  pub slot : (o : ℕ) → (seat o).slot ≡ o + p
  pub wide : (o : ℕ) → (seat o).wide ≡ w
  pub room : p + w ≤ length (content T c)
  pub zero : part (content T (clean c)) p w ≡ zeros w

-- a step comes to what is written for child k, at p, and clean contents have the clean child there
pub record Present (T : Ty) (c : Cell) (k p : ℕ) : Type 0 where
  pub seat : ℕ → Seat
  pub step : (s : Seat) (o : ℕ) → step_in T k s o (content T c) ≡ into (child_ty T k) (seat o) (o + p) (content (child_ty T k) (part_of k c))
  pub fits : Fits (child_ty T k) (part_of k c)
  pub room : p + length (content (child_ty T k) (part_of k c)) ≤ length (content T c)
  pub clean : part (content T (clean c)) p (length (content (child_ty T k) (part_of k c))) ≡ content (child_ty T k) (clean (part_of k c))

-- a step comes to a number, in which no walk finds a null
pub record Number (T : Ty) (c : Cell) (k : ℕ) (s : Seat) (o : ℕ) : Type 0 where
  pub type : Fixed
  pub seat : Seat
  pub start : ℕ
  pub own : List ℕ
  pub step : step_in T k s o (content T c) ≡ into (fix type) seat start own

-- a step to child k, if there is one
pub data Goes (T : Ty) (c : Cell) (k : ℕ) : Type 0 where
  gone : ((s : Seat) (o : ℕ) → step_in T k s o (content T c) ≡ stop (numbered 5)) → Goes T c k
  nulls : {p w : ℕ} → Missing T c k p w → Goes T c k
  holds : ((s : Seat) (o : ℕ) → Number T c k s o) → Goes T c k
  on : {p : ℕ} → Present T c k p → Goes T c k

-- contents of type T are written as a body behind a header
pub record Body (T : Ty) (c : Cell) : Type 1 where
  pub head : List ℕ
  pub h : ℕ
  pub w : ℕ
  pub ks : List Kid
  pub is : content T c ≡ head ++ body_put h w ks (parts c)
  pub cleaned : content T (clean c) ≡ head ++ body_put h w ks (map clean (parts c))
  pub long : length head ≡ h
  pub eight : h % 8 ≡ 0
  pub lawful : AllLawful w ks
  pub fit : AllFit w ks (parts c)
  pub kinds : (k : ℕ) → k < length ks → kid_at ks k ≡ kid w (codec (child_ty T k))
  pub hold : (k : ℕ) → Holds w (codec (child_ty T k)).wide
  pub steps : (k : ℕ) (s : Seat) (o : ℕ) → step_in T k s o (content T c) ≡ child h w (length ks) (child_ty T k) k o (content T c)

null-slot : (q : Kid) (at w : ℕ) (c : Cell) → kid_fits w q c → flag c ≡ 1 → kid_slot q at (clean c) ≡ zeros w
unfolding on_null clean
null-slot q at w (null u) f e = rw f.wide
null-slot q at w (leaf u) f e = absurd (omega arith)
null-slot q at w (nodes u) f e = absurd (omega arith)

-- a step by a slot that says place p and size m
by-slot : (h w n : ℕ) (t : Ty) (k o p m : ℕ) (b u : List ℕ) → k < n → num (part b h (bitmap n)) / 2 ^ k % 2 ≡ 0 → (codec t).wide ≡ none
    → part b (h + (bitmap n + k * w)) 8 ≡ le 8 (p * 2 ^ 32 + m) → front h w n ≤ p → p % 8 ≡ 0 → p + m ≤ length b → length b < 2 ^ 32
    → part b p m ≡ u → child h w n t k o b ≡ into t (seat_of h w n k o) (o + p) u
unfolding child by_flag by_slot
by-slot h w n t k o p m b u lt bit wd slot low eight high lim own =
    let e : num (part b (h + (bitmap n + k * w)) 8) ≡ p * 2 ^ 32 + m = rw slot (num-le 8 (p * 2 ^ 32 + m) (omega arith)) in
    let x : (p * 2 ^ 32 + m) / 2 ^ 32 ≡ p = omega arith in
    let y : (p * 2 ^ 32 + m) % 2 ^ 32 ≡ m = omega arith in
    must-step (dec_lt k n) (numbered 5) _ lt
    ∙ rw (bit, wd, e, x, y, own)
    (must-step (dec_le (front h w n) p) _ _ low ∙ must-step (ℕ_discrete (p % 8) 0) _ _ eight ∙ must-step (dec_le (p + m) (length b)) _ _ high)

by_width : (h w n v : ℕ) (t : Ty) (k o : ℕ) (b : List ℕ) → k < n → num (part b h (bitmap n)) / 2 ^ k % 2 ≡ 0 → (codec t).wide ≡ some v
    → child h w n t k o b ≡ into t (seat_of h w n k o) (o + (h + (bitmap n + k * w))) (part b (h + (bitmap n + k * w)) v)
unfolding child by_flag by_slot
by_width h w n v t k o b lt bit wd = must-step (dec_lt k n) (numbered 5) _ lt ∙ rw (bit, wd)

by-null : (h w n : ℕ) (t : Ty) (k o : ℕ) (b : List ℕ) → k < n → num (part b h (bitmap n)) / 2 ^ k % 2 ≡ 1 → child h w n t k o b ≡ to_null (seat_of h w n k o)
unfolding child by_flag
by-null h w n t k o b lt bit = must-step (dec_lt k n) (numbered 5) _ lt ∙ rw bit

by-past : (h w n : ℕ) (t : Ty) (k o : ℕ) (b : List ℕ) → n ≤ k → child h w n t k o b ≡ stop (numbered 5)
unfolding child must_step
by-past h w n t k o b ge = must-not (dec_lt k n) _
  where
    must-not : (d : Dec (k < n)) (s : Step) → must_step d (numbered 5) s ≡ stop (numbered 5)
    must-not (yes p) s = absurd (omega arith)
    must-not (no q) s = refl

only-number : (t : Ty) (v : ℕ) → (codec t).wide ≡ some v → (f : Fixed) × (t ≡ fix f)
unfolding codec number string array pair struct
only-number (fix f) v e = (f, refl)
only-number (text k) v e = absurd (none-ne-some v e)
only-number (li t) v e = absurd (none-ne-some v e)
only-number (ma a b) v e = absurd (none-ne-some v e)
only-number (ro ts) v e = absurd (none-ne-some v e)

-- what lies in a varying child's slot and data
out-slot : (w at : ℕ) (t : Ty) (q : Kid) (x : Cell) → q ≡ kid w (codec t) → (codec t).wide ≡ none → flag x ≡ 0
    → kid_slot q at x ≡ le 8 (at * 2 ^ 32 + length (content t x))
unfolding kid_of outside
out-slot w at t q x e wd z = rw (e, wd) (present _ _ x z)

pub out-tail : (w : ℕ) (t : Ty) (q : Kid) (x : Cell) → q ≡ kid w (codec t) → (codec t).wide ≡ none → flag x ≡ 0 → kid_tail q x ≡ padded (content t x)
unfolding kid_of outside
out-tail w t q x e wd z = rw (e, wd) (present _ _ x z)

own-there : {b : List ℕ} {p : ℕ} {u : List ℕ} → DataAt b p (padded u) → part b p (length u) ≡ u
own-there {b} {p} {u} a =
    let fit : length u ≤ length (padded u) = omega (arith, length-padded u) in
    sym (take-take (length u) (length (padded u)) (drop p b) fit) ∙ ap (take (length u)) a.there ∙ take-filled (pad (length u)) u

module _ (T : Ty) (c : Cell) (y : Body T c) (lim : length (content T c) < 2 ^ 32) where
  abbrev h : ℕ
  h = y.h

  abbrev w : ℕ
  w = y.w

  abbrev n : ℕ
  n = length y.ks

  abbrev cs : List Cell
  cs = parts c

  abbrev pub slot_at : ℕ → ℕ
  slot_at k = h + (bitmap n + k * w)

  abbrev pub data_at : ℕ → ℕ
  data_at k = front h w n + before y.ks cs k

  made : AllCleaned w y.ks cs
  made = all-cleaned w y.ks cs y.lawful y.fit

  counted : length cs ≡ n
  counted = all-length w y.ks cs y.fit

  clean_at : (k : ℕ) → cell_at (map clean cs) k ≡ clean (cell_at cs k)
  unfolding clean
  clean_at k = get_or-map clean cs k (leaf [])

  whole : length (content T c) ≡ front h w n + length (tails y.ks cs)
  whole = rw (y.is, length-append, y.long) (body-length h w y.ks cs y.lawful y.fit)

  module _ (k : ℕ) (lt : k < length cs) where
    abbrev q : Kid
    q = kid_at y.ks k

    lt-n : k < n
    lt-n = omega (arith, counted)

    lt-clean : k < length (map clean cs)
    lt-clean = rw length-map lt

    bit : num (part (content T c) h (bitmap n)) / 2 ^ k % 2 ≡ flag (cell_at cs k)
    bit = rw y.is (bit_is y.head h w y.ks cs y.long y.lawful y.fit k lt)

    slot-b : part (content T c) (slot_at k) w ≡ kid_slot q (data_at k) (cell_at cs k)
    slot-b = rw y.is (slot_is y.head h w y.ks cs y.long y.lawful y.fit k lt)

    slot-c : part (content T (clean c)) (slot_at k) w ≡ kid_slot q (data_at k) (clean (cell_at cs k))
    slot-c = rw (y.cleaned, ← (clean_at k), ← (before-clean w y.ks cs k y.lawful y.fit))
        (slot_is y.head h w y.ks (map clean cs) y.long y.lawful made.fit k lt-clean)

    pub null-child : flag (cell_at cs k) ≡ 1 → Missing T c k (slot_at k) w
    null-child e = record {
      seat = seat_of h w n k;
      step = λ s o. y.steps k s o ∙ by-null h w n (child_ty T k) k o (content T c) lt-n (bit ∙ e);
      slot = λ o. refl;
      wide = λ o. refl;
      room = omega (arith, whole, mul-le-mul_right {m = suc k} {n = n} w lt-n);
      zero = slot-c ∙ null-slot q (data_at k) w (cell_at cs k) (fit_at w y.ks cs k y.fit lt) e;
    }

    data-b : DataAt (content T c) (data_at k) (kid_tail q (cell_at cs k))
    data-b = rw y.is (data_is y.head h w y.ks cs y.long y.lawful y.fit k lt)

    data-c : DataAt (content T (clean c)) (data_at k) (kid_tail q (clean (cell_at cs k)))
    data-c = rw (y.cleaned, ← (clean_at k), ← (before-clean w y.ks cs k y.lawful y.fit))
        (data_is y.head h w y.ks (map clean cs) y.long y.lawful made.fit k lt-clean)

    -- it varies, and is not null
    module _ (z : flag (cell_at cs k) ≡ 0) (wd : (codec (child_ty T k)).wide ≡ none) where
      abbrev t : Ty
      t = child_ty T k

      abbrev x : Cell
      x = cell_at cs k

      fits-x : Fits t x
      fits-x = kid-fits w (codec t).wide (codec t) x (rw (y.kinds k lt-n) at (fit_at w y.ks cs k y.fit lt)) z

      pub present-child : Present T c k (data_at k)
      present-child =
          let e = y.kinds k lt-n in
          let w8 : w ≡ 8 = subst (Holds w) wd (y.hold k) in
          let a : DataAt (content T c) (data_at k) (padded (content t x)) = rw (← (out-tail w t q x e wd z)) data-b in
          let d : DataAt (content T (clean c)) (data_at k) (padded (content t (clean x))) =
          rw (← (out-tail w t q (clean x) e wd (flag-clean x ∙ z))) data-c in
          let s8 : part (content T c) (slot_at k) 8 ≡ le 8 (data_at k * 2 ^ 32 + length (content t x)) =
          ap (part (content T c) (slot_at k)) (sym w8) ∙ slot-b ∙ out-slot w (data_at k) t q x e wd z in
          let p8 : data_at k % 8 ≡ 0 = omega (arith, y.eight, before-eight w y.ks cs k y.lawful) in
          let hi : data_at k + length (content t x) ≤ length (content T c) = omega (arith, a.room, length-padded (content t x)) in
          record {
            seat = seat_of h w n k;
            step = λ s o. y.steps k s o
                ∙ by-slot h w n t k o (data_at k) (length (content t x)) (content T c) (content t x) lt-n (bit ∙ z) wd s8 (omega arith) p8 hi lim (own-there a);
            fits = fits-x;
            room = hi;
            clean = ap (part (content T (clean c)) (data_at k)) (sym (clean-fits t x fits-x).size) ∙ own-there d;
          }

    number-child : (v : ℕ) → flag (cell_at cs k) ≡ 0 → (codec (child_ty T k)).wide ≡ some v → (s : Seat) (o : ℕ) → Number T c k s o
    number-child v z wd s o =
        let f = only-number (child_ty T k) v wd in
        record {
          type = f.0;
          seat = seat_of h w n k o;
          start = o + slot_at k;
          own = part (content T c) (slot_at k) v;
          step = y.steps k s o ∙ by_width h w n v (child_ty T k) k o (content T c) lt-n (bit ∙ z) wd
              ∙ ap (λ (t : Ty). into t (seat_of h w n k o) (o + slot_at k) (part (content T c) (slot_at k) v)) f.1;
        }

    goes_by : (f : ℕ) → flag (cell_at cs k) ≡ f → f < 2 → (wd : Option ℕ) → (codec (child_ty T k)).wide ≡ wd → Goes T c k
    goes_by zero z b none e = on (present-child z e)
    goes_by zero z b (some v) e = holds (number-child v z e)
    goes_by (suc zero) z b wd e = nulls (null-child z)
    goes_by (suc (suc f)) z b wd e = absurd (omega arith)

  pub body-goes : (k : ℕ) → Goes T c k
  body-goes k = go (lt-or-le k (length cs))
    where
      go : (k < length cs) ⊎ (length cs ≤ k) → Goes T c k
      go (inl lt) = goes_by k lt (flag (cell_at cs k)) refl (flag-bit (cell_at cs k)) (codec (child_ty T k)).wide refl
      go (inr ge) = gone λ s o. y.steps k s o ∙ by-past h w n (child_ty T k) k o (content T c) (omega (arith, counted))

pub list-body : (t : Ty) (c : Cell) → Fits (li t) c → length (content (li t) c) < 2 ^ 32 → Body (li t) c
unfolding codec array child_ty step_in
list-body t c f lim =
    let m = length (parts c) in
    let w = slot_of (codec t).wide in
    let k = kid w (codec t) in
    let small : m < 256 ^ 8 = omega (arith, (list-says t c (content (li t) c) (lays-content (li t) c f) lim).room) in
    record {
      head = le 8 m;
      h = 8;
      w = w;
      ks = replicate m k;
      is = refl;
      cleaned = rw (parts-clean, length-map);
      long = length-le 8 m;
      eight = refl;
      lawful = repeat w m k (element-lawful t);
      fit = f.children;
      kinds = λ j h. get_or-replicate m j k nobody (rw length-replicate at h);
      hold = λ _. array-holds (codec t).wide;
      steps = λ j s o. rw (head-8 m _ small, length-replicate);
    }

pub struct-body : (ts : Tys) (c : Cell) → Fits (ro ts) c → Body (ro ts) c
unfolding codec struct child_ty step_in
struct-body ts c f = record {
  head = [];
  h = 0;
  w = 8;
  ks = kids ts;
  is = refl;
  cleaned = rw parts-clean;
  long = refl;
  eight = refl;
  lawful = kids-lawful ts;
  fit = f.children;
  kinds = λ j h. kids-at ts j h;
  hold = λ j. struct_holds (codec (field ts j)).wide (codec (field ts j)) (codec-lawful (field ts j)).sized;
  steps = λ j s o. rw (kids-count ts);
}
