-- Written again with zeros under their nulls, contents change only in the slots of null children, which become zero. Assumes nothing.
use mathlib.Core.Path.{◌≡◌, refl, sym, ap, ◌∙◌, subst}
use mathlib.Core.Logic.{◌⊎◌, inl, inr}
use mathlib.Core.Option.{Option, none, some}
use mathlib.Core.List.{List, [], ◌∷◌, ◌++◌, map}
use Prim.Native.Nat.{ℕ, zero, suc, ◌+◌, ◌*◌, ◌-◌, ◌^◌, ◌≤◌, ◌<◌}
use native.Mathlib.Nat.{add-zero, add_assoc}
use native.Mathlib.Omega.{arith}
use lib.ListN.{length, get_or, length-append, length-replicate, get_or-replicate, get_or-append, get_or-eq_default}
use lib.Seq.{get_or-append-add, take-length}
use Rattle.words.specs.Bytes.{le, fill, pad, padded, bitmap}
use Rattle.words.proofs.Numbers.{length-le, length-padded}
use Rattle.words.proofs.Parts.{lt-or-le, get_d_part}
use Rattle.schema.specs.Types.{Fixed, Text, st, Ty, fix, text, li, ma, ro, Tys, end, ◌then◌, field}
use Rattle.layout.specs.Cells.{Cell, null, leaf, nodes, on_null, flag, parts, part_of, clean}
use Rattle.layout.specs.Layout.{Kid, inside, outside, kid_of, kid, kid_fits, kid_slot, kid_tail, AllFit, flags, slots, tails, front, body_put, number}
use Rattle.layout.specs.Layout.{string, struct, array, pair, codec, Fits, content}
use Rattle.layout.specs.Refusals.{Refusal, numbered}
use Rattle.layout.specs.Walk.{Seat, root_seat, Seen, bad, null_at, seen, stop, to_null, must, own, step_in, child_ty, go_on, walk, seat_at}
use Rattle.layout.specs.Places.{UnderNull}
use Rattle.layout.proofs.Cells.{present, flag-bit, bytes-clean, part-clean}
use Rattle.layout.proofs.Children.{AllLawful, all-length, slots_length, kid-wide}
use Rattle.layout.proofs.Containers.{lays-content, clean-fits}
use Rattle.layout.proofs.Steps.{kid_at}
use Rattle.layout.proofs.Bitmaps.{cell_at}
use Rattle.layout.proofs.Walked.{own-holds, MapSays, map-says}
use Rattle.layout.proofs.Seen.{into-on}
use Rattle.layout.proofs.Written.{before, tail-clean, flag-clean, Missing, Present, Goes, gone, nulls, holds, on, Body, out-tail, slot_at, data_at}
use Rattle.layout.proofs.Written.{null-child, present-child, body-goes, list-body, struct-body}

-- ---- a step to one of the two arrays of a map, and to a child of any type

module _ (k v : Ty) (c : Cell) (f : Fits (ma k v) c) (lim : length (content (ma k v) c) < 2 ^ 32) where
  abbrev keys : Cell → List ℕ
  keys x = content (li k) (part_of 0 x)

  abbrev values : Cell → List ℕ
  values x = content (li v) (part_of 1 x)

  says : MapSays c (content (ma k v) c) (keys c) (values c)
  unfolding codec pair
  says = map-says c (content (ma k v) c) (keys c) (values c) refl lim

  clean-says : MapSays c (content (ma k v) (clean c)) (content (li k) (clean (part_of 0 c))) (content (li v) (clean (part_of 1 c)))
  unfolding codec pair
  clean-says = map-says c (content (ma k v) (clean c)) (content (li k) (clean (part_of 0 c))) (content (li v) (clean (part_of 1 c)))
      (rw (part-clean 0 c, part-clean 1 c)) (rw (clean-fits (ma k v) c f).size lim)

  keys-present : Present (ma k v) c 0 8
  unfolding codec pair child_ty step_in
  keys-present = record {
    seat = λ o. seat_at (o + 8);
    step = λ s o. rw (says.k, says.keys);
    fits = f.keys;
    room = omega (arith, says.size);
    clean = rw (← (clean-fits (li k) (part_of 0 c) f.keys).size) clean-says.keys;
  }

  values-present : Present (ma k v) c 1 (8 + length (keys c))
  unfolding codec pair child_ty step_in
  values-present = record {
    seat = λ o. seat_at (o + (8 + length (keys c)));
    step = λ s o. rw (says.k, says.values);
    fits = f.values;
    room = omega (arith, says.size);
    clean =
        let a = (clean-fits (li k) (part_of 0 c) f.keys).size in
        let d = (clean-fits (li v) (part_of 1 c) f.values).size in
        rw (← a, clean-says.values, ← d) (take-length (content (li v) (clean (part_of 1 c))));
  }

  map-goes : (i : ℕ) → Goes (ma k v) c i
  unfolding step_in
  map-goes zero = on keys-present
  map-goes (suc zero) = on values-present
  map-goes (suc (suc i)) = gone λ s o. refl

goes : (t : Ty) (c : Cell) (k : ℕ) → Fits t c → length (content t c) < 2 ^ 32 → Goes t c k
unfolding step_in
goes (fix f) c k y lim = gone λ s o. refl
goes (text t) c k y lim = gone λ s o. refl
goes (li t) c k y lim = body-goes (li t) c (list-body t c y lim) lim k
goes (ma a b) c k y lim = map-goes a b c y lim k
goes (ro ts) c k y lim = body-goes (ro ts) c (struct-body ts c y) lim k

-- ---- a byte under a null is zero in what is written for clean contents

-- byte i of the row is byte at of contents that start at o, and clean contents have a zero there
record Zeroed (t : Ty) (c : Cell) (o i : ℕ) : Type 0 where
  at : ℕ
  is : i ≡ o + at
  room : at < length (content t c)
  zero : get_or (content t (clean c)) at 0 ≡ 0

-- 1 where a walk finds a null
unfoldable nulled? : Seen → ℕ
nulled? (bad r) = 0
nulled? (null_at s) = 1
nulled? (seen s o b) = 0

must-null : {P : Type 0} (d : Dec P) (r : Refusal) (x : Seen) → nulled? x ≡ 0 → nulled? (must d r x) ≡ 0
unfolding must nulled?
must-null (yes p) r x e = e
must-null (no q) r x e = refl

number-none : (p : List ℕ) (f : Fixed) (s : Seat) (o : ℕ) (b : List ℕ) → nulled? (walk p (fix f) s o b) ≡ 0
unfolding walk own step_in go_on nulled?
number-none [] f s o b = must-null _ _ _ refl
number-none (i ∷ []) f s o b = must-null _ _ _ refl
number-none (i ∷ j ∷ p) f s o b = must-null _ _ _ refl

abbrev ZeroedAt : List ℕ → Type 0
ZeroedAt p = (t : Ty) (c : Cell) (s : Seat) (o i : ℕ) (z : Seat) → Fits t c → length (content t c) < 2 ^ 32 → walk p t s o (content t c) ≡ null_at z
    → z.slot ≤ i → i < z.slot + z.wide → Zeroed t c o i

not_null : (x : Seen) (z : Seat) → nulled? x ≡ 0 → x ≡ null_at z → ⊥
unfolding nulled?
not_null x z e g = let f : nulled? x ≡ 1 = rw g in omega arith

stop-none : (p : List ℕ) (next : Ty → Seat → ℕ → List ℕ → Seen) (r : Refusal) → nulled? (go_on p next (stop r)) ≡ 0
unfolding go_on nulled?
stop-none [] next r = refl
stop-none (i ∷ p) next r = refl

-- a null child is found at the end of a path alone
null-end : (p : List ℕ) (next : Ty → Seat → ℕ → List ℕ → Seen) (s z : Seat) → go_on p next (to_null s) ≡ null_at z → s ≡ z
unfolding go_on nulled?
null-end [] next s z e = let g : null_at s ≡ null_at z = e in cc
null-end (i ∷ p) next s z e = absurd (not_null (bad (numbered 6)) z refl e)

missing-zero : (t : Ty) (c : Cell) (k p w o i : ℕ) (z : Seat) (a : Missing t c k p w) → a.seat o ≡ z → z.slot ≤ i → i < z.slot + z.wide → Zeroed t c o i
missing-zero t c k p w o i z a e lo hi =
    let ps : z.slot ≡ o + p = ap (λ (s : Seat). s.slot) (sym e) ∙ a.slot o in
    let ws : z.wide ≡ w = ap (λ (s : Seat). s.wide) (sym e) ∙ a.wide o in
    let j : i - o ≡ p + (i - (o + p)) = omega arith in
    let lt : i - (o + p) < w = omega arith in
    record {
      at = i - o;
      is = omega arith;
      room = omega (arith, a.room);
      zero = ap (λ (m : ℕ). get_or (content t (clean c)) m 0) j ∙ sym (get_d_part (content t (clean c)) p w (i - (o + p)) lt)
          ∙ ap (λ (l : List ℕ). get_or l (i - (o + p)) 0) a.zero ∙ get_or-replicate w (i - (o + p)) 0 0 lt;
    }

present-zero : (t : Ty) (c : Cell) (k p o i : ℕ) → Present t c k p → Zeroed (child_ty t k) (part_of k c) (o + p) i → Zeroed t c o i
present-zero t c k p o i a r = record {
  at = p + r.at;
  is = omega (arith, r.is);
  room = omega (arith, r.room, a.room);
  zero = sym (get_d_part (content t (clean c)) p (length (content (child_ty t k) (part_of k c))) r.at r.room)
      ∙ ap (λ (l : List ℕ). get_or l r.at 0) a.clean ∙ r.zero;
}

step-zero : (k : ℕ) (p : List ℕ) → ZeroedAt p → (t : Ty) (c : Cell) (s : Seat) (o i : ℕ) (z : Seat) → length (content t c) < 2 ^ 32
    → go_on p (λ t s o b. walk p t s o b) (step_in t k s o (content t c)) ≡ null_at z → z.slot ≤ i → i < z.slot + z.wide → Goes t c k → Zeroed t c o i
step-zero k p r t c s o i z lim e lo hi (gone g) = absurd (not_null _ z (stop-none p (λ t s o b. walk p t s o b) (numbered 5)) (rw (g s o) at e))
step-zero k p r t c s o i z lim e lo hi (nulls {p = q} {w = w} a) =
    missing-zero t c k q w o i z a (null-end p (λ t s o b. walk p t s o b) (a.seat o) z (rw (a.step s o) at e)) lo hi
step-zero k p r t c s o i z lim e lo hi (holds g) =
    let a = g s o in
    absurd (not_null _ z (number-none p a.type a.seat a.start a.own)
    (sym (into-on p (fix a.type) a.seat a.start a.own) ∙ rw a.step at e))
step-zero k p r t c s o i z lim e lo hi (on {p = q} a) =
    present-zero t c k q o i a (r (child_ty t k) (part_of k c) (a.seat o) (o + q) i z a.fits (omega (arith, a.room))
    (sym (into-on p (child_ty t k) (a.seat o) (o + q) (content (child_ty t k) (part_of k c))) ∙ rw (a.step s o) at e) lo hi)

zero-at : (p : List ℕ) → ZeroedAt p
unfolding walk nulled?
zero-at [] t c s o i z f lim e lo hi =
    absurd (not_null (seen s o (content t c)) z refl (sym (own-holds t c s o (content t c) _ (lays-content t c f) lim) ∙ e))
zero-at (k ∷ p) t c s o i z f lim e lo hi =
    step-zero k p (λ t c s o i z f lim e lo hi. zero-at p t c s o i z f lim e lo hi) t c s o i z lim
    (sym (own-holds t c s o (content t c) _ (lays-content t c f) lim) ∙ e) lo hi (goes t c k f lim)

pub under-zero : (ts : Tys) (c : Cell) (i : ℕ) → Fits (ro ts) c → length (content (ro ts) c) < 2 ^ 32 → UnderNull ts (content (ro ts) c) i
    → get_or (content (ro ts) (clean c)) i 0 ≡ 0
under-zero ts c i f lim u =
    let a = zero-at u.path (ro ts) c root_seat 0 i u.seat f lim u.null u.from u.to in
    let e : i ≡ a.at = omega (arith, a.is) in
    rw e a.zero

-- ---- every other byte stays

-- b' has b's bytes, but where P holds; b starts at o
record Same (P : ℕ → Type 0) (o : ℕ) (b b' : List ℕ) : Type 0 where
  size : length b' ≡ length b
  each : (i : ℕ) → i < length b → P (o + i) ⊎ (get_or b' i 0 ≡ get_or b i 0)

same_of : (P : ℕ → Type 0) (o : ℕ) (b b' : List ℕ) → b' ≡ b → Same P o b b'
same_of P o b b' e = record { size = ap length e; each = λ i h. inr (ap (λ (l : List ℕ). get_or l i 0) e) }

same_by : (P : ℕ → Type 0) (o : ℕ) (b b' d d' : List ℕ) → b ≡ d → b' ≡ d' → Same P o d d' → Same P o b b'
same_by P o b b' d d' e f s = rw (e, f) s

either : {A B C D : Type 0} → (A → C) → (B → D) → A ⊎ B → C ⊎ D
either f g (inl a) = inl (f a)
either f g (inr b) = inr (g b)

same_map : (P Q : ℕ → Type 0) (o : ℕ) (b b' : List ℕ) → ((i : ℕ) → P i → Q i) → Same P o b b' → Same Q o b b'
same_map P Q o b b' f s = record { size = s.size; each = λ i h. either (f (o + i)) (λ e. e) (s.each i h) }

same-append : (P : ℕ → Type 0) (o m : ℕ) (a a' b b' : List ℕ) → m ≡ o + length a → Same P o a a' → Same P m b b' → Same P o (a ++ b) (a' ++ b')
same-append P o m a a' b b' e s r = record {
  size = rw (length-append, length-append) (omega (arith, s.size, r.size));
  each = λ i h. go i h (lt-or-le i (length a));
}
  where
    go : (i : ℕ) → i < length (a ++ b) → (i < length a) ⊎ (length a ≤ i) → P (o + i) ⊎ (get_or (a' ++ b') i 0 ≡ get_or (a ++ b) i 0)
    go i h (inl lt) = either (λ p. p) (λ e. get_or-append a' b' 0 i (omega (arith, s.size)) ∙ e ∙ sym (get_or-append a b 0 i lt)) (s.each i lt)
    go i h (inr ge) =
        let j = i - length a in
        let at : i ≡ length a + j = omega arith in
        let at' : length a + j ≡ length a' + j = omega (arith, s.size) in
        let mo : m + j ≡ o + i = omega arith in
        either (subst P mo) (λ e. ap (λ (k : ℕ). get_or (a' ++ b') k 0) (at ∙ at') ∙ get_or-append-add a' b' j 0 ∙ e ∙ sym (get_or-append-add a b j 0)
        ∙ ap (λ (k : ℕ). get_or (a ++ b) k 0) (sym at)) (r.each j (omega (arith, length-append a b)))

same-padded : (P : ℕ → Type 0) (o : ℕ) (b b' : List ℕ) → Same P o b b' → Same P o (padded b) (padded b')
unfolding fill
same-padded P o b b' s = same-append P o (o + length b) b b' _ _ refl s (same_of P (o + length b) _ _ (rw s.size))

flags-clean : (cs : List Cell) → flags (map clean cs) ≡ flags cs
unfolding flags
flags-clean [] = refl
flags-clean (c ∷ cs) = rw (flag-clean c, flags-clean cs)

in_tail : (w v : ℕ) (t : Ty) (q : Kid) (x : Cell) → q ≡ kid w (codec t) → (codec t).wide ≡ some v → flag x ≡ 0 → kid_tail q x ≡ []
unfolding kid_of inside
in_tail w v t q x e wd z = rw (e, wd) (present _ _ x z)

null-tail : (q : Kid) (x : Cell) → flag x ≡ 1 → kid_tail q x ≡ []
unfolding on_null
null-tail q (null u) e = refl
null-tail q (leaf u) e = absurd (omega arith)
null-tail q (nodes u) e = absurd (omega arith)

-- a slot stays, but a null's
abbrev Tidy : Kid → Type 0
Tidy q = (at : ℕ) (x : Cell) → q.Fits x → q.slot at (clean x) ≡ q.slot at x

out-tidy : (t : Ty) → Tidy (outside (codec t))
unfolding outside
out-tidy t at x f = ap (λ (n : ℕ). le 8 (at * 2 ^ 32 + n)) (clean-fits t x f).size

kid-tidy : (w : ℕ) (t : Ty) → Tidy (kid w (codec t))
unfolding codec kid_of number string array pair struct inside
kid-tidy w (fix f) at x g = ap (fill w) (bytes-clean x)
kid-tidy w (text k) at x g = out-tidy (text k) at x g
kid-tidy w (li t) at x g = out-tidy (li t) at x g
kid-tidy w (ma a b) at x g = out-tidy (ma a b) at x g
kid-tidy w (ro ts) at x g = out-tidy (ro ts) at x g

slot_same : (P : ℕ → Type 0) (w o at : ℕ) (q : Kid) (c : Cell) → Tidy q → kid_fits w q c → (flag c ≡ 1 → (i : ℕ) → o ≤ i → i < o + w → P i)
    → Same P o (kid_slot q at c) (kid_slot q at (clean c))
unfolding on_null clean
slot_same P w o at q (null u) y f g = record {
  size = length-replicate (length u) 0;
  each = λ i h. inl (g refl (o + i) (omega arith) (omega (arith, f.wide)));
}
slot_same P w o at q (leaf u) y f g = same_of P o _ _ (y at (leaf u) f)
slot_same P w o at q (nodes u) y f g = same_of P o _ _ (y at (nodes u) f)

slots_same : (P : ℕ → Type 0) (w o at : ℕ) (ks : List Kid) (cs : List Cell) → AllLawful w ks → AllFit w ks cs
    → ((k : ℕ) → k < length ks → Tidy (kid_at ks k))
    → ((k : ℕ) → k < length cs → flag (cell_at cs k) ≡ 1 → (i : ℕ) → o + k * w ≤ i → i < o + k * w + w → P i)
    → Same P o (slots at ks cs) (slots at ks (map clean cs))
unfolding AllFit slots
slots_same P w o at [] [] l f y g = same_of P o [] [] refl
slots_same P w o at (q ∷ ks) (c ∷ cs) l f y g =
    let e : o + w ≡ o + length (kid_slot q at c) = rw (kid-wide w q l.0 at c f.0) in
    let z = tail-clean w q c l.0 f.0 in
    same-append P o (o + w) (kid_slot q at c) (kid_slot q at (clean c)) _ _ e
    (slot_same P w o at q c (y 0 (omega arith)) f.0 (λ n i lo hi. g 0 (omega arith) n i (omega arith) (omega arith)))
    (rw z (slots_same P w (o + w) (at + length (kid_tail q c)) ks cs l.1 f.1 (λ k h. y (suc k) (omega arith))
    (λ k h n i lo hi. g (suc k) (omega arith) n i (omega arith) (omega arith))))
slots_same P w o at [] (c ∷ cs) l f y g = elim f [ ]
slots_same P w o at (q ∷ ks) [] l f y g = elim f [ ]

tails-same : (P : ℕ → Type 0) (w o : ℕ) (ks : List Kid) (cs : List Cell) → AllFit w ks cs
    → ((k : ℕ) → k < length cs → Same P (o + before ks cs k) (kid_tail (kid_at ks k) (cell_at cs k)) (kid_tail (kid_at ks k) (clean (cell_at cs k))))
    → Same P o (tails ks cs) (tails ks (map clean cs))
unfolding AllFit tails before
tails-same P w o [] [] f g = same_of P o [] [] refl
tails-same P w o (q ∷ ks) (c ∷ cs) f g =
    let m = length (kid_tail q c) in
    same-append P o (o + m) (kid_tail q c) (kid_tail q (clean c)) _ _ refl (rw add-zero at (g 0 (omega arith)))
    (tails-same P w (o + m) ks cs f.1 (λ k h. rw (add_assoc o m (before ks cs k)) (g (suc k) (omega arith))))
tails-same P w o [] (c ∷ cs) f g = elim f [ ]
tails-same P w o (q ∷ ks) [] f g = elim f [ ]

-- ---- a byte of the row under a null, found from contents of type t that start at o

record UnderAt (t : Ty) (s : Seat) (o : ℕ) (b : List ℕ) (i : ℕ) : Type 0 where
  path : List ℕ
  seat : Seat
  null : walk path t s o b ≡ null_at seat
  from : seat.slot ≤ i
  to : i < seat.slot + seat.wide

abbrev Law : Ty → Type 0
Law t = (c : Cell) (s : Seat) (o : ℕ) → Fits t c → length (content t c) < 2 ^ 32
    → Same (UnderAt t s o (content t c)) o (content t c) (content t (clean c))

module _ (T : Ty) (c : Cell) (f : Fits T c) (lim : length (content T c) < 2 ^ 32) (s : Seat) (o : ℕ) where
  abbrev P : ℕ → Type 0
  P i = UnderAt T s o (content T c) i

  under-missing : (k p w : ℕ) → Missing T c k p w → (i : ℕ) → o + p ≤ i → i < o + p + w → P i
  unfolding walk go_on
  under-missing k p w a i lo hi = record {
    path = k ∷ [];
    seat = a.seat o;
    null = own-holds T c s o (content T c) _ (lays-content T c f) lim ∙ rw (a.step s o);
    from = omega (arith, a.slot o);
    to = omega (arith, a.slot o, a.wide o);
  }

  under-present : (k p : ℕ) (a : Present T c k p) (i : ℕ) → UnderAt (child_ty T k) (a.seat o) (o + p) (content (child_ty T k) (part_of k c)) i → P i
  unfolding walk
  under-present k p a i u = record {
    path = k ∷ u.path;
    seat = u.seat;
    null = own-holds T c s o (content T c) _ (lays-content T c f) lim
        ∙ rw (a.step s o) (into-on u.path (child_ty T k) (a.seat o) (o + p) (content (child_ty T k) (part_of k c)) ∙ u.null);
    from = u.from;
    to = u.to;
  }

  present-same : (k p : ℕ) → Present T c k p → Law (child_ty T k)
      → Same P (o + p) (content (child_ty T k) (part_of k c)) (content (child_ty T k) (clean (part_of k c)))
  present-same k p a one =
      same_map (UnderAt (child_ty T k) (a.seat o) (o + p) (content (child_ty T k) (part_of k c))) P (o + p) _ _ (under-present k p a)
      (one (part_of k c) (a.seat o) (o + p) a.fits (omega (arith, a.room)))

  module _ (y : Body T c) (one : (k : ℕ) → Law (child_ty T k)) where
    tail-same : (k : ℕ) → k < length (parts c) → (g : ℕ) → flag (part_of k c) ≡ g → g < 2 → (wd : Option ℕ) → (codec (child_ty T k)).wide ≡ wd
        → Same P (o + data_at T c y lim k) (kid_tail (kid_at y.ks k) (part_of k c)) (kid_tail (kid_at y.ks k) (clean (part_of k c)))
    tail-same k lt zero z b none e =
        let t = child_ty T k in
        let x = part_of k c in
        let i = y.kinds k (omega (arith, all-length y.w y.ks (parts c) y.fit)) in
        same_by P (o + data_at T c y lim k) _ _ (padded (content t x)) (padded (content t (clean x)))
        (out-tail y.w t (kid_at y.ks k) x i e z) (out-tail y.w t (kid_at y.ks k) (clean x) i e (flag-clean x ∙ z))
        (same-padded P (o + data_at T c y lim k) _ _ (present-same k (data_at T c y lim k) (present-child T c y lim k lt z e) (one k)))
    tail-same k lt zero z b (some v) e =
        let t = child_ty T k in
        let x = part_of k c in
        let i = y.kinds k (omega (arith, all-length y.w y.ks (parts c) y.fit)) in
        same_of P (o + data_at T c y lim k) _ _
        (in_tail y.w v t (kid_at y.ks k) (clean x) i e (flag-clean x ∙ z) ∙ sym (in_tail y.w v t (kid_at y.ks k) x i e z))
    tail-same k lt (suc zero) z b wd e =
        let x = part_of k c in
        same_of P (o + data_at T c y lim k) _ _ (null-tail (kid_at y.ks k) (clean x) (flag-clean x ∙ z) ∙ sym (null-tail (kid_at y.ks k) x z))
    tail-same k lt (suc (suc g)) z b wd e = absurd (omega arith)

    body-law : Same P o (content T c) (content T (clean c))
    unfolding body_put
    body-law =
        let hs = y.head in
        let ks = y.ks in
        let cs = parts c in
        let n = length ks in
        let m = le (bitmap n) (flags cs) in
        let at = front y.h y.w n in
        let l = y.lawful in
        let s = slots at ks cs in
        let ps : length (padded s) ≡ pad (n * y.w) = length-padded s ∙ ap pad (slots_length y.w at ks cs l y.fit) in
        same_by P o (content T c) (content T (clean c)) _ _ y.is y.cleaned
        (same-append P o (o + y.h) hs hs _ _ (rw y.long) (same_of P o hs hs refl)
        (same-append P (o + y.h) (o + y.h + bitmap n) m _ _ _ (rw length-le) (same_of P (o + y.h) _ _ (ap (le (bitmap n)) (flags-clean cs)))
        (same-append P (o + y.h + bitmap n) (o + at) (padded s) _ _ _ (rw ps (omega arith)) (same-padded P (o + y.h + bitmap n) s _
        (slots_same P y.w (o + y.h + bitmap n) at ks cs l y.fit (λ k h. rw (y.kinds k h) (kid-tidy y.w (child_ty T k)))
        (λ k h z i lo hi. under-missing k (slot_at T c y lim k) y.w (null-child T c y lim k h z) i (omega arith) (omega arith))))
        (tails-same P y.w (o + at) ks cs y.fit
        (λ k h. rw (add_assoc o at (before ks cs k)) (tail-same k h (flag (part_of k c)) refl (flag-bit (part_of k c)) (codec (child_ty T k)).wide refl))))))

-- ---- types

list_law : (t : Ty) → Law t → Law (li t)
unfolding child_ty
list_law t one c s o f lim = body-law (li t) c f lim s o (list-body t c f lim) (λ k. one)

map-law : (k v : Ty) → Law (li k) → Law (li v) → Law (ma k v)
unfolding codec pair child_ty
map-law k v one two c s o f lim =
    let p = content (li k) (part_of 0 c) in
    let p' = content (li k) (part_of 0 (clean c)) in
    let q = content (li v) (part_of 1 c) in
    let q' = content (li v) (part_of 1 (clean c)) in
    let P = UnderAt (ma k v) s o (content (ma k v) c) in
    let e : length p' ≡ length p = rw (part-clean 0 c) (clean-fits (li k) (part_of 0 c) f.keys).size in
    same-append P o (o + 8) (le 8 (length p)) (le 8 (length p')) (p ++ q) (p' ++ q') (rw length-le) (same_of P o _ _ (ap (le 8) e))
    (same-append P (o + 8) (o + (8 + length p)) p p' q q' (omega arith)
    (rw (part-clean 0 c) (present-same (ma k v) c f lim s o 0 8 (keys-present k v c f lim) one))
    (rw (part-clean 1 c) (present-same (ma k v) c f lim s o 1 (8 + length p) (values-present k v c f lim) two)))

struct_law : (ts : Tys) → ((k : ℕ) → Law (field ts k)) → Law (ro ts)
unfolding child_ty
struct_law ts one c s o f lim = body-law (ro ts) c f lim s o (struct-body ts c f) one

leaf-law : (k : Text) → Law (text k)
unfolding codec string
leaf-law k c s o f lim = same_of (UnderAt (text k) s o (content (text k) c)) o _ _ (bytes-clean c)

number-law : (n : Fixed) → Law (fix n)
unfolding codec number
number-law n c s o f lim = same_of (UnderAt (fix n) s o (content (fix n) c)) o _ _ (bytes-clean c)

mutual
  unfolding field

  law : (t : Ty) → Law t
  law (fix n) c s o f lim = number-law n c s o f lim
  law (text k) c s o f lim = leaf-law k c s o f lim
  law (li t) c s o f lim = list_law t (λ c s o f lim. law t c s o f lim) c s o f lim
  law (ma k v) c s o f lim =
      map-law k v (list_law k (λ c s o f lim. law k c s o f lim)) (list_law v (λ c s o f lim. law v c s o f lim)) c s o f lim
  law (ro ts) c s o f lim = struct_law ts (λ k. laws ts k) c s o f lim

  laws : (ts : Tys) (k : ℕ) → Law (field ts k)
  laws end k = leaf-law st
  laws (t then ts) zero = λ c s o f lim. law t c s o f lim
  laws (t then ts) (suc k) = laws ts k

pub under-or-same : (ts : Tys) (c : Cell) (i : ℕ) → Fits (ro ts) c → length (content (ro ts) c) < 2 ^ 32
    → UnderNull ts (content (ro ts) c) i ⊎ (get_or (content (ro ts) (clean c)) i 0 ≡ get_or (content (ro ts) c) i 0)
under-or-same ts c i f lim = go (lt-or-le i (length (content (ro ts) c)))
  where
    row : UnderAt (ro ts) root_seat 0 (content (ro ts) c) (0 + i) → UnderNull ts (content (ro ts) c) i
    row u = record { path = u.path; seat = u.seat; null = u.null; from = omega (arith, u.from); to = omega (arith, u.to) }

    go : (i < length (content (ro ts) c)) ⊎ (length (content (ro ts) c) ≤ i)
        → UnderNull ts (content (ro ts) c) i ⊎ (get_or (content (ro ts) (clean c)) i 0 ≡ get_or (content (ro ts) c) i 0)
    go (inl lt) = either row (λ e. e) ((law (ro ts) c root_seat 0 f lim).each i lt)
    go (inr ge) = inr (get_or-eq_default (content (ro ts) (clean c)) 0 (rw (clean-fits (ro ts) c f).size ge)
        ∙ sym (get_or-eq_default (content (ro ts) c) 0 ge))
