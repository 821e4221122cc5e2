-- A run of bytes put in the place of others by `sets`: what is read of it, inside and outside, runs in one list and in
-- lists side by side, and a run inside a part. Assumes nothing.
use mathlib.Core.Path.{◌≡◌, refl, sym, ap, ◌∙◌}
use mathlib.Core.Logic.{◌⊎◌, inl, inr, ⊎_elim}
use mathlib.Core.List.{List, [], ◌∷◌, ◌++◌, append-nil, append_assoc}
use Prim.Native.Nat.{ℕ, zero, suc, ◌+◌, ◌-◌, ◌≤◌, ◌<◌}
use native.Mathlib.Nat.{add-zero, add-suc, suc-add, zero-add, not-suc-le-zero}
use native.Mathlib.Omega.{arith}
use lib.ListN.{length, take, drop, get_or, set, length-append, length-set, length-take, take-append-drop, get_or-append}
use lib.Seq.{sets, sets-eq, length-sets, set_comm, set-set, set-append_left}
use lib.Seq.{drop_at, drop-length, take-add, ext_get_or, drop-drop, length-take-le, get_or-append-add}
use lib.Seq.{get_or-drop, get_or-set_other}
use borrow.Rule.Slice.PartMut.{put_mid}
use Rattle.words.specs.Bytes.{Bytes, empty, byte, part}
use Rattle.words.proofs.Parts.{around, length_part, get_d_part}

-- ---- runs in one list: these hold in range or not

-- two runs that touch are one
pub sets-append : (l : List ℕ) (p : ℕ) (us vs : List ℕ) → sets (sets l p us) (p + length us) vs ≡ sets l p (us ++ vs)
sets-append l p [] vs = rw add-zero
sets-append l p (a ∷ us) vs = ap (λ (k : ℕ). sets (sets (set l p a) (suc p) us) k vs) (add-suc p (length us) ∙ sym (suc-add p (length us)))
    ∙ sets-append (set l p a) (suc p) us vs

pub sets_then : (l : List ℕ) (p q : ℕ) (us vs : List ℕ) → q ≡ p + length us → sets (sets l p us) q vs ≡ sets l p (us ++ vs)
sets_then l p q us vs e = rw e (sets-append l p us vs)

-- a store right behind a run
pub set-sets : (l : List ℕ) (p q : ℕ) (us : List ℕ) (v : ℕ) → q ≡ p + length us → set (sets l p us) q v ≡ sets l p (us ++ (v ∷ []))
set-sets l p q us v e = sets_then l p q us (v ∷ []) e

set_past : (l : List ℕ) (i j a : ℕ) (vs : List ℕ) → i < j → set (sets l j vs) i a ≡ sets (set l i a) j vs
set_past l i j a [] h = refl
set_past l i j a (v ∷ vs) h =
    set_past (set l j v) i (suc j) a vs (omega arith)
    ∙ ap (λ (x : List ℕ). sets x (suc j) vs) (set_comm l j i v a (λ e. omega arith))

-- runs apart, in either order
pub sets-comm : (l : List ℕ) (i j : ℕ) (us vs : List ℕ) → i + length us ≤ j → sets (sets l j vs) i us ≡ sets (sets l i us) j vs
sets-comm l i j [] vs h = refl
sets-comm l i j (a ∷ us) vs h =
    let p : i < j = omega arith in
    let q : suc i + length us ≤ j = omega arith in
    ap (λ (x : List ℕ). sets x (suc i) us) (set_past l i j a vs p) ∙ sets-comm (set l i a) (suc i) j us vs q

-- a run over the front of a run
sets-front : (l : List ℕ) (p : ℕ) (us vs : List ℕ) → length vs ≤ length us → sets (sets l p us) p vs ≡ sets l p (vs ++ drop (length vs) us)
sets-front l p us [] h = refl
sets-front l p [] (b ∷ vs) h = absurd (not-suc-le-zero h)
sets-front l p (a ∷ us) (b ∷ vs) h =
    ap (λ (x : List ℕ). sets x (suc p) vs) (set_past (set l p a) p (suc p) b us (omega arith) ∙ ap (λ (x : List ℕ). sets x (suc p) us) (set-set l p a b))
    ∙ sets-front (set l p b) (suc p) us vs (omega arith)

-- of two runs at one place the last alone counts
pub sets_last : (l : List ℕ) (p : ℕ) (us vs : List ℕ) → length us ≡ length vs → sets (sets l p us) p vs ≡ sets l p vs
sets_last l p us vs e =
    sets-front l p us vs (omega arith)
    ∙ ap (λ (t : List ℕ). sets l p (vs ++ t)) (ap (λ (k : ℕ). drop k us) (sym e) ∙ drop-length us)
    ∙ ap (sets l p) (append-nil vs)

-- what stands before a run
pub sets-low : (l : List ℕ) (q : ℕ) (vs : List ℕ) (p : ℕ) → p < q → get_or (sets l q vs) p 0 ≡ get_or l p 0
sets-low l q [] p h = refl
sets-low l q (v ∷ vs) p h = sets-low (set l q v) (suc q) vs p (omega arith) ∙ get_or-set_other l q p v 0 (λ e. omega arith)

bytes-set : {b : List ℕ} (i : ℕ) {a : ℕ} → Bytes b → a < 256 → Bytes (set b i a)
bytes-set i empty p = empty
bytes-set zero (byte d h) p = byte p h
bytes-set (suc i) (byte d h) p = byte d (bytes-set i h p)

pub bytes-sets : {b v : List ℕ} (at : ℕ) → Bytes b → Bytes v → Bytes (sets b at v)
bytes-sets at h empty = h
bytes-sets at h (byte d k) = bytes-sets (suc at) (bytes-set at h d) k

-- ---- lists side by side

set-behind : (xs ys : List ℕ) (i v : ℕ) → set (xs ++ ys) (length xs + i) v ≡ xs ++ set ys i v
set-behind [] ys i v = rw zero-add
set-behind (x ∷ xs) ys i v = rw (suc-add, set-behind xs ys i v)

pub sets_behind : (xs ys : List ℕ) (i : ℕ) (v : List ℕ) → sets (xs ++ ys) (length xs + i) v ≡ xs ++ sets ys i v
sets_behind xs ys i [] = refl
sets_behind xs ys i (v ∷ vs) = rw (set-behind, ← (add-suc (length xs) i)) (sets_behind xs (set ys i v) (suc i) vs)

pub sets-ahead : (xs ys : List ℕ) (i : ℕ) (v : List ℕ) → i + length v ≤ length xs → sets (xs ++ ys) i v ≡ sets xs i v ++ ys
sets-ahead xs ys i [] h = refl
sets-ahead xs ys i (v ∷ vs) h = rw (set-append_left xs ys i v (omega arith)) (sets-ahead (set xs i v) ys (suc i) vs (rw length-set (omega arith)))

-- a run of k bytes that the code writes as a range of its own
pub put_mid-sets : (b v : List ℕ) (at k : ℕ) → length v ≡ k → at + k ≤ length b → put_mid at k b v ≡ sets b at v
put_mid-sets b v at k e h =
    sym (append_assoc (take at b) v _) ∙ ap (λ (t : List ℕ). take at b ++ v ++ t) (drop-drop k at b ∙ ap (λ (n : ℕ). drop (at + n) b) (sym e))
    ∙ sym (sets-eq v b at (omega arith))

-- a run over the whole of u
pub sets_over : (u v ys : List ℕ) → length v ≡ length u → sets (u ++ ys) 0 v ≡ v ++ ys
sets_over u v ys h = rw (sets-eq v (u ++ ys) 0 (rw length-append (omega arith)), zero-add, drop_at u ys (length v) (sym h))

pub sets-whole : (u v : List ℕ) → length v ≡ length u → sets u 0 v ≡ v
sets-whole u v h = rw (append-nil, append-nil) at (sets_over u v [] h)

-- ---- what is read of a run

module _ (b : List ℕ) (at : ℕ) (v : List ℕ) (fits : at + length v ≤ length b) where
  head-long : length (take at b ++ v) ≡ at + length v
  head-long = simp (length-append, length-take) (omega arith)

  pub get_or-sets-lo : (i : ℕ) → i < at → get_or (sets b at v) i 0 ≡ get_or b i 0
  get_or-sets-lo = sets-low b at v

  pub get_or-sets-in : (j : ℕ) → j < length v → get_or (sets b at v) (at + j) 0 ≡ get_or v j 0
  get_or-sets-in j h =
      let long : length (take at b) ≡ at = length-take-le at b (omega arith) in
      ap (λ (l : List ℕ). get_or l (at + j) 0) (sets-eq v b at fits)
      ∙ get_or-append (take at b ++ v) (drop (at + length v) b) 0 (at + j) (rw head-long (omega arith))
      ∙ ap (λ (n : ℕ). get_or (take at b ++ v) (n + j) 0) (sym long)
      ∙ get_or-append-add (take at b) v j 0

  pub get_or-sets-hi : (i : ℕ) → at + length v ≤ i → get_or (sets b at v) i 0 ≡ get_or b i 0
  get_or-sets-hi i h =
      let k = i - (at + length v) in
      let e : i ≡ (at + length v) + k = omega arith in
      ap (λ (l : List ℕ). get_or l i 0) (sets-eq v b at fits)
      ∙ rw e (ap (λ (n : ℕ). get_or (take at b ++ v ++ drop (at + length v) b) (n + k) 0) (sym head-long)
      ∙ get_or-append-add (take at b ++ v) (drop (at + length v) b) k 0
      ∙ get_or-drop (at + length v) b k 0)

  -- what is set reads as set
  pub part-sets : part (sets b at v) at (length v) ≡ v
  part-sets =
      let long : length (part (sets b at v) at (length v)) ≡ length v = length_part (sets b at v) at (length v) (rw length-sets fits) in
      ext_get_or 0 (part (sets b at v) at (length v)) v long
      (λ i h. let h' : i < length v = omega (arith, long) in get_d_part (sets b at v) at (length v) i h' ∙ get_or-sets-in i h')

  -- a part that lies apart reads as before
  pub part_apart : (from k : ℕ) → (from + k ≤ at) ⊎ (at + length v ≤ from) → from + k ≤ length b → part (sets b at v) from k ≡ part b from k
  part_apart from k o h =
      let long : length (part (sets b at v) from k) ≡ k = length_part (sets b at v) from k (rw length-sets h) in
      let long' : length (part b from k) ≡ k = length_part b from k h in
      ext_get_or 0 (part (sets b at v) from k) (part b from k) (long ∙ sym long')
      (λ i l. let l' : i < k = omega (arith, long) in
      get_d_part (sets b at v) from k i l'
      ∙ ⊎_elim (λ p. get_or-sets-lo (from + i) (omega arith)) (λ p. get_or-sets-hi (from + i) (omega arith)) o
      ∙ sym (get_d_part b from k i l'))

-- setting what is there alters nothing
pub sets_same : (b : List ℕ) (at k : ℕ) → at + k ≤ length b → sets b at (part b at k) ≡ b
sets_same b at k h =
    let long : length (part b at k) ≡ k = length_part b at k h in
    sets-eq (part b at k) b at (rw long h) ∙ rw long (rw (← take-add at k b, take-append-drop))

-- ---- a run inside a part

module _ (b : List ℕ) (at n off : ℕ) (v : List ℕ) (h : at + n ≤ length b) (k : off + length v ≤ n) where
  inner : off + length v ≤ length (part b at n)
  inner = rw (length_part b at n h) k

  whole : at + off + length v ≤ length b
  whole = omega arith

  long : length (sets (part b at n) off v) ≡ n
  long = length-sets (part b at n) off v ∙ length_part b at n h

  at_each : (i : ℕ) → i < n → get_or (sets b (at + off) v) (at + i) 0 ≡ get_or (sets (part b at n) off v) i 0
  at_each i l = ⊎_elim
      (λ lo. get_or-sets-lo b (at + off) v whole (at + i) (omega arith) ∙ sym (get_or-sets-lo (part b at n) off v inner i lo ∙ get_d_part b at n i l))
      (λ o. ⊎_elim
      (λ mid. let e : at + i ≡ at + off + (i - off) = omega (arith, mid.0) in
      let f : i ≡ off + (i - off) = omega (arith, mid.0) in
      ap (λ (x : ℕ). get_or (sets b (at + off) v) x 0) e ∙ get_or-sets-in b (at + off) v whole (i - off) (omega (arith, mid.0, mid.1))
      ∙ sym (ap (λ (x : ℕ). get_or (sets (part b at n) off v) x 0) f ∙ get_or-sets-in (part b at n) off v inner (i - off) (omega (arith, mid.0, mid.1))))
      (λ hi. get_or-sets-hi b (at + off) v whole (at + i) (omega arith) ∙ sym (get_or-sets-hi (part b at n) off v inner i hi ∙ get_d_part b at n i l))
      o)
      (around i off (length v))

  -- a part around the place has it set at the difference of the offsets
  part-sets-in : part (sets b (at + off) v) at n ≡ sets (part b at n) off v
  part-sets-in =
      let same : length (part (sets b (at + off) v) at n) ≡ n = length_part (sets b (at + off) v) at n (rw length-sets h) in
      ext_get_or 0 (part (sets b (at + off) v) at n) (sets (part b at n) off v) (same ∙ sym long)
      (λ i l. let l' : i < n = omega (arith, same) in get_d_part (sets b (at + off) v) at n i l' ∙ at_each i l')

-- two lists that differ in a place alone: that place of the one set in the other gives the one
sets-agree : (b r : List ℕ) (at n : ℕ) → length b ≡ length r → at + n ≤ length b → ((i : ℕ) → (i < at) ⊎ (at + n ≤ i) → get_or b i 0 ≡ get_or r i 0)
    → sets b at (part r at n) ≡ r
sets-agree b r at n e h same =
    let long : length (part r at n) ≡ n = length_part r at n (omega arith) in
    let fits : at + length (part r at n) ≤ length b = rw long h in
    ext_get_or 0 (sets b at (part r at n)) r (length-sets b at (part r at n) ∙ e)
    (λ i l. ⊎_elim
    (λ lo. get_or-sets-lo b at (part r at n) fits i lo ∙ same i (inl lo))
    (λ o. ⊎_elim
    (λ mid. let f : i ≡ at + (i - at) = omega (arith, mid.0) in
    ap (λ (x : ℕ). get_or (sets b at (part r at n)) x 0) f ∙ get_or-sets-in b at (part r at n) fits (i - at) (omega (arith, mid.0, mid.1, long))
    ∙ get_d_part r at n (i - at) (omega (arith, mid.0, mid.1)) ∙ sym (ap (λ (x : ℕ). get_or r x 0) f))
    (λ hi. get_or-sets-hi b at (part r at n) fits i (omega (arith, long)) ∙ same i (inr hi))
    o)
    (around i at n))

-- what is set in a part is set in the whole, at the sum of the offsets
pub sets-part-in : (b : List ℕ) (at n off : ℕ) (v : List ℕ) → at + n ≤ length b → off + length v ≤ n
    → sets b at (sets (part b at n) off v) ≡ sets b (at + off) v
sets-part-in b at n off v h k =
    let w : at + off + length v ≤ length b = omega arith in
    ap (sets b at) (sym (part-sets-in b at n off v h k))
    ∙ sets-agree b (sets b (at + off) v) at n (sym (length-sets b (at + off) v)) h
    (λ i o. sym (⊎_elim (λ lo. get_or-sets-lo b (at + off) v w i (omega arith)) (λ hi. get_or-sets-hi b (at + off) v w i (omega arith)) o))
