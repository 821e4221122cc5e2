-- A line of the picture, piece by piece, and how long each is at most. Assumes nothing.
use mathlib.Core.Path.{◌≡◌, refl, sym, ap, ap₂, ◌∙◌}
use mathlib.Core.Bool.{Bool, true, false, cond}
use mathlib.Core.Option.{Option, none, some}
use mathlib.Core.List.{List, [], ◌∷◌, ◌++◌, append_assoc, append-nil}
use Prim.Native.Nat.{ℕ, zero, suc, ◌+◌, ◌-◌, ◌*◌, ◌/◌, ◌%◌, ◌≤◌, ◌<◌}
use native.Mathlib.Omega.{arith}
use native.Mathlib.Numerals.{add-one}
use lib.Bits.{bit_and}
use lib.Dec.{eqb, ltb}
use lib.ListN.{length, take, drop, get_or, replicate, length-append, length-take, length-drop}
use lib.Seq.{take-suc, take_all}
use borrow.Rule.Slice.PartMut.{put_mid}
use borrow.Author.Tests.{lt-ltb, le-ltb, eq-eqb, ne_eqb, ltb-true, ltb-false}
use Rattle.io.specs.Digits.{hex_digit_ascii}
use Rattle.words.specs.Bytes.{part}
use Rattle.words.proofs.Parts.{length_part}
use Rattle.words.proofs.Powers.{mask_is}
use Rattle.chart.specs.Claims.{what_at, held, steps_at}
use Rattle.chart.proofs.Claiming.{held-few}
use Rattle.lettering.specs.Text.{hex, path, Puts}
use Rattle.lettering.proofs.Putting.{puts_none, puts_then, puts-as, puts_mid, run-is, less_one, last-digit}
use Rattle.lettering.proofs.Lengths.{hex-length, path-most}
use Rattle.picture.specs.Picture.{spaces, right, spaced, on_line, word, padding, link, linked, label, labelled, line_of, mark, under, behind, fault_of}
use Rattle.std.specs.Prelude.{Option as Fault, None, Some}

-- ---- spaces

pub spaces-length : (n : ℕ) → length (spaces n) ≡ n
unfolding spaces
spaces-length zero = refl
spaces-length (suc n) = ap suc (spaces-length n)

spaces-are : (n : ℕ) → replicate n 32 ≡ spaces n
unfolding spaces
spaces-are zero = refl
spaces-are (suc n) = ap (λ (l : List ℕ). 32 ∷ l) (spaces-are n)

-- a run of bytes filled with spaces
pub spaces-puts : {u : List ℕ} (out : List ℕ) (at n : ℕ) → u ≡ replicate (length (take (at + n - at) (drop at out))) 32 → at + n ≤ length out
    → Puts out at (spaces n) (at + n) (put_mid at (at + n - at) out u)
spaces-puts {u} out at n e h =
    let k : length (take (at + n - at) (drop at out)) ≡ n = rw (length-take, length-drop) (omega arith) in
    let s : u ≡ spaces n = rw (e, k) (spaces-are n) in
    puts-as s (puts_mid at n (ap length s ∙ spaces-length n) h)

-- ---- a number in its columns

right_of : (t : Bool) (k g h : ℕ) (l : List ℕ) → length l ≡ k → length (cond t (spaces k ++ (g ∷ [])) (l ++ (h ∷ []))) ≡ suc k
right_of true k g h l e = length-append (spaces k) (g ∷ []) ∙ rw (spaces-length k) (omega arith)
right_of false k g h l e = length-append l (h ∷ []) ∙ rw e (omega arith)

pub right-length : (k n : ℕ) → length (right k n) ≡ k
unfolding right
right-length zero n = refl
right-length (suc k) n = right_of (ltb n 10) k (hex_digit_ascii n) (hex_digit_ascii (n % 10)) (right k (n / 10)) (right-length k (n / 10))

right-first : (k n : ℕ) → (k ≡ 0 → ⊥) → n < 10 → spaces (k - 1) ++ (hex_digit_ascii n ∷ []) ≡ right k n
unfolding right
right-first zero n h l = absurd (h refl)
right-first (suc k) n h l = rw (less_one k, lt-ltb n 10 l)

right-digit : (k n : ℕ) → (k ≡ 0 → ⊥) → 10 ≤ n → right (k - 1) (n / 10) ++ (hex_digit_ascii (n % 10) ∷ []) ≡ right k n
unfolding right
right-digit zero n h l = absurd (h refl)
right-digit (suc k) n h l = rw (less_one k, le-ltb n 10 l)

pub right-none : (out : List ℕ) (at k n : ℕ) → k ≡ 0 → Puts out at (right k n) at out
unfolding right
right-none out at k n e = rw e (puts_none out at)

pub right-one : {a b c : List ℕ} {at m r : ℕ} (k n d : ℕ) → (k ≡ 0 → ⊥) → n < 10 → d ≡ hex_digit_ascii n → Puts a at (spaces (k - 1)) m b
    → Puts b m (d ∷ []) r c → Puts a at (right k n) r c
right-one k n d h l e p q = puts-as (ap (λ (x : ℕ). spaces (k - 1) ++ (x ∷ [])) e ∙ right-first k n h l) (puts_then p q)

pub right-more : {a b c : List ℕ} {at m r : ℕ} (k n q d : ℕ) → (k ≡ 0 → ⊥) → 10 ≤ n → q ≡ n / 10 → d ≡ hex_digit_ascii (n - 10 * q) → Puts a at (right (k - 1) q) m b
    → Puts b m (d ∷ []) r c → Puts a at (right k n) r c
right-more k n q d h l t e p s =
    puts-as (ap₂ (λ (x y : ℕ). right (k - 1) x ++ (y ∷ [])) t (e ∙ ap hex_digit_ascii (last-digit n q t)) ∙ right-digit k n h l) (puts_then p s)

-- ---- bytes

spaced-append : (xs ys : List ℕ) → spaced (xs ++ ys) ≡ spaced xs ++ spaced ys
unfolding spaced
spaced-append [] ys = refl
spaced-append (x ∷ xs) ys = rw (spaced-append xs ys, append_assoc)

spaced-one : (b : ℕ) → spaced (b ∷ []) ≡ 32 ∷ hex 2 b
unfolding spaced
spaced-one b = append-nil (32 ∷ hex 2 b)

spaced-length : (b : List ℕ) → length (spaced b) ≡ 3 * length b
unfolding spaced
spaced-length [] = refl
spaced-length (b ∷ bs) = length-append (32 ∷ hex 2 b) (spaced bs) ∙ rw (hex-length 2 b, spaced-length bs) (omega arith)

pub spaced-none : (out bytes : List ℕ) (at : ℕ) → Puts out at (spaced (take 0 bytes)) at out
unfolding spaced
spaced-none out bytes at = puts_none out at

pub spaced-more : {a b c d : List ℕ} {at m k r : ℕ} (bytes : List ℕ) (i x : ℕ) → i < length bytes → x ≡ get_or bytes i 0
    → Puts a at (spaced (take i bytes)) m b → Puts b m (32 ∷ []) k c → Puts c k (hex 2 x) r d → Puts a at (spaced (take (i + 1) bytes)) r d
spaced-more bytes i x h e p s q =
    puts-as (ap (λ (y : ℕ). spaced (take i bytes) ++ (32 ∷ hex 2 y)) e
    ∙ ap (λ (l : List ℕ). spaced (take i bytes) ++ l) (sym (spaced-one (get_or bytes i 0)))
    ∙ sym (spaced-append (take i bytes) (get_or bytes i 0 ∷ []))
    ∙ ap spaced (sym (take-suc bytes i 0 h))
    ∙ ap (λ (n : ℕ). spaced (take n bytes)) (sym (add-one i)))
    (puts_then p (puts_then s q))

pub spaced-all : {a b : List ℕ} {at r : ℕ} (bytes : List ℕ) (i : ℕ) → length bytes ≤ i → Puts a at (spaced (take i bytes)) r b → Puts a at (spaced bytes) r b
spaced-all bytes i h p = puts-as (ap spaced (take_all i bytes h)) p

pub spaced-run : {a b : List ℕ} {at r : ℕ} (row : List ℕ) (i n : ℕ) → Puts a at (spaced (take (i + n - i) (drop i row))) r b
    → Puts a at (spaced (part row i n)) r b
spaced-run row i n p = puts-as (ap spaced (run-is row i n)) p

pub on-line-fits : (n u : ℕ) → 8 * u < n → (on_line n u ≤ 8) × (8 * u + on_line n u ≤ n)
on-line-fits n u h = go (ltb (n - 8 * u) 8) refl
  where
    go : (t : Bool) → ltb (n - 8 * u) 8 ≡ t → (cond t (n - 8 * u) 8 ≤ 8) × (8 * u + cond t (n - 8 * u) 8 ≤ n)
    go true e = (omega (arith, ltb-true (n - 8 * u) 8 e), omega arith)
    go false e = (omega arith, omega (arith, ltb-false (n - 8 * u) 8 e))

pub spaced-most : (row : List ℕ) (u k : ℕ) → k ≡ on_line (length row) u → 8 * u < length row → length (spaced (part row (8 * u) k)) ≤ 24
spaced-most row u k e h =
    let f = on-line-fits (length row) u h in
    omega (arith, spaced-length (part row (8 * u) k), length_part row (8 * u) k (rw e f.1), f.0, e)

-- ---- a label

pub word_none : (out : List ℕ) (at w : ℕ) → w ≡ 0 → Puts out at (word w) at out
unfolding word
word_none out at w e = rw e (puts_none out at)

pub word-is : {a b : List ℕ} {at r : ℕ} (k w : ℕ) → w ≡ k → Puts a at (word k) r b → Puts a at (word w) r b
word-is k w e p = puts-as (ap word (sym e)) p

pub word-most : (w : ℕ) → w < 8 → length (word w) ≤ 12
unfolding word
word-most zero h = omega arith
word-most (suc zero) h = omega arith
word-most (suc (suc zero)) h = omega arith
word-most (suc (suc (suc zero))) h = omega arith
word-most (suc (suc (suc (suc zero)))) h = omega arith
word-most (suc (suc (suc (suc (suc zero))))) h = omega arith
word-most (suc (suc (suc (suc (suc (suc zero)))))) h = omega arith
word-most (suc (suc (suc (suc (suc (suc (suc zero))))))) h = omega arith
word-most (suc (suc (suc (suc (suc (suc (suc (suc w)))))))) h = absurd (omega arith)

either-most : (t : Bool) (k : ℕ) (u v : List ℕ) → length u ≤ k → length v ≤ k → length (cond t u v) ≤ k
either-most true k u v a b = a
either-most false k u v a b = b

pub padding-most : (w : ℕ) → length (padding w) ≤ 12
unfolding padding
padding-most w = either-most (ltb w 8) 12 _ _ (omega arith) (omega arith)

pub link-most : (w : ℕ) → length (link w) ≤ 6
unfolding link
link-most w = either-most (eqb w 5) 6 _ _ (omega arith) (omega arith)

pub linked-none : (out : List ℕ) (at w : ℕ) (p : List ℕ) → length p ≡ 0 → Puts out at (linked w p) at out
unfolding linked
linked-none out at w [] h = puts_none out at
linked-none out at w (i ∷ p) h = absurd (omega arith)

pub linked-some : (w : ℕ) (p : List ℕ) → (length p ≡ 0 → ⊥) → link w ++ path p ≡ linked w p
unfolding linked
linked-some w [] h = absurd (h refl)
linked-some w (i ∷ p) h = refl

linked-most : (w : ℕ) (p : List ℕ) → length p ≤ 16 → length (linked w p) ≤ 342
unfolding linked
linked-most w [] h = omega arith
linked-most w (i ∷ p) h = omega (arith, length-append (link w) (path (i ∷ p)), link-most w, path-most (i ∷ p), h)

pub label-puts : {a b c d : List ℕ} {at i j r : ℕ} (w : ℕ) (p : List ℕ) → Puts a at (word (bit_and w 7)) i b → Puts b i (padding w) j c
    → Puts c j (linked (bit_and w 7) p) r d → Puts a at (label w p) r d
unfolding label
label-puts w p s t v = puts-as (ap (λ (x : ℕ). word x ++ (padding w ++ linked x p)) (mask_is w 3)) (puts_then s (puts_then t v))

label-most : (w : ℕ) (p : List ℕ) → length p ≤ 16 → length (label w p) ≤ 366
unfolding label
label-most w p h =
    omega (
      arith,
      length-append (word (w % 8)) (padding w ++ linked (w % 8) p),
      length-append (padding w) (linked (w % 8) p),
      word-most (w % 8) (omega arith),
      padding-most w,
      linked-most (w % 8) p h,
    )

pub labelled-none : (out : List ℕ) (at k w : ℕ) (p : List ℕ) → w ≡ 0 → Puts out at (labelled k w p) at out
unfolding labelled
labelled-none out at k w p e = rw (eq-eqb w 0 e) (puts_none out at)

pub labelled-some : (k w : ℕ) (p : List ℕ) → (w ≡ 0 → ⊥) → spaces (3 * (8 - k) + 2) ++ label w p ≡ labelled k w p
unfolding labelled
labelled-some k w p h = rw (ne_eqb w 0 h)

pub labelled-most : (k w : ℕ) (p : List ℕ) → length p ≤ 16 → length (labelled k w p) ≤ 392
unfolding labelled
labelled-most k w p h =
    let some = length-append (spaces (3 * (8 - k) + 2)) (label w p) in
    either-most (eqb w 0) 392 [] _ (omega arith) (omega (arith, some, spaces-length (3 * (8 - k) + 2), label-most w p h))

take-most : (n : ℕ) (l : List ℕ) → n ≤ 16 → length (take n l) ≤ 16
take-most n l h = rw length-take (omega arith)

pub steps-most : (m : List ℕ) (u : ℕ) → length (steps_at m u) ≤ 16
unfolding steps_at
steps-most m u = take-most (held (get_or m (18 * u + 1) 0)) (drop (18 * u + 2) m) (held-few (get_or m (18 * u + 1) 0))

-- ---- a line

pub line-puts : {a b c d e f : List ℕ} {at i j k l r : ℕ} (row m : List ℕ) (u n : ℕ) → n ≡ on_line (length row) u
    → Puts a at (right 5 (8 * u)) i b → Puts b i (32 ∷ []) j c → Puts c j (spaced (part row (8 * u) n)) k d
    → Puts d k (labelled n (what_at m u) (steps_at m u)) l e → Puts e l (10 ∷ []) r f → Puts a at (line_of row m u) r f
unfolding line_of
line-puts row m u n is p q s t v =
    let same = ap (λ (x : ℕ). right 5 (8 * u) ++ ((32 ∷ []) ++ (spaced (part row (8 * u) x) ++ (labelled x (what_at m u) (steps_at m u) ++ (10 ∷ []))))) is in
    puts-as same (puts_then p (puts_then q (puts_then s (puts_then t v))))

pub line-most : (row m : List ℕ) (u : ℕ) → 8 * u < length row → length (line_of row m u) ≤ 423
unfolding line_of
line-most row m u h =
    let n = on_line (length row) u in
    let t = labelled n (what_at m u) (steps_at m u) in
    let s = spaced (part row (8 * u) n) in
    rw (length-append (right 5 (8 * u)), length-append s, length-append t)
    (omega (arith, right-length 5 (8 * u), spaced-most row u n refl h, labelled-most n (what_at m u) (steps_at m u) (steps-most m u)))

-- ---- the mark

pub mark-puts : {a b c : List ℕ} {at m r : ℕ} (place : ℕ) → Puts a at (spaces (7 + 3 * bit_and place 7)) m b → Puts b m (94 ∷ 94 ∷ 10 ∷ []) r c
    → Puts a at (mark place) r c
unfolding mark
mark-puts place p q = puts-as (ap (λ (x : ℕ). spaces (7 + 3 * x) ++ (94 ∷ 94 ∷ 10 ∷ [])) (mask_is place 3)) (puts_then p q)

mark-most : (place : ℕ) → length (mark place) ≤ 31
unfolding mark
mark-most place = omega (arith, length-append (spaces (7 + 3 * (place % 8))) (94 ∷ 94 ∷ 10 ∷ []), spaces-length (7 + 3 * (place % 8)))

module _ (f : Fault ℕ) (u : ℕ) where
  module _ (out : List ℕ) (at : ℕ) where
    pub under-none : f ≡ None → Puts out at (under (fault_of f) u) at out
    unfolding under
    under-none e = rw e (puts_none out at)

    pub behind-none : f ≡ None → Puts out at (behind (fault_of f) u) at out
    unfolding behind
    behind-none e = rw e (puts_none out at)

  module _ (place : ℕ) (e : f ≡ Some place) where
    pub under-other : (out : List ℕ) (at : ℕ) → (place / 8 ≡ u → ⊥) → Puts out at (under (fault_of f) u) at out
    unfolding under
    under-other out at h = rw (e, ne_eqb (place / 8) u h) (puts_none out at)

    pub behind-inside : (out : List ℕ) (at : ℕ) → place / 8 < u → Puts out at (behind (fault_of f) u) at out
    unfolding behind
    behind-inside out at h = rw (e, lt-ltb (place / 8) u h) (puts_none out at)

    pub under-here : {a b : List ℕ} {at r : ℕ} → place / 8 ≡ u → Puts a at (mark place) r b → Puts a at (under (fault_of f) u) r b
    unfolding under
    under-here h p = rw (e, eq-eqb (place / 8) u h) p

    pub behind-last : {a b : List ℕ} {at r : ℕ} → u ≤ place / 8 → Puts a at (mark place) r b → Puts a at (behind (fault_of f) u) r b
    unfolding behind
    behind-last h p = rw (e, le-ltb (place / 8) u h) p

pub under-most : (f : Option ℕ) (u : ℕ) → length (under f u) ≤ 31
unfolding under
under-most none u = omega arith
under-most (some place) u = either-most (eqb (place / 8) u) 31 (mark place) [] (mark-most place) (omega arith)

pub behind-most : (f : Option ℕ) (n : ℕ) → length (behind f n) ≤ 31
unfolding behind
behind-most none n = omega arith
behind-most (some place) n = either-most (ltb (place / 8) n) 31 [] (mark place) (omega arith) (mark-most place)
