-- A part of a run of bytes: its length, its bytes, parts side by side and parts of parts. Assumes nothing.
use mathlib.Core.Path.{◌≡◌, sym, ap, ◌∙◌}
use mathlib.Core.Logic.{◌⊎◌, inl, inr, ⊎_elim}
use mathlib.Core.List.{List, [], ◌∷◌, ◌++◌}
use Prim.Native.Nat.{ℕ, zero, suc, ◌+◌, ◌-◌, ◌≤◌, ◌<◌, zero-le}
use native.Mathlib.Nat.{sub-zero, zero-sub, suc-sub-suc}
use native.Mathlib.Omega.{arith}
use lib.ListN.{length, take, drop, get_or, length-take, length-drop}
use lib.Seq.{drop-cons, get_or-drop, get_or-take, take-add, take-suc, take-take, take-nil, take-length, drop-drop}
use Rattle.words.specs.Bytes.{Bytes, part}
use Rattle.words.proofs.Numbers.{bytes_take, bytes_drop}

pub lt-or-le : (a b : ℕ) → (a < b) ⊎ (b ≤ a)
lt-or-le a zero = inr zero-le
lt-or-le zero (suc b) = inl (omega arith)
lt-or-le (suc a) (suc b) = ⊎_elim (λ p. inl (omega arith)) (λ q. inr (omega arith)) (lt-or-le a b)

-- where an index stands to a place of n bytes from at on
pub around : (i at n : ℕ) → (i < at) ⊎ (((at ≤ i) × (i < at + n)) ⊎ (at + n ≤ i))
around i at n = ⊎_elim inl (λ g. inr (⊎_elim (λ l. inl (g, l)) inr (lt-or-le i (at + n)))) (lt-or-le i at)

-- a byte that is not 0 lies within the list
pub byte-room : (u : List ℕ) (i : ℕ) → 1 ≤ get_or u i 0 → i < length u
byte-room [] i h = absurd (omega arith)
byte-room (x ∷ u) zero h = omega arith
byte-room (x ∷ u) (suc i) h = omega (arith, byte-room u i h)

pub length_part : (b : List ℕ) (at k : ℕ) → at + k ≤ length b → length (part b at k) ≡ k
length_part b at k h = simp (length-take, length-drop) (omega arith)

pub bytes-part : {b : List ℕ} (at k : ℕ) → Bytes b → Bytes (part b at k)
bytes-part at k h = bytes_take k (bytes_drop at h)

pub get_d_part : (b : List ℕ) (at k i : ℕ) → i < k → get_or (part b at k) i 0 ≡ get_or b (at + i) 0
get_d_part b at k i h = rw (get_or-take, get_or-drop)

-- by its first byte, and by its last
pub part-cons : (b : List ℕ) (at k : ℕ) → at < length b → part b at (suc k) ≡ get_or b at 0 ∷ part b (suc at) k
part-cons b at k h = rw (drop-cons b at 0)

pub part-snoc : (b : List ℕ) (at k : ℕ) → at + k < length b → part b at (suc k) ≡ part b at k ++ (get_or b (at + k) 0 ∷ [])
part-snoc b at k h =
    let l : k < length (drop at b) = simp length-drop (omega arith) in
    take-suc (drop at b) k 0 l ∙ ap (λ (x : ℕ). part b at k ++ (x ∷ [])) (get_or-drop at b k 0)

-- parts side by side
pub part-add : (b : List ℕ) (at j k : ℕ) → part b at (j + k) ≡ part b at j ++ part b (at + j) k
part-add b at j k = rw (take-add j k (drop at b), drop-drop j at b)

pub part-whole : (b : List ℕ) → part b 0 (length b) ≡ b
part-whole b = take-length b

pub drop-take : (b n : ℕ) (l : List ℕ) → drop b (take n l) ≡ take (n - b) (drop b l)
drop-take zero n l = ap (λ (k : ℕ). take k l) (sym (sub-zero n))
drop-take (suc b) zero l = ap (λ (k : ℕ). take k (drop (suc b) l)) (sym (zero-sub (suc b)))
drop-take (suc b) (suc n) [] = sym (take-nil (suc n - suc b))
drop-take (suc b) (suc n) (x ∷ xs) = drop-take b n xs ∙ ap (λ (k : ℕ). take k (drop b xs)) (sym (suc-sub-suc n b))

-- a part of a part, which is how nested containers lie: offsets add
pub part-part : (b : List ℕ) (at n off k : ℕ) → off + k ≤ n → part (part b at n) off k ≡ part b (at + off) k
part-part b at n off k h =
    ap (take k) (drop-take off n (drop at b)) ∙ take-take k (n - off) (drop off (drop at b)) (omega arith) ∙ ap (take k) (drop-drop off at b)
