-- Little-endian numbers and bytes: each is the other's inverse. Assumes nothing.
use mathlib.Core.Path.{◌≡◌, refl, ap}
use mathlib.Core.List.{List, [], ◌∷◌, ◌++◌}
use Prim.Native.Nat.{ℕ, zero, suc, ◌+◌, ◌-◌, ◌*◌, ◌/◌, ◌%◌, ◌^◌, ◌≤◌, ◌<◌}
use native.Mathlib.Nat.{pow-succ'}
use native.Mathlib.Omega.{arith}
use mir.Val.{Fits}
use mir.Syntax.{w8}
use lib.ListN.{length, get_or, take, drop, length-append, length-replicate, take-append-drop}
use lib.Seq.{take-append_seam}
use Rattle.words.specs.Bytes.{Bytes, empty, byte, le, num, zeros, fill, pad, padded}

-- ---- bytes

pub bytes-append : {xs ys : List ℕ} → Bytes xs → Bytes ys → Bytes (xs ++ ys)
bytes-append empty k = k
bytes-append (byte d h) k = byte d (bytes-append h k)

bytes-split : (xs ys : List ℕ) → Bytes (xs ++ ys) → Bytes xs × Bytes ys
bytes-split [] ys h = (empty, h)
bytes-split (x ∷ xs) ys (byte d h) = let r = bytes-split xs ys h in (byte d r.0, r.1)

pub bytes_take : (n : ℕ) {b : List ℕ} → Bytes b → Bytes (take n b)
bytes_take n {b} h = (bytes-split (take n b) (drop n b) (rw take-append-drop h)).0

pub bytes_drop : (n : ℕ) {b : List ℕ} → Bytes b → Bytes (drop n b)
bytes_drop n {b} h = (bytes-split (take n b) (drop n b) (rw take-append-drop h)).1

pub bytes-zeros : (n : ℕ) → Bytes (zeros n)
bytes-zeros zero = empty
bytes-zeros (suc n) = byte {d = 0} (omega arith) (bytes-zeros n)

pub bytes_le : (w x : ℕ) → Bytes (le w x)
unfolding le
bytes_le zero x = empty
bytes_le (suc w) x = byte {d = x % 256} (omega arith) (bytes_le w (x / 256))

pub bytes-fill : (w : ℕ) {u : List ℕ} → Bytes u → Bytes (fill w u)
unfolding fill
bytes-fill w {u} h = bytes-append h (bytes-zeros (w - length u))

-- what is known of a slice's elements, and back
pub bytes_of : (b : List ℕ) → ((i : ℕ) → get_or b i 0 < 256) → Bytes b
bytes_of [] h = empty
bytes_of (d ∷ ds) h = byte (h 0) (bytes_of ds (λ i. h (suc i)))

-- as a place of the code knows it of a slice
pub slice-bytes : {b : List ℕ} → ((i : ℕ) → Fits w8 (get_or b i 0)) → Bytes b
slice-bytes {b} h = bytes_of b (λ i. (h i).fits)

pub byte_at : {b : List ℕ} → Bytes b → (i : ℕ) → get_or b i 0 < 256
byte_at empty i = omega arith
byte_at (byte d h) zero = d
byte_at (byte d h) (suc i) = byte_at h i

-- ---- little-endian numbers

pub length-le : (w x : ℕ) → length (le w x) ≡ w
unfolding le
length-le zero x = refl
length-le (suc w) x = ap suc (length-le w (x / 256))

pub num-le : (w x : ℕ) → x < 256 ^ w → num (le w x) ≡ x
unfolding le num
num-le zero x h = omega arith
num-le (suc w) x h = let e : num (le w (x / 256)) ≡ x / 256 = num-le w (x / 256) (omega arith) in rw e (omega arith)

pub le-num : {b : List ℕ} → Bytes b → le (length b) (num b) ≡ b
unfolding le num
le-num empty = refl
le-num (byte {d} {ds} p h) =
    let low : (d + 256 * num ds) % 256 ≡ d = omega arith in
    let high : (d + 256 * num ds) / 256 ≡ num ds = omega arith in
    rw (low, high, le-num h)

pub num-lt : {b : List ℕ} → Bytes b → num b < 256 ^ length b
unfolding num
num-lt empty = omega arith
num-lt (byte {d} {ds} p h) = rw (pow-succ' 256 (length ds)) (omega (arith, num-lt h))

-- ---- zeros and padding

pub num-zeros : (n : ℕ) → num (zeros n) ≡ 0
unfolding num
num-zeros zero = refl
num-zeros (suc n) = rw (num-zeros n)

zeros-num : (z : List ℕ) → num z ≡ 0 → z ≡ zeros (length z)
unfolding num
zeros-num [] h = refl
zeros-num (d ∷ ds) h =
    let e : num ds ≡ 0 = omega arith in
    let f : d ≡ 0 = omega arith in
    rw (f, ← zeros-num ds e)

pub length-fill : (w : ℕ) (u : List ℕ) → length u ≤ w → length (fill w u) ≡ w
unfolding fill
length-fill w u h = rw (length-append, length-replicate) (omega arith)

pub take-filled : (w : ℕ) (u : List ℕ) → take (length u) (fill w u) ≡ u
unfolding fill
take-filled w u = take-append_seam u _

pub length-padded : (u : List ℕ) → length (padded u) ≡ pad (length u)
length-padded u = length-fill (pad (length u)) u (omega arith)

-- u with z zeros behind it fills as many bytes as there are
pub fill_is : (u z : List ℕ) (w : ℕ) → num z ≡ 0 → length u + length z ≡ w → fill w u ≡ u ++ z
unfolding fill
fill_is u z w h e =
    let n : w - length u ≡ length z = omega arith in
    rw (n, ← zeros-num z h)
