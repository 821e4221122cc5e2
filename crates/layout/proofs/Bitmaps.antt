-- The bitmap by bytes and by bits: a child's flag is its bit, and setting the child sets that bit alone. Assumes nothing.
use mathlib.Core.Path.{◌≡◌, refl, sym, ap, ◌∙◌}
use mathlib.Core.Bool.{Bool, true, false}
use mathlib.Core.List.{List, [], ◌∷◌}
use Prim.Native.Nat.{ℕ, zero, suc, ◌+◌, ◌*◌, ◌-◌, ◌/◌, ◌%◌, ◌^◌, ◌≤◌, ◌<◌}
use native.Mathlib.Nat.{pow-succ', div-div-eq-div-mul, div-add-mod', mul_left_comm, zero-div}
use native.Mathlib.Decide.{dec_lt}
use native.Mathlib.Omega.{arith}
use lib.Pow.{pow_mono}
use lib.ListN.{length, get_or, set, take, drop, length-take, length-drop}
use lib.Seq.{take-set-le, take-set-lt, drop-set-lt, drop-set-add, drop-drop}
use Rattle.words.specs.Bytes.{le}
use Rattle.words.specs.Bits.{digit, with_bit, put_bit}
use Rattle.layout.specs.Cells.{Cell, null, leaf, nodes, on_null, flag}
use Rattle.layout.specs.Layout.{flags}
use Rattle.layout.proofs.Cells.{flag-bit}
use Rattle.layout.proofs.Children.{flags-lt}

-- ---- a flag is a bit

abbrev pub cell_at : List Cell → ℕ → Cell
cell_at cs i = get_or cs i (leaf [])

pub flag_at : (cs : List Cell) (i : ℕ) → flags cs / 2 ^ i % 2 ≡ flag (cell_at cs i)
unfolding flags on_null
flag_at [] i = rw (zero-div (2 ^ i))
flag_at (c ∷ cs) zero = omega (arith, flag-bit c)
flag_at (c ∷ cs) (suc i) =
    let e : (flag c + 2 * flags cs) / 2 ≡ flags cs = omega (arith, flag-bit c) in
    rw (pow-succ' 2 i, ← (div-div-eq-div-mul (flag c + 2 * flags cs) 2 (2 ^ i)), e) (flag_at cs i)

pub flags-same : (cs : List Cell) (i : ℕ) (x : Cell) → flag x ≡ flag (cell_at cs i) → flags (set cs i x) ≡ flags cs
unfolding flags
flags-same [] i x e = refl
flags-same (c ∷ cs) zero x e = rw e
flags-same (c ∷ cs) (suc i) x e = rw (flags-same cs i x e)

-- ---- eight flags to a byte

flags-split : (k : ℕ) (cs : List Cell) → flags cs ≡ flags (take k cs) + 2 ^ k * flags (drop k cs)
unfolding flags
flags-split zero cs = omega arith
flags-split (suc k) [] = omega arith
flags-split (suc k) (c ∷ cs) = rw (pow-succ' 2 k) (omega (arith, flags-split k cs))

flags-byte : (cs : List Cell) → flags (take 8 cs) < 256
flags-byte cs =
    let p : 2 ^ length (take 8 cs) ≤ 2 ^ 8 = pow_mono {i = length (take 8 cs)} {j = 8} (rw length-take (omega arith)) in
    omega (arith, flags-lt (take 8 cs))

-- the bitmap's first byte is the first eight flags
le-flags : (w : ℕ) (cs : List Cell) → le (suc w) (flags cs) ≡ flags (take 8 cs) ∷ le w (flags (drop 8 cs))
unfolding le
le-flags w cs =
    let low : flags cs % 256 ≡ flags (take 8 cs) = omega (arith, flags-split 8 cs, flags-byte cs) in
    let high : flags cs / 256 ≡ flags (drop 8 cs) = omega (arith, flags-split 8 cs, flags-byte cs) in
    rw (low, high)

-- the byte of child i's flag
unfoldable byte_of : List Cell → ℕ → ℕ
byte_of cs i = flags (take 8 (drop (i / 8 * 8) cs))

-- the bitmap of w bytes has that byte, and with x for child i it has another there
record Byte (w : ℕ) (cs : List Cell) (x : Cell) (i : ℕ) : Type 0 where
  here : get_or (le w (flags cs)) (i / 8) 0 ≡ byte_of cs i
  put : le w (flags (set cs i x)) ≡ set (le w (flags cs)) (i / 8) (byte_of (set cs i x) i)

byte-near : (w : ℕ) (cs : List Cell) (x : Cell) (i : ℕ) → i < 8 → Byte (suc w) cs x i
unfolding byte_of
byte-near w cs x i h =
    let e : i / 8 ≡ 0 = omega arith in
    record { here = rw (le-flags w cs, e); put = rw (le-flags w (set cs i x), le-flags w cs, e, drop-set-lt 8 cs i x h) }

byte-far : (w : ℕ) (cs : List Cell) (x : Cell) (j : ℕ) → Byte w (drop 8 cs) x j → Byte (suc w) cs x (8 + j)
unfolding byte_of
byte-far w cs x j h =
    let e : (8 + j) / 8 ≡ suc (j / 8) = omega arith in
    let o : suc (j / 8) * 8 ≡ 8 + j / 8 * 8 = omega arith in
    record {
      here = rw (le-flags w cs, e, o, ← (drop-drop (j / 8 * 8) 8 cs)) h.here;
      put = rw (
        le-flags w (set cs (8 + j) x),
        le-flags w cs,
        take-set-le 8 cs (8 + j) x (omega arith),
        e,
        o,
        ←
            (drop-drop (j / 8 * 8) 8 (set cs (8 + j) x)),
        drop-set-add 8 cs j x,
        h.put,
      );
    }

byte_step : (w : ℕ) (cs : List Cell) (x : Cell) (i : ℕ) → Dec (i < 8) → (8 ≤ i → Byte w (drop 8 cs) x (i - 8)) → Byte (suc w) cs x i
byte_step w cs x i (yes h) f = byte-near w cs x i h
byte_step w cs x i (no h) f =
    let e : 8 + (i - 8) ≡ i = omega arith in
    rw e at (byte-far w cs x (i - 8) (f (omega arith)))

byte-is : (w : ℕ) (cs : List Cell) (x : Cell) (i : ℕ) → i < length cs → length cs ≤ 8 * w → Byte w cs x i
byte-is zero cs x i h n = absurd (omega arith)
byte-is (suc w) cs x i h n = byte_step w cs x i (dec_lt i 8) λ k. byte-is w (drop 8 cs) x (i - 8) (rw length-drop (omega arith)) (rw length-drop (omega arith))

-- ---- the bit in its byte

abbrev bit_as : ℕ → ℕ → ℕ → ℕ
bit_as x k v = (x / 2 ^ k / 2 * 2 + v) * 2 ^ k + x % 2 ^ k

-- a number's bit is set as half of it has that bit set
bit_up : (f F k v : ℕ) → f < 2 → f + 2 * bit_as F k v ≡ bit_as (f + 2 * F) (suc k) v
bit_up f F k v h =
    let m = 2 ^ k in
    let X = f + 2 * F in
    let half : X / 2 ≡ F = omega arith in
    let q : X / (2 * m) ≡ F / m = sym (div-div-eq-div-mul X 2 m) ∙ ap (λ (z : ℕ). z / m) half in
    let a = div-add-mod' F m in
    let b = rw q at (div-add-mod' X (2 * m)) in
    let c = mul_left_comm (F / m) 2 m in
    let d = mul_left_comm (F / m / 2 * 2 + v) 2 m in
    rw (pow-succ' 2 k, q) (omega arith)

flags-set : (cs : List Cell) (j : ℕ) (x : Cell) → j < length cs → flags (set cs j x) ≡ bit_as (flags cs) j (flag x)
unfolding flags
flags-set [] j x h = absurd (omega arith)
flags-set (c ∷ cs) zero x h = omega (arith, flag-bit c)
flags-set (c ∷ cs) (suc j) x h = rw (flags-set cs j x (omega arith)) (bit_up (flag c) (flags cs) j (flag x) (flag-bit c))

byte-set : (cs : List Cell) (i : ℕ) (x : Cell) → i < length cs → byte_of (set cs i x) i ≡ bit_as (byte_of cs i) (i % 8) (flag x)
unfolding byte_of
byte-set cs i x h =
    let n = i / 8 * 8 in
    let e : i ≡ n + i % 8 = omega arith in
    ap (λ (z : ℕ). flags (take 8 (drop n (set cs z x)))) e
    ∙ rw (drop-set-add n cs (i % 8) x, take-set-lt 8 (drop n cs) (i % 8) x (omega arith))
    (flags-set (take 8 (drop n cs)) (i % 8) x (rw (length-take, length-drop) (omega arith)))

-- whether contents are null
abbrev pub nulled : Cell → Bool
nulled x = on_null (λ _. true) false x

flag-digit : (x : Cell) → flag x ≡ digit (nulled x)
unfolding on_null
flag-digit (null u) = refl
flag-digit (leaf u) = refl
flag-digit (nodes u) = refl

-- with x for child i the bitmap has that bit as x says, and is else the same
pub bits-set : (w : ℕ) (cs : List Cell) (x : Cell) (i : ℕ) → i < length cs → length cs ≤ 8 * w
    → le w (flags (set cs i x)) ≡ put_bit (le w (flags cs)) 0 i (nulled x)
bits-set w cs x i h n =
    let b = byte-is w cs x i h n in
    let z : 0 + i / 8 ≡ i / 8 = omega arith in
    let e : byte_of (set cs i x) i ≡ with_bit (byte_of cs i) (i % 8) (nulled x) = byte-set cs i x h ∙ ap (bit_as (byte_of cs i) (i % 8)) (flag-digit x) in
    rw (z, b.here, b.put, e)
