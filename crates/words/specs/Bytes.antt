-- Bytes, little-endian numbers, padding, and sizes. Assumes nothing: these are definitions.
use Rattle.std.specs.Prelude.{List, [], ◌∷◌, ◌++◌, ℕ, zero, suc, ◌+◌, ◌-◌, ◌*◌, ◌/◌, ◌%◌, ◌^◌, ◌<◌, length, take, drop, replicate}

-- every one is below 256
pub data Bytes : List ℕ → Type 0 where
  empty : Bytes []
  byte : {d : ℕ} {ds : List ℕ} → d < 256 → Bytes ds → Bytes (d ∷ ds)

-- x as w little-endian bytes, the lowest first
unfoldable pub le : ℕ → ℕ → List ℕ
le zero x = []
le (suc w) x = x % 256 ∷ le w (x / 256)

-- the number that little-endian bytes stand for
unfoldable pub num : List ℕ → ℕ
num [] = 0
num (d ∷ ds) = d + 256 * num ds

-- n bytes from the byte numbered at on
abbrev pub part : List ℕ → ℕ → ℕ → List ℕ
part b at n = take n (drop at b)

abbrev pub zeros : ℕ → List ℕ
zeros n = replicate n 0

-- u with zeros up to w bytes
unfoldable pub fill : ℕ → List ℕ → List ℕ
fill w u = u ++ zeros (w - length u)

-- Pad(n): n rounded up to a multiple of 8
abbrev pub pad : ℕ → ℕ
pad n = (n + 7) / 8 * 8

-- u with zeros up to Pad
abbrev pub padded : List ℕ → List ℕ
padded u = fill (pad (length u)) u

-- the bytes of the bitmap of n children
abbrev pub bitmap : ℕ → ℕ
bitmap n = (n + 63) / 64 * 8

-- how many zeros stand before the first byte that is none
unfoldable pub zeros_ahead : List ℕ → ℕ
zeros_ahead [] = 0
zeros_ahead (zero ∷ b) = suc (zeros_ahead b)
zeros_ahead (suc x ∷ b) = 0

-- without the r lowest bits of the first byte
unfoldable pub high_bits : ℕ → List ℕ → List ℕ
high_bits r [] = []
high_bits r (x ∷ m) = x / 2 ^ r ∷ m

-- the first byte of a bitmap m that has a bit past n
unfoldable pub past_byte : ℕ → List ℕ → ℕ
past_byte n m = n / 8 + zeros_ahead (high_bits (n % 8) (drop (n / 8) m))
