-- How long a text is at most. Assumes nothing.
use mathlib.Core.Path.{◌≡◌, refl, ◌∙◌}
use mathlib.Core.Bool.{Bool, true, false, cond}
use mathlib.Core.List.{List, [], ◌∷◌, ◌++◌}
use Prim.Native.Nat.{ℕ, zero, suc, ◌+◌, ◌*◌, ◌/◌, ◌%◌, ◌≤◌}
use native.Mathlib.Omega.{arith}
use lib.Dec.{ltb}
use lib.IntN.{ℤ, pos, negsuc}
use lib.ListN.{length, length-append}
use Rattle.io.specs.Digits.{hex_digit_ascii}
use Rattle.answers.specs.declared.Path.{Path}
use Rattle.answers.specs.Paths.{path_of}
use Rattle.answers.proofs.PathLaws.{length-path}
use Rattle.lettering.specs.Text.{hex, decimal_in, decimal, signed, hexes, bytes, dotted, path, numbered}

pub hex-length : (k n : ℕ) → length (hex k n) ≡ k
unfolding hex
hex-length zero n = refl
hex-length (suc k) n = length-append (hex k (n / 16)) (hex_digit_ascii (n % 16) ∷ []) ∙ rw (hex-length k (n / 16)) (omega arith)

most-of : (t : Bool) (k n : ℕ) (l : List ℕ) → length l ≤ k → length (cond t (hex_digit_ascii n ∷ []) (l ++ (hex_digit_ascii (n % 10) ∷ []))) ≤ suc k
most-of true k n l h = omega arith
most-of false k n l h = rw length-append (omega arith)

pub decimal-most : (k n : ℕ) → length (decimal_in k n) ≤ k
unfolding decimal_in
decimal-most zero n = omega arith
decimal-most (suc k) n = most-of (ltb n 10) k n (decimal_in k (n / 10)) (decimal-most k (n / 10))

pub decimal-twenty : (n : ℕ) → length (decimal n) ≤ 20
unfolding decimal
decimal-twenty n = decimal-most 20 n

pub signed-most : (z : ℤ) → length (signed z) ≤ 21
unfolding signed
signed-most (pos n) = omega (arith, decimal-twenty n)
signed-most (negsuc n) = omega (arith, decimal-twenty (suc n))

hexes-length : (b : List ℕ) → length (hexes b) ≡ 2 * length b
unfolding hexes
hexes-length [] = refl
hexes-length (b ∷ bs) = length-append (hex 2 b) (hexes bs) ∙ rw (hex-length 2 b, hexes-length bs) (omega arith)

pub bytes_most : (b : List ℕ) → length (bytes b) ≤ 2 * length b + 1
unfolding bytes
bytes_most [] = omega arith
bytes_most (b ∷ bs) = omega (arith, hexes-length (b ∷ bs))

dotted-most : (p : List ℕ) → length (dotted p) ≤ 21 * length p
unfolding dotted
dotted-most [] = omega arith
dotted-most (i ∷ p) = omega (arith, length-append (46 ∷ decimal i) (dotted p), decimal-twenty i, dotted-most p)

pub path-most : (p : List ℕ) → length (path p) ≤ 21 * length p
unfolding path
path-most [] = omega arith
path-most (i ∷ p) = omega (arith, length-append (decimal i) (dotted p), decimal-twenty i, dotted-most p)

pub path-sixteen : (p : Path) → p.len ≤ 16 → length (path (path_of p)) ≤ 336
path-sixteen p h = omega (arith, path-most (path_of p), length-path p)

pub numbered-most : (word : List ℕ) (n : ℕ) → length (numbered word n) ≤ length word + 21
unfolding numbered
numbered-most word n = omega (arith, length-append word (decimal n ++ (10 ∷ [])), length-append (decimal n) (10 ∷ []), decimal-twenty n)
