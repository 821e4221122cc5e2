-- Bits of a byte and of a bitmap: bit 0 of the first byte is bit 0. Assumes nothing: these are definitions.
use Rattle.std.specs.Prelude.{Bool, true, false, List, [], ◌∷◌, ℕ, ◌+◌, ◌*◌, ◌/◌, ◌%◌, ◌^◌, eqb, get_or}
use Rattle.std.proofs.lemmas.List.Edits.{sets}

-- bit k of a number
abbrev pub bit_of : ℕ → ℕ → Bool
bit_of x k = eqb (x / 2 ^ k % 2) 1

abbrev pub digit : Bool → ℕ
digit true = 1
digit false = 0

-- x with bit k as said
abbrev pub with_bit : ℕ → ℕ → Bool → ℕ
with_bit x k v = (x / 2 ^ k / 2 * 2 + digit v) * 2 ^ k + x % 2 ^ k

-- bit i of the bitmap that starts at the byte numbered at
abbrev pub bit : List ℕ → ℕ → ℕ → Bool
bit b at i = bit_of (get_or b (at + i / 8) 0) (i % 8)

-- b with that bit as said
abbrev pub put_bit : List ℕ → ℕ → ℕ → Bool → List ℕ
put_bit b at i v = sets b (at + i / 8) (with_bit (get_or b (at + i / 8) 0) (i % 8) v ∷ [])
