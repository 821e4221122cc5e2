-- What a read of a little-endian number answers, and what a byte of a written one leaves. Assumes nothing: these are definitions.
use Rattle.std.specs.Prelude.{◌≡◌, List, ℕ, ◌+◌, ◌<◌, ◌^◌, min}
use Rattle.std.proofs.lemmas.List.Edits.{sets}
use Rattle.words.specs.Bytes.{le, num, part}

-- r is the number of the k bytes from the one numbered at on
pub record Reads (b : List ℕ) (at k r : ℕ) : Type 0 where
  pub is : r ≡ num (part b at k)
  pub below : r < 256 ^ k

-- behind the first i of the k lowest bytes of v, from the byte numbered at on, the next one is written where there is one
abbrev pub PutsOn : List ℕ → ℕ → ℕ → ℕ → ℕ → List ℕ → Type 0
PutsOn b at k i v b' = (x : List ℕ) → b ≡ sets x at (le (min i k) v) → b' ≡ sets x at (le (min (i + 1) k) v)
