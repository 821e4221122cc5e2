-- Reading a run of bytes from its front: a reading refuses, which is none, or yields something. Assumes nothing: these are definitions.
use Rattle.std.proofs.Math.Option.{Option, none, some}
use Rattle.std.specs.Prelude.{List, ℕ, length, take, drop}
use Rattle.std.proofs.Math.Decide.{dec_le}

infixl 20 ◌>>=◌
abbrev pub ◌>>=◌ : {A B : Type 0} → Option A → (A → Option B) → Option B
◌>>=◌ none f = none
◌>>=◌ (some a) f = f a

infixl 20 ◌>>◌
abbrev pub ◌>>◌ : {A B : Type 0} → Option A → Option B → Option B
◌>>◌ none m = none
◌>>◌ (some a) m = m

-- goes on only where P holds
unfoldable pub assert : {P : Type 0} → Dec P → Option (Unit {0})
assert (yes p) = some tt
assert (no n) = none

-- the first n bytes, and the rest
unfoldable pub cut : ℕ → List ℕ → Option (List ℕ × List ℕ)
cut n b = do
  assert (dec_le n (length b))
  some (take n b, drop n b)
