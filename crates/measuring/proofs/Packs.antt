-- A measure in one number: what is paired says what a reading gives. Assumes nothing.
use mathlib.Core.Path.{◌≡◌, refl}
use mathlib.Core.Option.{Option, none}
use mathlib.Core.List.{List}
use Prim.Native.Nat.{ℕ, ◌+◌, ◌^◌, ◌≤◌, ◌<◌}
use native.Mathlib.Omega.{arith}
use lib.ListN.{length}
use Rattle.words.specs.Pairs.{low_in, high_in, Paired}
use Rattle.measuring.specs.Measure.{Gives, Told}

-- a number without bytes
pub paired-bare : {next : ℕ} → next < 2 ^ 32 → Paired next 0 next
unfolding low_in high_in
paired-bare h = record { low-is = omega arith; high_is = omega arith }

paired-some : {next n r : ℕ} → Paired next n r → 1 ≤ next + n → r ≡ 0 → ⊥
unfolding low_in high_in
paired-some p one e = omega (arith, p.low-is, p.high_is)

module _ {A : Type 0} {o : Option (A × List ℕ)} {size : A → ℕ} {l : List ℕ} {low high : ℕ} where
  pub told_none : o ≡ none → Told o size l low high 0
  told_none e = record { refused = λ _. e; good = λ ne. absurd (ne refl) }

  pub told-gives : {next n r : ℕ} → Gives o size l low high next n → 1 ≤ next + n → Paired next n r → Told o size l low high r
  told-gives g one p = record { refused = λ e. absurd (paired-some p one e); good = λ _. rw (p.low-is, p.high_is) g }

  -- both numbers fit into their halves
  pub gives-low : {next n : ℕ} → Gives o size l low high next n → length l ≤ 65536 → next < 2 ^ 32
  gives-low g s = omega (arith, g.inside)

  pub gives-high : {next n : ℕ} → Gives o size l low high next n → length l ≤ 65536 → high ≤ 24 → n < 2 ^ 32
  gives-high g s h = omega (arith, g.small, g.inside)

-- what is refused, and what is given, said of another reading
module _ {A B : Type 0} {o : Option (A × List ℕ)} {q : Option (B × List ℕ)} {f : A → ℕ} {g : B → ℕ} {l : List ℕ} {low high low' high' : ℕ} where
  pub told-as : {r : ℕ} → (o ≡ none → q ≡ none) → ((next n : ℕ) → Gives o f l low high next n → Gives q g l low' high' next n)
      → Told o f l low high r → Told q g l low' high' r
  told-as bad good x = record { refused = λ e. bad (x.refused e); good = λ ne. good _ _ (x.good ne) }
