-- Tests whose types say what they tell, put together. Assumes nothing: these are definitions.
use Rattle.std.specs.Prelude.{Bool, true, false, ◌⊎◌}
use Rattle.std.proofs.Common.{inl, inr}

unfoldable pub both? : {A B : Type 0} → Dec A → Dec B → Dec (A × B)
both? (yes a) (yes b) = yes (a, b)
both? (yes a) (no n) = no λ p. n p.1
both? (no n) d = no λ p. n p.0

unfoldable pub either? : {A B : Type 0} → Dec A → Dec B → Dec (A ⊎ B)
either? (yes a) d = yes (inl a)
either? (no n) (yes b) = yes (inr b)
either? (no n) (no m) = no λ s. neither n m s
  where
    neither : {A B : Type 0} → ¬ A → ¬ B → A ⊎ B → ⊥
    neither n m (inl a) = n a
    neither n m (inr b) = m b

unfoldable pub change? : {A B : Type 0} → (A → B) → (B → A) → Dec A → Dec B
change? f g (yes a) = yes (f a)
change? f g (no n) = no λ b. n (g b)

-- a test's answer
unfoldable pub is_yes : {P : Type 0} → Dec P → Bool
is_yes (yes p) = true
is_yes (no n) = false
