-- One of some numbers: what holds of each holds of it, and it is none that they lack. Assumes nothing.
use mathlib.Core.Path.{◌≡◌, refl}
use mathlib.Core.Bool.{Bool, true, false, cond}
use mathlib.Core.List.{List, [], ◌∷◌}
use Prim.Native.Nat.{ℕ}
use native.Mathlib.Omega.{arith}
use lib.Dec.{eqb}
use borrow.Author.Tests.{eqb-false}
use Rattle.layout.specs.Refusals.{Refusal}
use Rattle.row.specs.Demand1.{OneOf, here, there, Told, number, place}

abbrev pub Each : (ℕ → Type 0) → List ℕ → Type 0
Each P [] = Unit {0}
Each P (n ∷ ns) = P n × Each P ns

pub each : (P : ℕ → Type 0) {ns : List ℕ} {n : ℕ} → OneOf ns n → Each P ns → P n
each P here q = q.0
each P (there o) q = each P o q.1

abbrev pub lacks : ℕ → List ℕ → Bool
lacks k [] = true
lacks k (n ∷ ns) = cond (eqb n k) false (lacks k ns)

other : (n k : ℕ) (b v : Bool) → eqb n k ≡ b → cond b false v ≡ true → n ≡ k → ⊥
other n k false v e h = eqb-false n k e
other n k true v e h = let z : ◌≡◌ {A = ℕ} 0 1 = cc in absurd (omega arith)

rest : (b v : Bool) → cond b false v ≡ true → v ≡ true
rest false v h = h
rest true v h = cc

pub not-among : (k : ℕ) {ns : List ℕ} {n : ℕ} → OneOf ns n → lacks k ns ≡ true → n ≡ k → ⊥
not-among k (here {n = n} {ns = ns}) h e = other n k (eqb n k) (lacks k ns) refl h e
not-among k (there {m = m} {ns = ns} o) h e = not-among k o (rest (eqb m k) (lacks k ns) h) e

-- one of some numbers is one of more
pub told-there : {m : ℕ} {ns : List ℕ} {r : Refusal} → Told ns r → Told (m ∷ ns) r
told-there (number o h) = number (there o) h
told-there (place o) = place (there o)
