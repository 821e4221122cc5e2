-- The fields that are left at each depth, and what they lead to: the invariant of building, with a law for each step. Assumes nothing.
use Rattle.std.proofs.Common.{◌≡◌, ℕ, zero, suc, ◌+◌, ◌-◌, ◌/◌, ◌%◌, ◌<◌, List, length, get_or, set, sym, refl, ap, ◌∙◌, add-one, arith, get_or-set_other, get_or-set_same}
use Rattle.table.specs.Words.{word}
use Rattle.table.proofs.Filling.{Filled, nothing, filled, onward, fill, patch, fill_done}

-- what a container's fields lead to once they are laid: its own entry is patched, and the fields left in its holder follow. A frame is
-- 256 times the place of the container, plus how many are left in its holder.
unfoldable pub cont : List ℕ → List ℕ → ℕ → ℕ → ℕ → List ℕ → Filled
cont s F zero a j U = filled a j (patch U (get_or F 0 0 / 256) j)
cont s F (suc d) a j U = onward (fill s a j (get_or F (suc d) 0 % 256) (7 - d) (d + 2) (patch U (get_or F (suc d) 0 / 256) j)) (cont s F d)

-- n fields left at the frame numbered d
unfoldable pub run : List ℕ → List ℕ → (d at i n : ℕ) → List ℕ → Filled
run s F d at i n T = onward (fill s at i n (7 - d) (d + 2) T) (cont s F d)

onward-ext : (x : Filled) (f g : ℕ → ℕ → List ℕ → Filled) → ((a j : ℕ) (U : List ℕ) → f a j U ≡ g a j U) → onward x f ≡ onward x g
onward-ext nothing f g h = refl
onward-ext (filled a j U) f g h = h a j U

onward-twice : (x : Filled) (f g : ℕ → ℕ → List ℕ → Filled) → onward (onward x f) g ≡ onward x (λ a j U. onward (f a j U) g)
onward-twice nothing f g = refl
onward-twice (filled a j U) f g = refl

cont-below : (s F : List ℕ) (q x d : ℕ) → d < q → (a j : ℕ) (U : List ℕ) → cont s (set F q x) d a j U ≡ cont s F d a j U
unfolding cont
cont-below s F q x zero h a j U = ap (λ (f : ℕ). filled a j (patch U (f / 256) j)) (get_or-set_other F q 0 x 0 (λ e. absurd (omega arith)))
cont-below s F q x (suc d) h a j U =
    ap (λ (f : ℕ). onward (fill s a j (f % 256) (7 - d) (d + 2) (patch U (f / 256) j)) (cont s (set F q x) d))
    (get_or-set_other F q (suc d) x 0 (λ e. absurd (omega arith)))
    ∙ onward-ext (fill s a j (get_or F (suc d) 0 % 256) (7 - d) (d + 2) (patch U (get_or F (suc d) 0 / 256) j)) (cont s (set F q x) d) (cont s F d)
    (cont-below s F q x d (omega arith))

module _ (s F : List ℕ) (d at i n : ℕ) (T : List ℕ) where
  pub run_none : fill s at i n (7 - d) (d + 2) T ≡ nothing → run s F d at i n T ≡ nothing
  unfolding run
  run_none e = rw e

  pub run_on : (a j m : ℕ) (U : List ℕ) → fill s at i n (7 - d) (d + 2) T ≡ fill s a j m (7 - d) (d + 2) U → run s F d at i n T ≡ run s F d a j m U
  unfolding run
  run_on a j m U e = rw e

  pub run_end : n ≡ 0 → d ≡ 0 → run s F d at i n T ≡ filled at i (patch T (get_or F d 0 / 256) i)
  unfolding run cont
  run_end z e = rw (fill_done s at i n (7 - d) (d + 2) T z, e)

  pub run-pop : n ≡ 0 → 0 < d → run s F d at i n T ≡ run s F (d - 1) at i (get_or F d 0 % 256) (patch T (get_or F d 0 / 256) i)
  unfolding run
  run-pop z l = rw (fill_done s at i n (7 - d) (d + 2) T z) (go d l)
    where
      go : (d : ℕ) → 0 < d → cont s F d at i T ≡ onward (fill s at i (get_or F d 0 % 256) (7 - (d - 1)) (d - 1 + 2) (patch T (get_or F d 0 / 256) i))
          (cont s F (d - 1))
      go zero l = absurd (omega arith)
      go (suc d) l = let e : suc d - 1 ≡ d = omega arith in rw e (unfold cont in refl)

  module _ (k c at' x : ℕ) (l : d < 6) (h : length F ≡ 8) (p : x / 256 ≡ i) (q : x % 256 ≡ n - 1)
      (o : fill s at i n (7 - d) (d + 2) T ≡ onward (fill s at' (i + 1) c (7 - d - 1) (d + 2 + 1) (set T i (word k (d + 2) c i 0)))
      (λ a j U. fill s a j (n - 1) (7 - d) (d + 2) (patch U i j))) where
    pub run-push : run s F d at i n T ≡ run s (set F (d + 1) x) (d + 1) at' (i + 1) c (set T i (word k (d + 2) c i 0))
    unfolding run
    run-push =
        let a₁ : 7 - d - 1 ≡ 7 - (d + 1) = omega arith in
        let a₂ : d + 2 + 1 ≡ d + 1 + 2 = omega arith in
        let W = set T i (word k (d + 2) c i 0) in
        rw o (rw (a₁, a₂) (onward-twice (fill s at' (i + 1) c (7 - (d + 1)) (d + 1 + 2) W) (λ a j U. fill s a j (n - 1) (7 - d) (d + 2) (patch U i j))
        (cont s F d)
        ∙ onward-ext (fill s at' (i + 1) c (7 - (d + 1)) (d + 1 + 2) W) (λ a j U. onward (fill s a j (n - 1) (7 - d) (d + 2) (patch U i j)) (cont s F d))
        (cont s (set F (d + 1) x) (d + 1)) back))
      where
        g : get_or (set F (suc d) x) (suc d) 0 ≡ x
        g = get_or-set_same F (suc d) x 0 (omega arith)

        back₁ : (a j : ℕ) (U : List ℕ) → onward (fill s a j (n - 1) (7 - d) (d + 2) (patch U i j)) (cont s F d) ≡ cont s (set F (suc d) x) (suc d) a j U
        back₁ a j U = unfold cont in
            sym (ap (λ (f : ℕ). onward (fill s a j (f % 256) (7 - d) (d + 2) (patch U (f / 256) j)) (cont s (set F (suc d) x) d)) g
            ∙ rw (p, q) (onward-ext (fill s a j (n - 1) (7 - d) (d + 2) (patch U i j)) (cont s (set F (suc d) x) d) (cont s F d)
            (cont-below s F (suc d) x d (omega arith))))

        back : (a j : ℕ) (U : List ℕ) → onward (fill s a j (n - 1) (7 - d) (d + 2) (patch U i j)) (cont s F d) ≡ cont s (set F (d + 1) x) (d + 1) a j U
        back a j U = rw (add-one d) (back₁ a j U)
