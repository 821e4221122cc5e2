-- A table in which the entries of the open containers have no end yet: what a table that is being built looks like beside the whole one, with
-- a law for each step of building. Assumes nothing.
use Rattle.std.proofs.Common.{◌≡◌, ℕ, zero, suc, ◌+◌, ◌-◌, ◌/◌, ◌%◌, ◌<◌, ◌≤◌, List, length, get_or, set, sym, ap, ◌∙◌, add-one, arith, length-set, get_or-set_other, get_or-set_same, set-set}
use native.Mathlib.Decide.{dec_lt}
use lib.Seq.{set-get_or}

-- the table P, without the ends of the containers whose frames are those numbered up to d. The end is what lies above the low 54 bits, and
-- a frame is 256 times the container's place, plus how many are left in its holder.
unfoldable pub opened : List ℕ → List ℕ → ℕ → List ℕ
opened P F zero = set P (get_or F 0 0 / 256) (get_or P (get_or F 0 0 / 256) 0 % 18014398509481984)
opened P F (suc d) = set (opened P F d) (get_or F (suc d) 0 / 256) (get_or P (get_or F (suc d) 0 / 256) 0 % 18014398509481984)

-- the places of the frames rise, and all lie before i
pub record Rising (F : List ℕ) (d i : ℕ) : Type 0 where
  pub up : (q r : ℕ) → q < r → r ≤ d → get_or F q 0 / 256 < get_or F r 0 / 256
  pub below : (q : ℕ) → q ≤ d → get_or F q 0 / 256 < i

-- ---- frames

pub rising-next : {F : List ℕ} {d i : ℕ} → Rising F d i → Rising F d (i + 1)
rising-next h = record { up = h.up; below = λ q l. omega (arith, h.below q l) }

module _ {F : List ℕ} {d i : ℕ} (x : ℕ) (h : Rising F d i) (e : length F ≡ 8) (l : d + 1 < 8) (z : x / 256 ≡ i) where
  -- the new frame
  pushed : get_or (set F (d + 1) x) (d + 1) 0 / 256 ≡ i
  pushed = ap (λ (u : ℕ). u / 256) (get_or-set_same F (d + 1) x 0 (omega arith)) ∙ z

  -- the others
  kept : (q : ℕ) → q ≤ d → get_or (set F (d + 1) x) q 0 / 256 ≡ get_or F q 0 / 256
  kept q k = ap (λ (u : ℕ). u / 256) (get_or-set_other F (d + 1) q x 0 (λ e. absurd (omega arith)))

  pub rising-push : Rising (set F (d + 1) x) (d + 1) (i + 1)
  rising-push = record { up = up; below = below }
    where
      up : (q r : ℕ) → q < r → r ≤ d + 1 → get_or (set F (d + 1) x) q 0 / 256 < get_or (set F (d + 1) x) r 0 / 256
      up q r a b = go (dec_lt d r)
        where
          go : Dec (d < r) → get_or (set F (d + 1) x) q 0 / 256 < get_or (set F (d + 1) x) r 0 / 256
          go (yes p) = let f : r ≡ d + 1 = omega arith in rw (f, pushed, kept q (omega arith)) (h.below q (omega arith))
          go (no p) = rw (kept q (omega arith), kept r (omega arith)) (h.up q r a (omega arith))

      below : (q : ℕ) → q ≤ d + 1 → get_or (set F (d + 1) x) q 0 / 256 < i + 1
      below q b = go (dec_lt d q)
        where
          go : Dec (d < q) → get_or (set F (d + 1) x) q 0 / 256 < i + 1
          go (yes p) = let f : q ≡ d + 1 = omega arith in rw (f, pushed) (omega arith)
          go (no p) = rw (kept q (omega arith)) (omega (arith, h.below q (omega arith)))

pub rising-pop : {F : List ℕ} {d i : ℕ} → Rising F d i → Rising F (d - 1) i
rising-pop h = record { up = λ q r a b. h.up q r a (omega arith); below = λ q b. h.below q (omega arith) }

-- ---- what stands in it

pub opened-length : (P F : List ℕ) (d : ℕ) → length (opened P F d) ≡ length P
unfolding opened
opened-length P F zero = length-set P (get_or F 0 0 / 256) (get_or P (get_or F 0 0 / 256) 0 % 18014398509481984)
opened-length P F (suc d) =
    length-set (opened P F d) (get_or F (suc d) 0 / 256) (get_or P (get_or F (suc d) 0 / 256) 0 % 18014398509481984) ∙ opened-length P F d

opened-other : (P F : List ℕ) (d p : ℕ) → ((q : ℕ) → q ≤ d → get_or F q 0 / 256 ≡ p → ⊥) → get_or (opened P F d) p 0 ≡ get_or P p 0
unfolding opened
opened-other P F zero p h =
    get_or-set_other P (get_or F 0 0 / 256) p (get_or P (get_or F 0 0 / 256) 0 % 18014398509481984) 0 (λ e. h 0 (omega arith) (sym e))
opened-other P F (suc d) p h =
    get_or-set_other (opened P F d) (get_or F (suc d) 0 / 256) p (get_or P (get_or F (suc d) 0 / 256) 0 % 18014398509481984) 0
    (λ e. h (suc d) (omega arith) (sym e))
    ∙ opened-other P F d p (λ q k. h q (omega arith))

-- the innermost container has no end
pub opened-at : (P F : List ℕ) (d : ℕ) → get_or F d 0 / 256 < length P
    → get_or (opened P F d) (get_or F d 0 / 256) 0 ≡ get_or P (get_or F d 0 / 256) 0 % 18014398509481984
unfolding opened
opened-at P F zero l = get_or-set_same P (get_or F 0 0 / 256) (get_or P (get_or F 0 0 / 256) 0 % 18014398509481984) 0 l
opened-at P F (suc d) l =
    get_or-set_same (opened P F d) (get_or F (suc d) 0 / 256) (get_or P (get_or F (suc d) 0 / 256) 0 % 18014398509481984) 0 (rw (opened-length P F d) l)

-- ---- stores

-- what stands at a place where no container is open is stored again
again : (P F : List ℕ) (d p v : ℕ) → ((q : ℕ) → q ≤ d → get_or F q 0 / 256 ≡ p → ⊥) → get_or P p 0 ≡ v → set (opened P F d) p v ≡ opened P F d
again P F d p v h e = ap (set (opened P F d) p) (sym e ∙ sym (opened-other P F d p h)) ∙ set-get_or (opened P F d) p 0

-- a frame above those that count
opened-above : (P F : List ℕ) (r x d : ℕ) → d < r → opened P (set F r x) d ≡ opened P F d
unfolding opened
opened-above P F r x zero l =
    ap (λ (f : ℕ). set P (f / 256) (get_or P (f / 256) 0 % 18014398509481984)) (get_or-set_other F r 0 x 0 (λ e. absurd (omega arith)))
opened-above P F r x (suc d) l =
    ap (λ (f : ℕ). set (opened P (set F r x) d) (f / 256) (get_or P (f / 256) 0 % 18014398509481984))
    (get_or-set_other F r (suc d) x 0 (λ e. absurd (omega arith)))
    ∙ ap (λ (u : List ℕ). set u (get_or F (suc d) 0 / 256) (get_or P (get_or F (suc d) 0 / 256) 0 % 18014398509481984))
    (opened-above P F r x d (omega arith))

-- a leaf's entry is whole
pub opened-leaf : {F : List ℕ} {d i v : ℕ} (P : List ℕ) → Rising F d i → get_or P i 0 ≡ v → set (opened P F d) i v ≡ opened P F d
opened-leaf {F} {d} {i} {v} P h e = again P F d i v (λ q k z. absurd (omega (arith, h.below q k))) e

-- a container's entry, without its end, opens the container
pub opened-push : {i v : ℕ} (P F : List ℕ) (d x : ℕ) → length F ≡ 8 → d + 1 < 8 → x / 256 ≡ i
    → get_or P i 0 % 18014398509481984 ≡ v → set (opened P F d) i v ≡ opened P (set F (d + 1) x) (d + 1)
opened-push {i} {v} P F d x e l z w = rw (add-one d) back
  where
    frame : get_or (set F (suc d) x) (suc d) 0 / 256 ≡ i
    frame = ap (λ (u : ℕ). u / 256) (get_or-set_same F (suc d) x 0 (omega arith)) ∙ z

    back : set (opened P F d) i v ≡ opened P (set F (suc d) x) (suc d)
    back = unfold opened in
        sym (ap (λ (u : ℕ). set (opened P (set F (suc d) x) d) u (get_or P u 0 % 18014398509481984)) frame
        ∙ rw w (ap (λ (u : List ℕ). set u i v) (opened-above P F (suc d) x d (omega arith))))

-- the innermost container's whole entry closes it
pub opened-pop : {F : List ℕ} {d i v : ℕ} (P : List ℕ) → Rising F d i → 0 < d → get_or P (get_or F d 0 / 256) 0 ≡ v
    → set (opened P F d) (get_or F d 0 / 256) v ≡ opened P F (d - 1)
opened-pop {F} {d} {i} {v} P h l e = go d h l e
  where
    go : (d : ℕ) → Rising F d i → 0 < d → get_or P (get_or F d 0 / 256) 0 ≡ v → set (opened P F d) (get_or F d 0 / 256) v ≡ opened P F (d - 1)
    go zero h l e = absurd (omega arith)
    go (suc d) h l e =
        let f : suc d - 1 ≡ d = omega arith in
        rw f (unfold opened in
        set-set (opened P F d) (get_or F (suc d) 0 / 256) (get_or P (get_or F (suc d) 0 / 256) 0 % 18014398509481984) v
        ∙ again P F d (get_or F (suc d) 0 / 256) v (λ q k z. absurd (omega (arith, h.up q (suc d) (omega arith) (omega arith)))) e)

-- the outermost container closed, the table is whole
pub opened-end : {v : ℕ} (P F : List ℕ) (d : ℕ) → d ≡ 0 → get_or P (get_or F d 0 / 256) 0 ≡ v → set (opened P F d) (get_or F d 0 / 256) v ≡ P
unfolding opened
opened-end {v} P F zero z e =
    set-set P (get_or F 0 0 / 256) (get_or P (get_or F 0 0 / 256) 0 % 18014398509481984) v
    ∙ ap (set P (get_or F 0 0 / 256)) (sym e) ∙ set-get_or P (get_or F 0 0 / 256) 0
opened-end P F (suc d) z e = absurd (omega arith)
