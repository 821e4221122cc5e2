-- A leaf's line is the line of its own mark, and so are a list's, a map's and a struct's; and no other entry says one. Assumes nothing.
use Rattle.std.proofs.Common.{◌≡◌, ℕ, ◌/◌, ◌%◌, ◌^◌, ◌<◌, true, cond, eqb, ltb, List, length, get_or, sym, refl, ap, ◌∙◌, subst, arith, ltb-true, eq-eqb, eqb-true}
use lib.Bits.{bit_and}
use Rattle.words.proofs.Powers.{mask_is}
use Rattle.schema.specs.Marks.{types}
use Rattle.schema.proofs.Table.{agree}
use Rattle.table.specs.Words.{lower, line_word, line_for, lines_of}
use Rattle.compare.specs.Lines.{leaves_of, is_leaf}

-- the code's table is that of the specification
pub leaf-in : (w : ℕ) {r : ℕ} {l : List ℕ} → l ≡ leaves_of → r ≡ get_or l (bit_and (w / 2 ^ 28) 15) 0 → eqb r w ≡ is_leaf w
unfolding is_leaf
leaf-in w {r} {l} e f =
    ap (λ (u : ℕ). eqb u w) (f ∙ ap (λ (i : ℕ). get_or l i 0) (mask_is (w / 2 ^ 28) 4) ∙ ap (λ (u : List ℕ). get_or u (w / 268435456 % 16) 0) e)

pub sixteen : length leaves_of ≡ 16
unfolding leaves_of
sixteen = refl

-- ---- computed at each kind

-- a line that stands in the table is below the containers', and its mark leads to it
abbrev v : ℕ → ℕ
v h = get_or leaves_of h 0

own : (h : ℕ) → h < 16 → cond (eqb (v h / 268435456) h) (eqb (line_for (v h % 65536)) (v h)) true ≡ true
unfolding leaves_of line_for lines_of
own = agree (λ h. cond (eqb (v h / 268435456) h) (eqb (line_for (v h % 65536)) (v h)) true) (λ h. true) 16 refl

low : (h : ℕ) → h < 16 → ltb (v h) 2415919104 ≡ true
unfolding leaves_of
low = agree (λ h. ltb (v h) 2415919104) (λ h. true) 16 refl

line-there : (k : ℕ) → k < 9 → v k ≡ line_word k
unfolding leaves_of line_word lower types
line-there = agree v line_word 9 refl

pub line-own : (k : ℕ) → k < 12 → line_for (line_word k % 65536) ≡ line_word k
unfolding line_for lines_of line_word lower types
line-own = agree (λ k. line_for (line_word k % 65536)) line_word 12 refl

pub line-kind : (k : ℕ) → k < 12 → line_word k / 268435456 ≡ k
unfolding line_word lower types
line-kind = agree (λ k. line_word k / 268435456) (λ k. k) 12 refl

-- ---- as the code asks it

module _ {w : ℕ} (e : is_leaf w ≡ true) where
  there : v (w / 268435456 % 16) ≡ w
  unfolding is_leaf
  there = eqb-true (v (w / 268435456 % 16)) w e

  pub leaf-low : w < 2415919104
  leaf-low = subst (λ (u : ℕ). u < 2415919104) there (ltb-true (v (w / 268435456 % 16)) 2415919104 (low (w / 268435456 % 16) (omega arith)))

  pub leaf-line : w ≡ line_for (w % 65536)
  leaf-line =
      let h = w / 268435456 % 16 in
      let a : w / 268435456 ≡ h = omega (arith, leaf-low) in
      let b : v h / 268435456 ≡ h = ap (λ (u : ℕ). u / 268435456) there ∙ a in
      let c = rw (eq-eqb (v h / 268435456) h b) at (own h (omega arith)) in
      sym (subst (λ (u : ℕ). line_for (u % 65536) ≡ u) there (eqb-true (line_for (v h % 65536)) (v h) c))

-- what a leaf's entry says is a line of the table
pub leaf-is : (k : ℕ) → k < 9 → is_leaf (line_word k) ≡ true
unfolding is_leaf
leaf-is k h =
    let a = line-kind k (omega arith) in
    let b : line_word k / 268435456 % 16 ≡ k = omega arith in
    eq-eqb (v (line_word k / 268435456 % 16)) (line_word k) (ap v b ∙ line-there k h)
