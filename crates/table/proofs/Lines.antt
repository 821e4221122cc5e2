-- The lines as words: each mark leads to its own, and no other pair of bytes to any; and what a container's bytes behind its mark say.
-- Assumes nothing.
use Rattle.std.proofs.Common.{◌≡◌, ℕ, ◌+◌, ◌-◌, ◌*◌, ◌/◌, ◌%◌, ◌^◌, ◌<◌, ◌≤◌, Bool, true, false, cond, eqb, ltb, leb, List, length, get_or, sym, refl, ap, ◌∙◌, subst, arith, ltb-true, eq-eqb, ne_eqb, le-leb, leb-true}
use lib.Bits.{bit_and}
use lib.ListN.{get_or-eq_default}
use borrow.Author.Tests.{lt-leb}
use Rattle.words.proofs.Powers.{mask_is}
use Rattle.schema.specs.Marks.{types, line}
use Rattle.schema.specs.Kinds.{find, place_of, place_at}
use Rattle.schema.proofs.Table.{agree}
use Rattle.schema.proofs.Search.{place-marks}
use Rattle.table.specs.Words.{lower, line_word, MarkAt, line_for, lines_of, held_at, behind_at}

-- computed for each line: its mark leads to its word, which has that mark
own : (k : ℕ) → k < 12 → line_for ((line k).first + 256 * (line k).second) ≡ line_word k
unfolding line_for lines_of line_word lower types
own = agree (λ k. line_for ((line k).first + 256 * (line k).second)) line_word 12 refl

own-mark : (k : ℕ) → k < 12 → line_word k % 65536 ≡ (line k).first + 256 * (line k).second
unfolding line_word lower types
own-mark = agree (λ k. line_word k % 65536) (λ k. (line k).first + 256 * (line k).second) 12 refl

-- and each word that stands where its own mark leads has a mark of the table
abbrev hash : ℕ → ℕ
hash m = m * 109 / 1024 % 16

abbrev v : ℕ → ℕ
v h = get_or lines_of h 0 % 65536

has-mark : (h : ℕ) → h < 16 → cond (eqb (hash (v h)) h) (ltb (place_of (v h % 256) (v h / 256)) 12) true ≡ true
unfolding lines_of types place_of find
has-mark = agree (λ h. cond (eqb (hash (v h)) h) (ltb (place_of (v h % 256) (v h / 256)) 12) true) (λ h. true) 16 refl

known : (h : ℕ) → h < 16 → hash (v h) ≡ h → place_of (v h % 256) (v h / 256) < 12
known h l e = ltb-true (place_of (v h % 256) (v h / 256)) 12 (rw (eq-eqb (hash (v h)) h e) at (has-mark h l))

module _ {s : List ℕ} {at m : ℕ} (q : MarkAt s at m) where
  pub mark-small : m < 65536
  mark-small = omega arith

  -- the line of a mark of the table
  pub line-is : place_at s at < 12 → line_for m ≡ line_word (place_at s at)
  unfolding place_at
  line-is h =
      let p = place-marks (get_or s at 0) (get_or s (at + 1) 0) h in
      let n : (line (place_at s at)).first + 256 * (line (place_at s at)).second ≡ m = rw (p.first, p.second) (sym q.number) in
      sym (ap line_for n) ∙ own (place_at s at) h

  pub line_marked : place_at s at < 12 → line_for m % 65536 ≡ m
  unfolding place_at
  line_marked h =
      let p = place-marks (get_or s at 0) (get_or s (at + 1) 0) h in
      ap (λ (u : ℕ). u % 65536) (line-is h) ∙ own-mark (place_at s at) h ∙ rw (p.first, p.second) (sym q.number)

  -- and where the line has the mark, it is one of the table
  pub line_known : line_for m % 65536 ≡ m → place_at s at < 12
  unfolding place_at line_for
  line_known e =
      let p : place_of (m % 256) (m / 256) < 12 =
      subst (λ (u : ℕ). place_of (u % 256) (u / 256) < 12) e (known (hash m) (omega arith) (ap hash e)) in
      let x : m % 256 ≡ get_or s at 0 = omega arith in
      let y : m / 256 ≡ get_or s (at + 1) 0 = omega arith in
      rw (← x, ← y) p

-- the code's table is that of the specification, so what stands there is too
pub line-in : (m : ℕ) {l : List ℕ} {w : ℕ} → l ≡ lines_of → w ≡ get_or l (bit_and (m * 109 / 2 ^ 10) 15) 0 → w ≡ line_for m
unfolding line_for
line-in m {l} e f = f ∙ ap (λ (i : ℕ). get_or l i 0) (mask_is (m * 109 / 2 ^ 10) 4) ∙ ap (λ (l : List ℕ). get_or l (hash m) 0) e

-- ---- what a container holds

module _ (s : List ℕ) (at k : ℕ) where
  pub held-other : (k ≡ 11 → ⊥) → 9 ≤ k → k - 9 + 1 ≡ held_at s at k
  unfolding held_at
  held-other h l = rw (ne_eqb k 11 h) (omega arith)

  module _ (e : k ≡ 11) where
    pub held-past : length s ≤ at → 0 ≡ held_at s at k
    unfolding held_at
    held-past h = rw (eq-eqb k 11 e, get_or-eq_default s 0 h)

    pub held-many : (n : ℕ) → n ≡ get_or s at 0 → 128 < n → 0 ≡ held_at s at k
    unfolding held_at
    held-many n q h = rw (eq-eqb k 11 e, ← q, lt-leb n 128 h)

    pub held-is : (n : ℕ) → n ≡ get_or s at 0 → n ≤ 128 → n ≡ held_at s at k
    unfolding held_at
    held-is n q h = rw (eq-eqb k 11 e, ← q, le-leb n 128 h)

pub behind-struct : (at k : ℕ) → k ≡ 11 → at + 1 ≡ behind_at at k
unfolding behind_at
behind-struct at k e = rw (eq-eqb k 11 e)

pub behind-other : (at k : ℕ) → (k ≡ 11 → ⊥) → at ≡ behind_at at k
unfolding behind_at
behind-other at k h = rw (ne_eqb k 11 h)

pub sixteen : length lines_of ≡ 16
unfolding lines_of
sixteen = refl

pub held_small : (s : List ℕ) (at k c : ℕ) → c ≡ held_at s at k → k < 12 → c ≤ 128
unfolding held_at
held_small s at k c e h = go (eqb k 11) (leb (get_or s at 0) 128) refl e
  where
    go : (x y : Bool) → leb (get_or s at 0) 128 ≡ y → c ≡ cond x (cond y (get_or s at 0) 0) (k - 8) → c ≤ 128
    go true true q p = omega (arith, leb-true (get_or s at 0) 128 q)
    go true false q p = omega arith
    go false y q p = omega arith

pub behind_more : (at k r : ℕ) → r ≡ behind_at at k → at ≤ r
unfolding behind_at
behind_more at k r e = go (eqb k 11) e
  where
    go : (b : Bool) → r ≡ cond b (at + 1) at → at ≤ r
    go true p = omega arith
    go false p = omega arith
