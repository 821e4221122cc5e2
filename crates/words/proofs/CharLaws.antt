-- The first two bytes of a character against the lines of the table, the sizes that follow, and the high bits of a word. Assumes nothing.
use mathlib.Core.Path.{◌≡◌, refl, sym, ap, ◌∙◌}
use mathlib.Core.List.{List}
use Prim.Native.Nat.{ℕ, zero, suc, ◌+◌, ◌-◌, ◌*◌, ◌/◌, ◌≤◌, ◌<◌}
use native.Mathlib.Nat.{mod-eq_of_lt}
use native.Mathlib.Decide.{dec_lt}
use native.Mathlib.Omega.{arith}
use lib.Bits.{bit_and, and_block, and_high}
use lib.Dec.{lit<}
use lib.ListN.{length, get_or}
use borrow.Author.Tests.{eq-eqb, ne_eqb}
use Rattle.words.specs.Bytes.{Bytes, empty, byte, num, part}
use Rattle.words.specs.Text.{In, Tail, One, Two, xc2-df, Three, xe0, xe1-ec, xed, xee-ef, Four, xf0, xf1-f3, xf4}
use Rattle.words.specs.TextTest.{one?, two?, three?, four?, first_yes, char_size, no_one, no-two, size2, size3, size4}
use Rattle.words.specs.Chars.{Ascii, bare, ascii, front_size, low_behind, high_behind, Begins}
use Rattle.words.proofs.Parts.{length_part, bytes-part, get_d_part}

-- ---- the bounds behind a first byte

pub low-E0 : (a : ℕ) → a ≡ 0xE0 → low_behind a ≡ 0xA0
unfolding low_behind
low-E0 a e = rw (eq-eqb a 0xE0 e)

pub low-F0 : (a : ℕ) → a ≡ 0xF0 → low_behind a ≡ 0x90
unfolding low_behind
low-F0 a e = rw (ne_eqb a 0xE0 (λ f. omega arith), eq-eqb a 0xF0 e)

pub low-other : (a : ℕ) → ¬ (a ≡ 0xE0) → ¬ (a ≡ 0xF0) → low_behind a ≡ 0x80
unfolding low_behind
low-other a e f = rw (ne_eqb a 0xE0 e, ne_eqb a 0xF0 f)

pub high-ED : (a : ℕ) → a ≡ 0xED → high_behind a ≡ 0x9F
unfolding high_behind
high-ED a e = rw (eq-eqb a 0xED e)

pub high-F4 : (a : ℕ) → a ≡ 0xF4 → high_behind a ≡ 0x8F
unfolding high_behind
high-F4 a e = rw (ne_eqb a 0xED (λ f. omega arith), eq-eqb a 0xF4 e)

pub high-other : (a : ℕ) → ¬ (a ≡ 0xED) → ¬ (a ≡ 0xF4) → high_behind a ≡ 0xBF
unfolding high_behind
high-other a e f = rw (ne_eqb a 0xED e, ne_eqb a 0xF4 f)

-- ---- the lines of the table, by the first two bytes

begins-of : {a b : ℕ} (l h : ℕ) → In 0xC2 0xF4 a → low_behind a ≡ l → high_behind a ≡ h → In l h b → Begins a b
begins-of l h i e f t = record { lead = i; behind = rw (e, f) t }

in-of : {a b : ℕ} (l h : ℕ) → Begins a b → low_behind a ≡ l → high_behind a ≡ h → In l h b
in-of l h s e f = rw (e, f) at s.behind

two-begins : {a b : ℕ} → Two a b → Begins a b
two-begins {a} (xc2-df p t) =
    begins-of 0x80 0xBF (record { from = omega arith; to = omega arith }) (low-other a (λ e. omega arith) (λ e. omega arith))
    (high-other a (λ e. omega arith) (λ e. omega arith)) t

three-begins : {a b c : ℕ} → Three a b c → Begins a b
three-begins {a} (xe0 p t _) =
    begins-of 0xA0 0xBF (record { from = omega arith; to = omega arith }) (low-E0 a (omega arith)) (high-other a (λ e. omega arith) (λ e. omega arith)) t
three-begins {a} (xe1-ec p t _) =
    begins-of 0x80 0xBF (record { from = omega arith; to = omega arith }) (low-other a (λ e. omega arith) (λ e. omega arith))
    (high-other a (λ e. omega arith) (λ e. omega arith)) t
three-begins {a} (xed p t _) =
    begins-of 0x80 0x9F (record { from = omega arith; to = omega arith }) (low-other a (λ e. omega arith) (λ e. omega arith)) (high-ED a (omega arith)) t
three-begins {a} (xee-ef p t _) =
    begins-of 0x80 0xBF (record { from = omega arith; to = omega arith }) (low-other a (λ e. omega arith) (λ e. omega arith))
    (high-other a (λ e. omega arith) (λ e. omega arith)) t

four-begins : {a b c d : ℕ} → Four a b c d → Begins a b
four-begins {a} (xf0 p t _ _) =
    begins-of 0x90 0xBF (record { from = omega arith; to = omega arith }) (low-F0 a (omega arith)) (high-other a (λ e. omega arith) (λ e. omega arith)) t
four-begins {a} (xf1-f3 p t _ _) =
    begins-of 0x80 0xBF (record { from = omega arith; to = omega arith }) (low-other a (λ e. omega arith) (λ e. omega arith))
    (high-other a (λ e. omega arith) (λ e. omega arith)) t
four-begins {a} (xf4 p t _ _) =
    begins-of 0x80 0x8F (record { from = omega arith; to = omega arith }) (low-other a (λ e. omega arith) (λ e. omega arith)) (high-F4 a (omega arith)) t

begins-two : {a b : ℕ} → Begins a b → a < 0xE0 → Two a b
begins-two {a} s h =
    let i = s.lead in
    xc2-df (record { from = omega arith; to = omega arith })
    (in-of 0x80 0xBF s (low-other a (λ e. omega arith) (λ e. omega arith)) (high-other a (λ e. omega arith) (λ e. omega arith)))

begins-three : {a b c : ℕ} → Begins a b → 0xE0 ≤ a → a < 0xF0 → Tail c → Three a b c
begins-three {a} {b} {c} s g h t = go (dec_lt a 0xE1) (dec_lt a 0xED) (dec_lt a 0xEE)
  where
    go : Dec (a < 0xE1) → Dec (a < 0xED) → Dec (a < 0xEE) → Three a b c
    go (yes p) q r =
        xe0 (record { from = omega arith; to = omega arith })
        (in-of 0xA0 0xBF s (low-E0 a (omega arith)) (high-other a (λ e. omega arith) (λ e. omega arith))) t
    go (no p) (yes q) r =
        xe1-ec (record { from = omega arith; to = omega arith })
        (in-of 0x80 0xBF s (low-other a (λ e. omega arith) (λ e. omega arith)) (high-other a (λ e. omega arith) (λ e. omega arith))) t
    go (no p) (no q) (yes r) =
        xed (record { from = omega arith; to = omega arith })
        (in-of 0x80 0x9F s (low-other a (λ e. omega arith) (λ e. omega arith)) (high-ED a (omega arith))) t
    go (no p) (no q) (no r) =
        xee-ef (record { from = omega arith; to = omega arith })
        (in-of 0x80 0xBF s (low-other a (λ e. omega arith) (λ e. omega arith)) (high-other a (λ e. omega arith) (λ e. omega arith))) t

begins-four : {a b c d : ℕ} → Begins a b → 0xF0 ≤ a → Tail c → Tail d → Four a b c d
begins-four {a} {b} {c} {d} s g t v = go (dec_lt a 0xF1) (dec_lt a 0xF4)
  where
    i : In 0xC2 0xF4 a
    i = s.lead

    go : Dec (a < 0xF1) → Dec (a < 0xF4) → Four a b c d
    go (yes p) q =
        xf0 (record { from = omega arith; to = omega arith })
        (in-of 0x90 0xBF s (low-F0 a (omega arith)) (high-other a (λ e. omega arith) (λ e. omega arith))) t v
    go (no p) (yes q) =
        xf1-f3 (record { from = omega arith; to = omega arith })
        (in-of 0x80 0xBF s (low-other a (λ e. omega arith) (λ e. omega arith)) (high-other a (λ e. omega arith) (λ e. omega arith))) t v
    go (no p) (no q) =
        xf4 (record { from = omega (arith, i); to = omega (arith, i) })
        (in-of 0x80 0x8F s (low-other a (λ e. omega arith) (λ e. omega arith)) (high-F4 a (omega (arith, i)))) t v

-- ---- the size that follows, as the code finds it

no-three : {a b c : ℕ} → 0xF0 ≤ a → ¬ Three a b c
no-three h (xe0 p q t) = omega arith
no-three h (xe1-ec p q t) = omega arith
no-three h (xed p q t) = omega arith
no-three h (xee-ef p q t) = omega arith

three-tail : {a b c : ℕ} → Three a b c → Tail c
three-tail (xe0 p q t) = t
three-tail (xe1-ec p q t) = t
three-tail (xed p q t) = t
three-tail (xee-ef p q t) = t

four-tails : {a b c d : ℕ} → Four a b c d → Tail c × Tail d
four-tails (xf0 p q t v) = (t, v)
four-tails (xf1-f3 p q t v) = (t, v)
four-tails (xf4 p q t v) = (t, v)

size0 : (a b c d : ℕ) → ¬ One a → ¬ Two a b → ¬ Three a b c → ¬ Four a b c d → char_size a b c d ≡ 0
unfolding char_size first_yes
size0 a b c d = go (one? a) (two? a b) (three? a b c) (four? a b c d)
  where
    go : {A B C D : Type 0} (p : Dec A) (q : Dec B) (r : Dec C) (s : Dec D) → ¬ A → ¬ B → ¬ C → ¬ D → first_yes p q r s ≡ 0
    go (yes p) q r s n m k l = absurd (n p)
    go (no _) (yes q) r s n m k l = absurd (m q)
    go (no _) (no _) (yes r) s n m k l = absurd (k r)
    go (no _) (no _) (no _) (yes s) n m k l = absurd (l s)
    go (no _) (no _) (no _) (no _) n m k l = refl

-- the first two bytes of u are a and b, with which a character of more than one begins
pub record Starts (u : List ℕ) (a b : ℕ) : Type 0 where
  pub first : a ≡ get_or u 0 0
  pub second : b ≡ get_or u 1 0
  pub begins : Begins a b

-- and c, the third, goes on with it
pub record Goes (u : List ℕ) (a b c : ℕ) : Type 0 where
  pub starts : Starts u a b
  pub third : c ≡ get_or u 2 0
  pub long : 0xE0 ≤ a
  pub tail : Tail c

pub first-is : (b : List ℕ) (i stop : ℕ) → i < stop → get_or b i 0 ≡ get_or (part b i (stop - i)) 0 0
first-is b i stop h =
    let e : i + 0 ≡ i = omega arith in
    sym (get_d_part b i (stop - i) 0 (omega arith) ∙ ap (λ (k : ℕ). get_or b k 0) e)

pub size_none : (u : List ℕ) {a b : ℕ} → a ≡ get_or u 0 0 → b ≡ get_or u 1 0 → 0x80 ≤ a → ¬ Begins a b → front_size u ≡ 0
unfolding front_size
size_none u {a} {b} ea eb h n =
    rw (← ea, ← eb) (size0 a b (get_or u 2 0) (get_or u 3 0) (no_one h) (λ t. n (two-begins t)) (λ t. n (three-begins t)) (λ t. n (four-begins t)))

pub size-two : {u : List ℕ} {a b : ℕ} → Starts u a b → a < 0xE0 → front_size u ≡ 2
unfolding front_size
size-two {u} {a} {b} s h = rw (← s.first, ← s.second) (size2 a b (get_or u 2 0) (get_or u 3 0) (begins-two s.begins h))

pub size-no-third : {u : List ℕ} {a b c : ℕ} → Starts u a b → c ≡ get_or u 2 0 → 0xE0 ≤ a → ¬ Tail c → front_size u ≡ 0
unfolding front_size
size-no-third {u} {a} {b} {c} s ec h n =
    rw (← s.first, ← s.second, ← ec)
    (size0 a b c (get_or u 3 0) (no_one (omega arith)) (no-two h) (λ t. n (three-tail t)) (λ t. n (four-tails t).0))

pub size-three : {u : List ℕ} {a b c : ℕ} → Goes u a b c → a < 0xF0 → front_size u ≡ 3
unfolding front_size
size-three {u} {a} {b} {c} g h =
    let s = g.starts in
    rw (← s.first, ← s.second, ← g.third) (size3 a b c (get_or u 3 0) (begins-three s.begins g.long h g.tail))

pub size-no-fourth : {u : List ℕ} {a b c d : ℕ} → Goes u a b c → d ≡ get_or u 3 0 → 0xF0 ≤ a → ¬ Tail d → front_size u ≡ 0
unfolding front_size
size-no-fourth {u} {a} {b} {c} {d} g ed h n =
    let s = g.starts in
    rw (← s.first, ← s.second, ← g.third, ← ed)
    (size0 a b c d (no_one (omega arith)) (no-two g.long) (no-three h) (λ t. n (four-tails t).1))

pub size-four : {u : List ℕ} {a b c d : ℕ} → Goes u a b c → d ≡ get_or u 3 0 → 0xF0 ≤ a → Tail d → front_size u ≡ 4
unfolding front_size
size-four {u} {a} {b} {c} {d} g ed h v =
    let s = g.starts in
    rw (← s.first, ← s.second, ← g.third, ← ed) (size4 a b c d (begins-four s.begins h g.tail v))

-- ---- the high bits of a word

highs : ℕ → ℕ
highs zero = 0
highs (suc n) = highs n * 256 + 0x80

both-none : (x y : ℕ) → x * 256 + y ≡ 0 → (x ≡ 0) × (y ≡ 0)
both-none x y e = (omega arith, omega arith)

no-high : (d : ℕ) → d < 256 → bit_and d 0x80 ≡ 0 → d < 0x80
no-high d h e =
    let l : d / 128 < 2 = omega arith in
    let f : d / 128 * 128 ≡ 0 = ap (λ (x : ℕ). x * 128) (sym (mod-eq_of_lt l)) ∙ sym (and_high d 1 7) ∙ e in
    omega arith

high_bits : {u : List ℕ} → Bytes u → bit_and (num u) (highs (length u)) ≡ 0 → Ascii u
unfolding num highs
high_bits empty e = bare
high_bits (byte {d} {ds} p h) e =
    let s : d + 256 * num ds ≡ num ds * 256 + d = omega arith in
    let z = both-none (bit_and (num ds) (highs (length ds))) (bit_and d 0x80)
    (sym (and_block 8 (num ds) (highs (length ds)) d 0x80 p (lit< tt)) ∙ ap (λ (x : ℕ). bit_and x (highs (length ds) * 256 + 0x80)) (sym s) ∙ e) in
    ascii (no-high d p z.1) (high_bits h z.0)

-- a word that has none is ASCII
pub word-ascii : {b : List ℕ} (at w : ℕ) → Bytes b → at + 8 ≤ length b → w ≡ num (part b at 8) → bit_and w 0x8080808080808080 ≡ 0 → Ascii (part b at 8)
unfolding highs
word-ascii {b} at w h f r e =
    let n : length (part b at 8) ≡ 8 = length_part b at 8 f in
    high_bits (bytes-part at 8 h) (rw n (ap (λ (x : ℕ). bit_and x 0x8080808080808080) (sym r) ∙ e))
