-- The test whether bytes are text. Its type says all that it tells: a reader need not follow how. Assumes nothing: these are definitions.
use Rattle.std.specs.Prelude.{Bool, true, false, cond, ◌⊎◌, ◌≡◌, refl, List, [], ◌∷◌, ℕ, zero, suc, ◌-◌, ◌≤◌, eqb, length, drop, get_or}
use Rattle.std.proofs.Common.{true≢false, inl, inr, sym, arith}
use Rattle.std.proofs.Math.Decide.{dec_le}
use Rattle.words.specs.Tests.{both?, either?, change?, is_yes}
use Rattle.words.specs.Text.{In, Tail, One, x00-7F, Two, xc2-df, Three, xe0, xe1-ec, xed, xee-ef, Four, xf0, xf1-f3, xf4}
use Rattle.words.specs.Text.{WellFormed, none, utf8-1, utf8-2, utf8-3, utf8-4}

-- ---- the lines

unfoldable pub in? : (low high x : ℕ) → Dec (In low high x)
unfolding both? change?
in? low high x = change? (λ p. record { from = p.0; to = p.1 }) (λ i. (i.from, i.to)) (both? (dec_le low x) (dec_le x high))

unfoldable pub one? : (a : ℕ) → Dec (One a)
one? a = change? (λ p. x00-7F p) back (in? 0x00 0x7F a)
  where
    back : {a : ℕ} → One a → In 0x00 0x7F a
    back (x00-7F p) = p

unfoldable pub two? : (a b : ℕ) → Dec (Two a b)
two? a b = change? (λ p. xc2-df p.0 p.1) back (both? (in? 0xC2 0xDF a) (in? 0x80 0xBF b))
  where
    back : {a b : ℕ} → Two a b → In 0xC2 0xDF a × Tail b
    back (xc2-df p q) = (p, q)

-- the first byte's bounds and the second's
abbrev Line : ℕ → ℕ → ℕ → ℕ → ℕ → ℕ → Type 0
Line low high low' high' a b = In low high a × In low' high' b

unfoldable pub three? : (a b c : ℕ) → Dec (Three a b c)
three? a b c = change? (λ p. to p.0 p.1) from
    (both? (either? (line 0xE0 0xE0 0xA0 0xBF) (either? (line 0xE1 0xEC 0x80 0xBF) (either? (line 0xED 0xED 0x80 0x9F) (line 0xEE 0xEF 0x80 0xBF))))
    (in? 0x80 0xBF c))
  where
    line : (low high low' high' : ℕ) → Dec (Line low high low' high' a b)
    line low high low' high' = both? (in? low high a) (in? low' high' b)

    Lines : Type 0
    Lines = Line 0xE0 0xE0 0xA0 0xBF a b ⊎ (Line 0xE1 0xEC 0x80 0xBF a b ⊎ (Line 0xED 0xED 0x80 0x9F a b ⊎ Line 0xEE 0xEF 0x80 0xBF a b))

    to : Lines → Tail c → Three a b c
    to (inl p) t = xe0 p.0 p.1 t
    to (inr (inl p)) t = xe1-ec p.0 p.1 t
    to (inr (inr (inl p))) t = xed p.0 p.1 t
    to (inr (inr (inr p))) t = xee-ef p.0 p.1 t

    from : Three a b c → Lines × Tail c
    from (xe0 p q t) = (inl (p, q), t)
    from (xe1-ec p q t) = (inr (inl (p, q)), t)
    from (xed p q t) = (inr (inr (inl (p, q))), t)
    from (xee-ef p q t) = (inr (inr (inr (p, q))), t)

unfoldable pub four? : (a b c d : ℕ) → Dec (Four a b c d)
four? a b c d = change? (λ p. to p.0 p.1.0 p.1.1) from
    (both? (either? (line 0xF0 0xF0 0x90 0xBF) (either? (line 0xF1 0xF3 0x80 0xBF) (line 0xF4 0xF4 0x80 0x8F))) (both? (in? 0x80 0xBF c) (in? 0x80 0xBF d)))
  where
    line : (low high low' high' : ℕ) → Dec (Line low high low' high' a b)
    line low high low' high' = both? (in? low high a) (in? low' high' b)

    Lines : Type 0
    Lines = Line 0xF0 0xF0 0x90 0xBF a b ⊎ (Line 0xF1 0xF3 0x80 0xBF a b ⊎ Line 0xF4 0xF4 0x80 0x8F a b)

    to : Lines → Tail c → Tail d → Four a b c d
    to (inl p) t v = xf0 p.0 p.1 t v
    to (inr (inl p)) t v = xf1-f3 p.0 p.1 t v
    to (inr (inr p)) t v = xf4 p.0 p.1 t v

    from : Four a b c d → Lines × (Tail c × Tail d)
    from (xf0 p q t v) = (inl (p, q), (t, v))
    from (xf1-f3 p q t v) = (inr (inl (p, q)), (t, v))
    from (xf4 p q t v) = (inr (inr (p, q)), (t, v))

-- ---- the bytes of a character

-- the number of the first test that says yes; 0 where none does
unfoldable pub first_yes : {A B C D : Type 0} → Dec A → Dec B → Dec C → Dec D → ℕ
first_yes (yes p) q r s = 1
first_yes (no n) (yes q) r s = 2
first_yes (no n) (no m) (yes r) s = 3
first_yes (no n) (no m) (no k) (yes s) = 4
first_yes (no n) (no m) (no k) (no l) = 0

-- how many bytes the character takes that stands at the front of a, b, c, d; 0 where none does
unfoldable pub char_size : ℕ → ℕ → ℕ → ℕ → ℕ
char_size a b c d = first_yes (one? a) (two? a b) (three? a b c) (four? a b c d)

-- what that number tells
pub data Told (a b c d : ℕ) : ℕ → Type 0 where
  is1 : One a → Told a b c d 1
  is2 : Two a b → Told a b c d 2
  is3 : Three a b c → Told a b c d 3
  is4 : Four a b c d → Told a b c d 4
  is0 : Told a b c d 0

pub told : (a b c d : ℕ) → Told a b c d (char_size a b c d)
unfolding char_size first_yes
told a b c d = go (one? a) (two? a b) (three? a b c) (four? a b c d)
  where
    go : {a b c d : ℕ} (p : Dec (One a)) (q : Dec (Two a b)) (r : Dec (Three a b c)) (s : Dec (Four a b c d)) → Told a b c d (first_yes p q r s)
    go (yes p) q r s = is1 p
    go (no n) (yes q) r s = is2 q
    go (no n) (no m) (yes r) s = is3 r
    go (no n) (no m) (no k) (yes s) = is4 s
    go (no n) (no m) (no k) (no l) = is0

-- ---- the characters of a run of bytes

-- From byte k on there are characters up to the end. Of a character's bytes those that are not there count as 0, which is no tail.
unfoldable pub chars_from : ℕ → List ℕ → Bool
chars_from k [] = true
chars_from (suc k) (a ∷ u) = chars_from k u
chars_from zero (a ∷ u) =
    cond (eqb (char_size a (get_or u 0 0) (get_or u 1 0) (get_or u 2 0)) 0) false (chars_from (char_size a (get_or u 0 0) (get_or u 1 0) (get_or u 2 0) - 1) u)

-- no byte behind a character's first is 0
pub behind2 : {a b : ℕ} → Two a b → 1 ≤ b
behind2 (xc2-df p q) = omega arith

pub behind3 : {a b c : ℕ} → Three a b c → (1 ≤ b) × (1 ≤ c)
behind3 (xe0 p q t) = (omega arith, omega arith)
behind3 (xe1-ec p q t) = (omega arith, omega arith)
behind3 (xed p q t) = (omega arith, omega arith)
behind3 (xee-ef p q t) = (omega arith, omega arith)

pub behind4 : {a b c d : ℕ} → Four a b c d → (1 ≤ b) × ((1 ≤ c) × (1 ≤ d))
behind4 (xf0 p q t v) = (omega arith, (omega arith, omega arith))
behind4 (xf1-f3 p q t v) = (omega arith, (omega arith, omega arith))
behind4 (xf4 p q t v) = (omega arith, (omega arith, omega arith))

-- what is found is text
pub sound : (u : List ℕ) (k : ℕ) → k ≤ length u → chars_from k u ≡ true → WellFormed (drop k u)
unfolding chars_from
sound [] zero h e = none
sound [] (suc k) h e = absurd (omega arith)
sound (a ∷ u) (suc k) h e = sound u k (omega arith) e
sound (a ∷ u) zero h e = step a u (told a (get_or u 0 0) (get_or u 1 0) (get_or u 2 0)) (λ k. sound u k) e
  where
    step : (a : ℕ) (u : List ℕ) {n : ℕ} → Told a (get_or u 0 0) (get_or u 1 0) (get_or u 2 0) n
        → ((k : ℕ) → k ≤ length u → chars_from k u ≡ true → WellFormed (drop k u)) → cond (eqb n 0) false (chars_from (n - 1) u) ≡ true → WellFormed (a ∷ u)
    step a u (is1 p) on e = utf8-1 p (on 0 (omega arith) e)
    step a [] (is2 p) on e = absurd (omega (arith, behind2 p))
    step a (b ∷ u) (is2 p) on e = utf8-2 p (on 1 (omega arith) e)
    step a [] (is3 p) on e = absurd (omega (arith, (behind3 p).0))
    step a (b ∷ []) (is3 p) on e = absurd (omega (arith, (behind3 p).1))
    step a (b ∷ c ∷ u) (is3 p) on e = utf8-3 p (on 2 (omega arith) e)
    step a [] (is4 p) on e = absurd (omega (arith, (behind4 p).0))
    step a (b ∷ []) (is4 p) on e = absurd (omega (arith, (behind4 p).1.0))
    step a (b ∷ c ∷ []) (is4 p) on e = absurd (omega (arith, (behind4 p).1.1))
    step a (b ∷ c ∷ d ∷ u) (is4 p) on e = utf8-4 p (on 3 (omega arith) e)
    step a u is0 on e = absurd (true≢false (sym e))

-- where a character of each line stands, it is that line's: no two have a first byte in common
leads3 : {a b c : ℕ} → Three a b c → (0xE0 ≤ a) × (a ≤ 0xEF)
leads3 (xe0 p q t) = (omega arith, omega arith)
leads3 (xe1-ec p q t) = (omega arith, omega arith)
leads3 (xed p q t) = (omega arith, omega arith)
leads3 (xee-ef p q t) = (omega arith, omega arith)

leads4 : {a b c d : ℕ} → Four a b c d → 0xF0 ≤ a
leads4 (xf0 p q t v) = omega arith
leads4 (xf1-f3 p q t v) = omega arith
leads4 (xf4 p q t v) = omega arith

pub no_one : {a : ℕ} → 0x80 ≤ a → ¬ One a
no_one h (x00-7F p) = omega arith

pub no-two : {a b : ℕ} → 0xE0 ≤ a → ¬ Two a b
no-two h (xc2-df p q) = omega arith

pub size1 : (a b c d : ℕ) → One a → char_size a b c d ≡ 1
unfolding char_size first_yes
size1 a b c d p = go (one? a) (two? a b) (three? a b c) (four? a b c d) p
  where
    go : {A B C D : Type 0} (p : Dec A) (q : Dec B) (r : Dec C) (s : Dec D) → A → first_yes p q r s ≡ 1
    go (yes p) q r s x = refl
    go (no n) q r s x = absurd (n x)

pub size2 : (a b c d : ℕ) → Two a b → char_size a b c d ≡ 2
unfolding char_size first_yes
size2 a b c d (xc2-df p t) = go (one? a) (two? a b) (three? a b c) (four? a b c d) (no_one (omega arith)) (xc2-df p t)
  where
    go : {A B C D : Type 0} (p : Dec A) (q : Dec B) (r : Dec C) (s : Dec D) → ¬ A → B → first_yes p q r s ≡ 2
    go (yes p) q r s n x = absurd (n p)
    go (no n) (yes q) r s _ x = refl
    go (no n) (no m) r s _ x = absurd (m x)

pub size3 : (a b c d : ℕ) → Three a b c → char_size a b c d ≡ 3
unfolding char_size first_yes
size3 a b c d p = let l = (leads3 p).0 in go (one? a) (two? a b) (three? a b c) (four? a b c d) (no_one (omega arith)) (no-two l) p
  where
    go : {A B C D : Type 0} (p : Dec A) (q : Dec B) (r : Dec C) (s : Dec D) → ¬ A → ¬ B → C → first_yes p q r s ≡ 3
    go (yes p) q r s n m x = absurd (n p)
    go (no _) (yes q) r s n m x = absurd (m q)
    go (no _) (no _) (yes r) s n m x = refl
    go (no _) (no _) (no k) s n m x = absurd (k x)

pub size4 : (a b c d : ℕ) → Four a b c d → char_size a b c d ≡ 4
unfolding char_size first_yes
size4 a b c d p = let l = leads4 p in
    go (one? a) (two? a b) (three? a b c) (four? a b c d) (no_one (omega arith)) (no-two (omega arith)) (λ q. omega (arith, (leads3 q).1)) p
  where
    go : {A B C D : Type 0} (p : Dec A) (q : Dec B) (r : Dec C) (s : Dec D) → ¬ A → ¬ B → ¬ C → D → first_yes p q r s ≡ 4
    go (yes p) q r s n m k x = absurd (n p)
    go (no _) (yes q) r s n m k x = absurd (m q)
    go (no _) (no _) (yes r) s n m k x = absurd (k r)
    go (no _) (no _) (no _) (yes s) n m k x = refl
    go (no _) (no _) (no _) (no l) n m k x = absurd (l x)

-- and text is found
pub complete : {u : List ℕ} → WellFormed u → chars_from 0 u ≡ true
unfolding chars_from
complete none = refl
complete (utf8-1 {a} {u} p w) = rw (size1 a (get_or u 0 0) (get_or u 1 0) (get_or u 2 0) p) (complete w)
complete (utf8-2 {a} {b} {u} p w) = rw (size2 a b (get_or u 0 0) (get_or u 1 0) p) (complete w)
complete (utf8-3 {a} {b} {c} {u} p w) = rw (size3 a b c (get_or u 0 0) p) (complete w)
complete (utf8-4 {a} {b} {c} {d} {u} p w) = rw (size4 a b c d p) (complete w)

-- ---- the test

unfoldable pub by_test : {P : Type 0} (x : Bool) → (x ≡ true → P) → (P → x ≡ true) → Dec P
by_test true f g = yes (f refl)
by_test false f g = no λ p. true≢false (sym (g p))

unfoldable pub well_formed? : (u : List ℕ) → Dec (WellFormed u)
well_formed? u = by_test (chars_from 0 u) (λ e. sound u 0 (omega arith) e) complete

unfoldable pub is_text : List ℕ → Bool
is_text u = is_yes (well_formed? u)
