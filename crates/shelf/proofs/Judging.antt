-- Judging a catalogue, schema after schema, the rules of schema k aside. Assumes nothing.
use Rattle.std.specs.Prelude as P
use Rattle.std.specs.Option.{is_some}
use Rattle.std.specs.Result.{is_ok}
use mathlib.Core.Path.{◌≡◌, refl, sym, ap, ◌∙◌}
use mathlib.Core.Logic.{◌⊎◌, inl, inr}
use mathlib.Core.Bool.{Bool, true, false, not, ◌&&◌, ◌||◌}
use mathlib.Core.List.{List}
use Prim.Native.Nat.{ℕ, zero, suc, ◌+◌, ◌-◌, ◌*◌, ◌≤◌, ◌<◌}
use native.Mathlib.Omega.{arith}
use lib.Dec.{eqb, leb}
use lib.ListN.{length, take, drop}
use borrow.Author.Tests.{le-leb, lt-leb, lt-ltb, le-ltb, eq-eqb, ne_eqb, eqb-true, eqb-false}
use Rattle.words.specs.Bytes.{num, part}
use Rattle.words.proofs.Parts.{lt-or-le}
use Rattle.schema.specs.Reading.{judged}
use Rattle.layout.specs.Refusals as N
use Rattle.layout.specs.Setting.{unless}
use Rattle.layout.specs.Entries.{Verdict, done, refused, verdict, is_accepted, judge_of}
use Rattle.answers.specs.declared.Refusal.{Refusal}
use Rattle.answers.specs.Meaning.{Outcome}
use Rattle.answers.specs.Meaning.{refusal_means, outcome_means}
use Rattle.shelf.specs.Catalogue.{count_in, size_of, start_of, schema_in, schemas_to, number_among, among, stands, stand, is_catalogue}
use Rattle.shelf.specs.Places.{Short, NumberAs, stands_but, SoundBut}
use Rattle.shelf.proofs.Entries.{start-most}

-- ---- one schema

judge-opens : {v : Verdict} (s : List ℕ) → v ≡ judge_of s → v ≡ verdict (unless (is_accepted (judged s)) 1)
unfolding judge_of
judge-opens s e = e

not_done : {r : N.Refusal} → done ≡ refused r → ⊥
not_done e = let z : ◌≡◌ {A = ℕ} 0 1 = cc in omega arith

-- without its rules it doesn't stand; where it stands without them, they alone decide
module _ (t : List ℕ) (i : ℕ) where
  too_long : 1024 < size_of t i → stands t i ≡ false
  unfolding stands
  too_long h = rw (lt-leb (size_of t i) 1024 h)

  module _ (k : ℕ) where
    no-schema : stands_but t i (schema_in t i) k ≡ false → stands t i ≡ false
    unfolding stands stands_but
    no-schema = go (leb (size_of t i) 1024) (is_accepted (judged (schema_in t i))) (among (schema_in t i) (schemas_to t i)) (eqb i k)
      where
        go : (a b c d : Bool) → not c && (d || b) ≡ false → a && (b && not c) ≡ false
        go false b c d e = refl
        go true false c d e = refl
        go true true true d e = refl
        go true true false true e = e
        go true true false false e = e

    by-rules : stands_but t i (schema_in t i) k ≡ true → size_of t i ≤ 1024 → stands t i ≡ is_accepted (judged (schema_in t i))
    unfolding stands stands_but
    by-rules e h =
        rw (le-leb (size_of t i) 1024 h) (go (is_accepted (judged (schema_in t i))) (among (schema_in t i) (schemas_to t i)) (eqb i k) e)
      where
        go : (b c d : Bool) → not c && (d || b) ≡ true → b && not c ≡ b
        go false c d e = refl
        go true false d e = refl
        go true true d e = e

    rules-kept : stands_but t i (schema_in t i) k ≡ true → (i ≡ k → ⊥) → is_accepted (judged (schema_in t i)) ≡ true
    unfolding stands_but
    rules-kept e n = go (is_accepted (judged (schema_in t i))) (among (schema_in t i) (schemas_to t i)) (rw (ne_eqb i k n) at e)
      where
        go : (b c : Bool) → not c && b ≡ true → b ≡ true
        go true c e = refl
        go false false e = e
        go false true e = e

-- whether it is among those before it, by its number there
found-among : (s : List ℕ) (ss : List (List ℕ)) (o : P.Option ℕ) → NumberAs s ss o → is_some o ≡ among s ss
found-among s ss P.None z = sym (le-ltb (number_among s ss) (length ss) (omega arith))
found-among s ss (P.Some i) z = sym (lt-ltb (number_among s ss) (length ss) (omega arith))

-- and whether it keeps its rules, by what judging it answered
pub keeps-rules : (s : List ℕ) (o : Outcome) → outcome_means o ≡ judge_of s → is_ok o ≡ is_accepted (judged s)
keeps-rules s (P.Ok u) j = go (is_accepted (judged s)) (judge-opens s j)
  where
    go : (v : Bool) → done ≡ verdict (unless v 1) → true ≡ v
    go true d = refl
    go false d = absurd (not_done d)
keeps-rules s (P.Err r) j = go (is_accepted (judged s)) (judge-opens s j)
  where
    go : (v : Bool) → refused (refusal_means r) ≡ verdict (unless v 1) → false ≡ v
    go false d = refl
    go true d = absurd (not_done (sym d))

module _ (t : List ℕ) (i : ℕ) (s : List ℕ) (k : ℕ) (o : P.Option ℕ) (z : NumberAs s (schemas_to t i) o) where
  pub but-old : is_some o ≡ true → stands_but t i s k ≡ false
  unfolding stands_but
  but-old e = rw (sym (found-among s (schemas_to t i) o z) ∙ e) refl

  pub but-new : is_some o ≡ false → stands_but t i s k ≡ (eqb i k || is_accepted (judged s))
  unfolding stands_but
  but-new e = rw (sym (found-among s (schemas_to t i) o z) ∙ e) refl

-- ---- the first n

stand-broken : (t : List ℕ) (n i : ℕ) → i < n → stands t i ≡ false → stand t n ≡ false
unfolding stand
stand-broken t zero i h e = absurd (omega arith)
stand-broken t (suc n) i h e = go (stand-broken t n i) (lt-or-le i n)
  where
    both : (a : Bool) → a && false ≡ false
    both true = refl
    both false = refl

    go : (i < n → stands t i ≡ false → stand t n ≡ false) → (i < n) ⊎ (n ≤ i) → stand t n && stands t n ≡ false
    go f (inl l) = rw (f l e)
    go f (inr g) = let q : i ≡ n = omega arith in rw (ap (stands t) (sym q) ∙ e) (both (stand t n))

stand-all : (t : List ℕ) (n : ℕ) → ((i : ℕ) → i < n → stands t i ≡ true) → stand t n ≡ true
unfolding stand
stand-all t zero f = refl
stand-all t (suc n) f = rw (stand-all t n (λ i h. f i (omega arith)), f n (omega arith))

-- ---- the walk

-- the first i schemas stand, the rules of schema k aside, and the next entry starts at a place
pub record Seen (t : List ℕ) (k i at : ℕ) : Type 0 where
  pub size : length t ≡ 16417
  pub few : count_in t ≤ 16
  pub ahead : i ≤ count_in t
  pub start : at ≡ start_of t i
  pub short : (j : ℕ) → j < i → size_of t j ≤ 1024
  pub each : (j : ℕ) → j < i → stands_but t j (schema_in t j) k ≡ true

pub wrong_size : (t : List ℕ) → (length t ≡ 16417 → ⊥) → is_catalogue t ≡ false
unfolding is_catalogue
wrong_size t n = rw (ne_eqb (length t) 16417 n)

pub too_many : (t : List ℕ) → length t ≡ 16417 → 16 < count_in t → is_catalogue t ≡ false
unfolding is_catalogue
too_many t e h = rw (eq-eqb (length t) 16417 e, lt-leb (count_in t) 16 h)

pub seen_start : {t : List ℕ} {k : ℕ} → length t ≡ 16417 → count_in t ≤ 16 → Seen t k 0 1
unfolding start_of
seen_start e h = record { size = e; few = h; ahead = omega arith; start = refl; short = λ j l. absurd (omega arith); each = λ j l. absurd (omega arith) }

module _ {t : List ℕ} {k i at : ℕ} (y : Seen t k i at) where
  pub seen-short : Short t i
  seen-short = record { size = y.size; few = omega (arith, y.few, y.ahead); short = y.short }

  pub seen_low : at ≤ 1 + 1026 * i
  seen_low = omega (arith, y.start, start-most seen-short i (omega arith))

  broken-at : i < count_in t → stands t i ≡ false → is_catalogue t ≡ false
  unfolding is_catalogue
  broken-at h e = rw (eq-eqb (length t) 16417 y.size, le-leb (count_in t) 16 y.few, stand-broken t (count_in t) i h e)

  module _ {n : ℕ} (z : n ≡ num (part t at 2)) where
    size_is : n ≡ size_of t i
    size_is = z ∙ ap (λ (p : ℕ). num (part t p 2)) y.start

    slice_is : take (at + 2 + n - (at + 2)) (drop (at + 2) t) ≡ schema_in t i
    unfolding schema_in
    slice_is =
        let e : at + 2 + n - (at + 2) ≡ size_of t i = omega (arith, size_is) in
        let f : at + 2 ≡ start_of t i + 2 = omega (arith, y.start) in
        ap (λ (m : ℕ). take m (drop (at + 2) t)) e ∙ ap (λ (p : ℕ). take (size_of t i) (drop p t)) f

    next_start : at + 2 + n ≡ start_of t (i + 1)
    unfolding start_of
    next_start =
        let e : i + 1 ≡ suc i = omega arith in
        rw e (omega (arith, y.start, size_is))

    pub broken-long : i < count_in t → 1024 < n → is_catalogue t ≡ false
    broken-long h l = broken-at h (too_long t i (omega (arith, size_is)))

    pub broken-rules : i < count_in t → {v : Bool} → v ≡ stands_but t i (take (at + 2 + n - (at + 2)) (drop (at + 2) t)) k → v ≡ false → is_catalogue t ≡ false
    broken-rules h {v} e f = broken-at h (no-schema t i k (ap (λ (s : List ℕ). stands_but t i s k) (sym slice_is) ∙ sym e ∙ f))

    pub seen_next : i < count_in t → n ≤ 1024 → {v : Bool} → v ≡ stands_but t i (take (at + 2 + n - (at + 2)) (drop (at + 2) t)) k → v ≡ true
        → Seen t k (i + 1) (at + 2 + n)
    seen_next h l {v} e f = record {
      size = y.size;
      few = y.few;
      ahead = omega arith;
      start = next_start;
      short = λ j g. go-short j (lt-or-le j i) g;
      each = λ j g. go-each j (lt-or-le j i) g;
    }
      where
        go-short : (j : ℕ) → (j < i) ⊎ (i ≤ j) → j < i + 1 → size_of t j ≤ 1024
        go-short j (inl a) g = y.short j a
        go-short j (inr a) g = let q : j ≡ i = omega arith in rw q (omega (arith, size_is))

        go-each : (j : ℕ) → (j < i) ⊎ (i ≤ j) → j < i + 1 → stands_but t j (schema_in t j) k ≡ true
        go-each j (inl a) g = y.each j a
        go-each j (inr a) g =
            let q : j ≡ i = omega arith in
            rw q (ap (λ (s : List ℕ). stands_but t i s k) (sym slice_is) ∙ sym e ∙ f)

-- all were seen: they make a catalogue if schema k keeps its rules, or isn't there
module _ {t : List ℕ} {k i at : ℕ} (s : Seen t k i at) (f : i ≡ count_in t) where
  y : Seen t k (count_in t) at
  y = rw f at s

  each-by : (i : ℕ) → i < count_in t → stands t i ≡ is_accepted (judged (schema_in t i))
  each-by i h = by-rules t i k (y.each i h) (y.short i h)

  else-stands : (i : ℕ) → i < count_in t → (i ≡ k → ⊥) → stands t i ≡ true
  else-stands i h n = each-by i h ∙ rules-kept t i k (y.each i h) n

  stand-by : stand t (count_in t) ≡ (leb (count_in t) k || is_accepted (judged (schema_in t k)))
  stand-by = go (lt-or-le k (count_in t))
    where
      there : k < count_in t → (v : Bool) → is_accepted (judged (schema_in t k)) ≡ v → stand t (count_in t) ≡ v
      there h true e = stand-all t (count_in t) (λ i l. one i l (eqb i k) refl)
        where
          one : (i : ℕ) → i < count_in t → (w : Bool) → eqb i k ≡ w → stands t i ≡ true
          one i l true q = let p : i ≡ k = eqb-true i k q in rw p (each-by k h ∙ e)
          one i l false q = else-stands i l (eqb-false i k q)
      there h false e = stand-broken t (count_in t) k h (each-by k h ∙ e)

      go : (k < count_in t) ⊎ (count_in t ≤ k) → stand t (count_in t) ≡ (leb (count_in t) k || is_accepted (judged (schema_in t k)))
      go (inl h) = rw (lt-leb (count_in t) k h) (there h (is_accepted (judged (schema_in t k))) refl)
      go (inr h) = rw (le-leb (count_in t) k h) (stand-all t (count_in t) (λ i l. else-stands i l (λ p. omega arith)))

  pub seen_all : SoundBut t k at
  unfolding is_catalogue
  seen_all = record {
    lies = record { size = y.size; few = y.few; short = y.short };
    ends = y.start;
    all = rw (eq-eqb (length t) 16417 y.size, le-leb (count_in t) 16 y.few) stand-by;
  }
