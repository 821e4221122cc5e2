-- The first schemas of lent bytes: how many they are, where each stands, and what their tests say. Assumes nothing.
use mathlib.Core.Path.{◌≡◌, refl, ap, ◌∙◌}
use mathlib.Core.Logic.{◌⊎◌, inl, inr}
use mathlib.Core.Bool.{Bool, true, false, ◌&&◌}
use mathlib.Core.List.{List, [], ◌∷◌, ◌++◌}
use Prim.Native.Nat.{ℕ, zero, suc, ◌≤◌, ◌<◌}
use native.Mathlib.Nat.{not-suc-le-zero}
use native.Mathlib.Omega.{arith}
use lib.ListN.{length, get_or, length-append, get_or-append}
use lib.Seq.{get_or_at}
use borrow.Author.Tests.{leb-true, eqb-true, not-true}
use Rattle.words.proofs.Parts.{lt-or-le}
use Rattle.schema.specs.Reading.{judged}
use Rattle.schema.specs.declared.Judged.{Judged}
use Rattle.schema.specs.declared.Judged.TheVariants.{Accepted, Refused}
use Rattle.layout.specs.Entries.{is_accepted}
use Rattle.shelf.specs.Catalogue.{count_in, size_of, schema_in, schemas_to, among, stands, stand, is_catalogue}
use Rattle.shelf.specs.Places.{Short}

pub length-schemas : (t : List ℕ) (n : ℕ) → length (schemas_to t n) ≡ n
unfolding schemas_to
length-schemas t zero = refl
length-schemas t (suc n) = rw (length-append (schemas_to t n) (schema_in t n ∷ []), length-schemas t n) (omega arith)

pub schema-at : (t : List ℕ) (n i : ℕ) → i < n → get_or (schemas_to t n) i [] ≡ schema_in t i
unfolding schemas_to
schema-at t zero i h = absurd (not-suc-le-zero h)
schema-at t (suc n) i h = go (lt-or-le i n) (λ l. schema-at t n i l)
  where
    go : (i < n) ⊎ (n ≤ i) → (i < n → get_or (schemas_to t n) i [] ≡ schema_in t i) → get_or (schemas_to t n ++ (schema_in t n ∷ [])) i [] ≡ schema_in t i
    go (inl l) f = get_or-append (schemas_to t n) (schema_in t n ∷ []) [] i (rw (length-schemas t n) l) ∙ f l
    go (inr l) f =
        let e : n ≡ i = omega arith in
        get_or_at (schemas_to t n) (schema_in t n) [] [] i (length-schemas t n ∙ e) ∙ ap (schema_in t) e

-- ---- tests

both : (a b : Bool) → (a && b) ≡ true → (a ≡ true) × (b ≡ true)
both true b e = (refl, e)
both false b e = let z : ◌≡◌ {A = ℕ} 0 1 = cc in absurd (omega arith)

pub accepted-is : (j : Judged) → is_accepted j ≡ true → j ≡ Accepted
accepted-is Accepted e = refl
accepted-is Refused e = let z : ◌≡◌ {A = ℕ} 0 1 = cc in absurd (omega arith)

-- what the test of schema i says
pub record Stands (t : List ℕ) (i : ℕ) : Type 0 where
  pub short : size_of t i ≤ 1024
  pub schema : judged (schema_in t i) ≡ Accepted
  pub new : among (schema_in t i) (schemas_to t i) ≡ false

stands-then : (t : List ℕ) (i : ℕ) → stands t i ≡ true → Stands t i
unfolding stands
stands-then t i e =
    let a = both _ _ e in
    let b = both _ _ a.1 in
    record { short = leb-true (size_of t i) 1024 a.0; schema = accepted-is (judged (schema_in t i)) b.0; new = not-true _ b.1 }

pub each_stands : (t : List ℕ) (n i : ℕ) → stand t n ≡ true → i < n → Stands t i
unfolding stand
each_stands t zero i e h = absurd (not-suc-le-zero h)
each_stands t (suc n) i e h = go (lt-or-le i n) (both (stand t n) (stands t n) e) (λ q l. each_stands t n i q l)
  where
    go : (i < n) ⊎ (n ≤ i) → (stand t n ≡ true) × (stands t n ≡ true) → (stand t n ≡ true → i < n → Stands t i) → Stands t i
    go (inl l) q f = f q.0 l
    go (inr l) q f = let k : n ≡ i = omega arith in stands-then t i (rw k at q.1)

-- what the test of lent bytes says
pub record Sound (t : List ℕ) : Type 0 where
  pub size : length t ≡ 16417
  pub few : count_in t ≤ 16
  pub each : (i : ℕ) → i < count_in t → Stands t i

pub sound : (t : List ℕ) → is_catalogue t ≡ true → Sound t
unfolding is_catalogue
sound t e =
    let a = both _ _ e in
    let b = both _ _ a.1 in
    record { size = eqb-true (length t) 16417 a.0; few = leb-true (count_in t) 16 b.0; each = λ i h. each_stands t (count_in t) i b.1 h }

pub sound-short : {t : List ℕ} → Sound t → Short t (count_in t)
sound-short s = record { size = s.size; few = s.few; short = λ i h. (s.each i h).short }
