-- Adding a schema to lent bytes that hold some: what is answered, and what they hold after. Assumes nothing.
use mathlib.Core.Path.{◌≡◌, refl, sym, ap, ◌∙◌, subst}
use mathlib.Core.Logic.{◌⊎◌, inl, inr}
use mathlib.Core.Bool.{Bool, true, false, not, ◌&&◌}
use mathlib.Core.List.{List, [], ◌∷◌, ◌++◌}
use Prim.Native.Nat.{ℕ, ◌≤◌, ◌<◌}
use native.Mathlib.Omega.{arith}
use lib.Dec.{eqb}
use lib.ListN.{length, get_or}
use lib.Seq.{sets}
use borrow.Author.Tests.{eqb-true, eq-eqb, ne_eqb, ltb-true}
use Rattle.words.proofs.Parts.{lt-or-le}
use Rattle.schema.specs.Reading.{judged}
use Rattle.schema.specs.declared.Judged.{Judged}
use Rattle.schema.specs.declared.Judged.TheVariants.{Accepted, Refused}
use Rattle.layout.specs.Refusals.{Refusal, numbered}
use Rattle.layout.specs.Setting.{unless, ◌or◌}
use Rattle.layout.specs.Entries.{is_accepted}
use Rattle.shelf.specs.Catalogue.{used, count_in, schemas_in, number_among, among, is_catalogue}
use Rattle.shelf.specs.Holding.{Holds}
use Rattle.shelf.proofs.Among.{among-at, number_is, number-next, number-own}
use Rattle.shelf.proofs.Standing.{accepted-is, length-schemas}
use Rattle.shelf.proofs.Holding.{held-count, held-schema, held-schemas, held-sound}
use Rattle.shelf.proofs.Growing.{used-same, New, length_more, at_old, at_new, holds_more}
use Rattle.catalogue.specs.Entries.{given, refused, number_after, add_of, left_by, added_of, with_schema}
use Rattle.catalogue.specs.Kept.{StandsAt, Full}

-- ---- what an answer says of its tests

-- a number comes after no refusal
pub record Given (t s : List ℕ) (n : ℕ) : Type 0 where
  pub sound : is_catalogue t ≡ true
  pub is : number_among s (schemas_in t) ≡ n

given_by : (c a r : Bool) (x n : ℕ) → number_after (unless c 1 or unless a 1 or unless r 12) x ≡ given n → (c ≡ true) × (x ≡ n)
given_by true true true x n e = (refl, cc)
given_by true true false x n e = let z : ◌≡◌ {A = ℕ} 0 1 = cc in absurd (omega arith)
given_by true false r x n e = let z : ◌≡◌ {A = ℕ} 0 1 = cc in absurd (omega arith)
given_by false a r x n e = let z : ◌≡◌ {A = ℕ} 0 1 = cc in absurd (omega arith)

pub given-then : {t s : List ℕ} {n : ℕ} → add_of t s ≡ given n → Given t s n
unfolding add_of
given-then {t} {s} {n} e =
    let left = not (eqb (count_in t) 16 && not (among s (schemas_in t))) in
    let g = given_by (is_catalogue t) (is_accepted (judged s)) left (number_among s (schemas_in t)) n e in
    record { sound = g.0; is = g.1 }

-- 12 comes where the catalogue is sound, the schema one, the count 16 and the schema new
twelve-by : (c a f o : Bool) (x : ℕ) → number_after (unless c 1 or unless a 1 or unless (not (f && not o)) 12) x ≡ refused (numbered 12)
    → (c ≡ true) × (a ≡ true) × (f ≡ true) × (o ≡ false)
twelve-by true true true false x e = (refl, refl, refl, refl)
twelve-by true true true true x e = let z : ◌≡◌ {A = ℕ} 0 1 = cc in absurd (omega arith)
twelve-by true true false o x e = let z : ◌≡◌ {A = ℕ} 0 1 = cc in absurd (omega arith)
twelve-by true false f o x e = let z : ◌≡◌ {A = ℕ} 1 12 = cc in absurd (omega arith)
twelve-by false a f o x e = let z : ◌≡◌ {A = ℕ} 1 12 = cc in absurd (omega arith)

pub twelve-then : (t s : List ℕ) → add_of t s ≡ refused (numbered 12) → Full t s
unfolding add_of
twelve-then t s e =
    let q = twelve-by (is_catalogue t) (is_accepted (judged s)) (eqb (count_in t) 16) (among s (schemas_in t)) (number_among s (schemas_in t)) e in
    record { sound = q.0; schema = accepted-is (judged s) q.1; all = eqb-true (count_in t) 16 q.2; new = q.3 }

pub twelve : (t s : List ℕ) → Full t s → add_of t s ≡ refused (numbered 12)
unfolding add_of
twelve t s f = rw (f.sound, f.schema, f.all, f.new)

-- a refusal leaves all as it was
pub refused-stays : (t s : List ℕ) (r : Refusal) → add_of t s ≡ refused r → added_of t s ≡ t
unfolding added_of
refused-stays t s r e = rw e

pub no-catalogue-stays : (t s : List ℕ) → is_catalogue t ≡ false → added_of t s ≡ t
unfolding add_of added_of
no-catalogue-stays t s e = rw e

-- where a schema is new its number is the next
pub next : (t s : List ℕ) (n : ℕ) → add_of t s ≡ given n → among s (schemas_in t) ≡ false → n ≡ count_in t
unfolding schemas_in
next t s n e f = sym (given-then e).is ∙ number-next s (schemas_in t) f ∙ length-schemas t (count_in t)

-- ---- a list goes on: every number means what it did

pub record Begins (ss now : List (List ℕ)) : Type 0 where
  pub more : length ss ≤ length now
  pub same : (i : ℕ) → i < length ss → get_or now i [] ≡ get_or ss i []

-- a schema's number in a list
pub record At (ss : List (List ℕ)) (n : ℕ) (s : List ℕ) : Type 0 where
  pub given : n < length ss
  pub is : get_or ss n [] ≡ s

pub begins-self : (ss : List (List ℕ)) → Begins ss ss
begins-self ss = record { more = omega arith; same = λ i l. refl }

pub begins-on : {xs ys zs : List (List ℕ)} → Begins xs ys → Begins ys zs → Begins xs zs
begins-on a b = record { more = omega (arith, a.more, b.more); same = λ i l. b.same i (omega (arith, a.more)) ∙ a.same i l }

pub at_on : {ss now : List (List ℕ)} {n : ℕ} {s : List ℕ} → Begins ss now → At ss n s → At now n s
at_on b a = record { given = omega (arith, b.more, a.given); is = b.same _ a.given ∙ a.is }

-- ---- lent bytes that hold a list

pub stands_at : {t : List ℕ} {ss : List (List ℕ)} {n : ℕ} {s : List ℕ} → Holds t ss → At ss n s → StandsAt t s n
stands_at {n = n} h a = record { sound = held-sound h; given = omega (arith, held-count h, a.given); is = held-schema h n a.given ∙ a.is }

-- no refusal where it is old
left-old : (f : Bool) → not (f && not true) ≡ true
left-old true = refl
left-old false = refl

module _ {t : List ℕ} {ss : List (List ℕ)} (h : Holds t ss) (s : List ℕ) where
  add_is : add_of t s ≡ number_after (unless (is_accepted (judged s)) 1 or unless (not (eqb (length ss) 16 && not (among s ss))) 12) (number_among s ss)
  unfolding add_of
  add_is = rw (held-sound h, held-schemas h, held-count h)

  added_is : added_of t s ≡ left_by (add_of t s) (used (with_schema ss s)) t
  unfolding added_of
  added_is = ap (λ (u : List (List ℕ)). left_by (add_of t s) (used (with_schema u s)) t) (held-schemas h)

  module _ (j : judged s ≡ Accepted) (a : among s ss ≡ true) where
    add-old : add_of t s ≡ given (number_among s ss)
    add-old = add_is ∙ rw (j, a, left-old (eqb (length ss) 16))

    added-old : added_of t s ≡ t
    unfolding with_schema
    added-old = added_is ∙ rw (add-old, a) (used-same h)

  module _ (n : New ss s) where
    pub add-new : add_of t s ≡ given (length ss)
    add-new = add_is ∙ rw (n.schema, n.new, ne_eqb (length ss) 16 (λ e. omega (arith, n.room)), number-next s ss n.new)

    pub added_new : added_of t s ≡ sets t 0 (used (ss ++ (s ∷ [])))
    unfolding with_schema
    added_new = added_is ∙ rw (add-new, n.new)

  -- the schema of a number again: the same number, and the same bytes
  pub old-at : {n : ℕ} → At ss n s → (add_of t s ≡ given n) × (added_of t s ≡ t)
  old-at {n} p =
      let j : judged s ≡ Accepted = sym (ap judged p.is) ∙ h.is.schemas n p.given in
      let a : among s ss ≡ true = among-at s ss n p.given p.is in
      let m : number_among s ss ≡ n = ap (λ (u : List ℕ). number_among u ss) (sym p.is) ∙ number-own ss n h.is.different p.given in
      (add-old j a ∙ ap given m, added-old j a)

-- ---- what they hold after

-- they hold a list that goes on, in which the schema has the number that was told
pub record Added (t s : List ℕ) (ss : List (List ℕ)) : Type 0 where
  pub now : List (List ℕ)
  pub holds : Holds (added_of t s) now
  pub begins : Begins ss now
  pub told : (n : ℕ) → add_of t s ≡ given n → At now n s

module _ {t : List ℕ} {ss : List (List ℕ)} (h : Holds t ss) (s : List ℕ) where
  stays : added_of t s ≡ t → ((n : ℕ) → add_of t s ≡ given n → At ss n s) → Added t s ss
  stays e f = record { now = ss; holds = subst (λ (u : List ℕ). Holds u ss) (sym e) h; begins = begins-self ss; told = f }

  refuses : (r : Refusal) → add_of t s ≡ refused r → Added t s ss
  refuses r e = stays (refused-stays t s r e) (λ n q. let z : ◌≡◌ {A = ℕ} 0 1 = cc in absurd (omega arith))

  grows : New ss s → Added t s ss
  grows n = record {
    now = ss ++ (s ∷ []);
    holds = subst (λ (u : List ℕ). Holds u (ss ++ (s ∷ []))) (sym (added_new h s n)) (holds_more ss s h n);
    begins = record { more = omega (arith, length_more ss s); same = at_old ss s };
    told = λ m q. let e : given (length ss) ≡ given m = sym (add-new h s n) ∙ q in
        let k : m ≡ length ss = cc in
        record { given = omega (arith, length_more ss s); is = at_new ss s m k };
  }

  pub added : Added t s ss
  added = go (judged s) refl (among s ss) refl (lt-or-le (length ss) 16)
    where
      go : (v : Judged) → judged s ≡ v → (o : Bool) → among s ss ≡ o → (length ss < 16) ⊎ (16 ≤ length ss) → Added t s ss
      go Refused j o a f = refuses (numbered 1) (add_is h s ∙ rw j)
      go Accepted j true a f = stays (added-old h s j a)
          (λ n q. let e : given (number_among s ss) ≡ given n = sym (add-old h s j a) ∙ q in
          let m : number_among s ss ≡ n = cc in
          let l : number_among s ss < length ss = ltb-true (number_among s ss) (length ss) a in
          record { given = omega arith; is = rw m at (number_is s ss l) })
      go Accepted j false a (inl f) = grows (record { schema = j; new = a; room = f })
      go Accepted j false a (inr f) = refuses (numbered 12) (add_is h s ∙ rw (j, a, eq-eqb (length ss) 16 (omega (arith, h.is.few))))
