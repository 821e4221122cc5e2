-- What a caller has of a table that is its schema's own, and of one that is not. Assumes nothing.
use Rattle.std.proofs.Common.{◌≡◌, ℕ, Bool, true, false, cond, not, T, eqb, List, [], ◌∷◌, sym, refl, ap, ◌∙◌, subst, eq-eqb, eqb-true}
use borrow.Author.Tests.{not-true, not-false}
use Rattle.schema.specs.Kinds.{head_kind}
use Rattle.schema.specs.Reading.{judged, parse_type, parse_kind}
use Rattle.schema.specs.declared.Judged.{Judged}
use Rattle.schema.specs.declared.Judged.TheVariants.{Accepted, Refused}
use Rattle.table.specs.Tables.{Table, table_of, schema_of}
use Rattle.compare.specs.Lent.{same, schema_by, Own, Gives}
use Rattle.table.proofs.Places.{says-schema, table-of}

pub same_self : (t : List ℕ) → same t t ≡ true
unfolding same
same_self [] = refl
same_self (x ∷ t) = rw (eq-eqb x x refl) (same_self t)

pub same-eq : (t u : List ℕ) → T (same t u) → t ≡ u
unfolding same
same-eq [] [] h = refl
same-eq [] (y ∷ u) h = absurd h
same-eq (x ∷ t) [] h = absurd h
same-eq (x ∷ t) (y ∷ u) h = go (eqb x y) refl h (λ q. same-eq t u q)
  where
    go : (b : Bool) → eqb x y ≡ b → T (cond b (same t u) false) → (T (same t u) → t ≡ u) → x ∷ t ≡ y ∷ u
    go true e h f = ap (λ (z : ℕ). z ∷ t) (eqb-true x y e) ∙ ap (λ (z : List ℕ). y ∷ z) (f h)
    go false e h f = absurd h

-- ---- its own

-- by the table that it gives a schema counts as itself
pub by-own : (s t : List ℕ) → t ≡ table_of s → schema_by s t ≡ s
unfolding schema_by
by-own s t e = ap (λ (b : Bool). cond b s []) (ap (same t) (sym e) ∙ same_self t)

module _ {s t : List ℕ} (o : Own s t) where
  pub own-table : Table t
  own-table = subst Table (sym o.given) (table-of s o.accepted)

  pub own-accepted : judged (schema_by s t) ≡ Accepted
  own-accepted = ap judged (by-own s t o.given) ∙ o.accepted

  -- the schema that the table says is the one that counts
  pub own-says : schema_of t ≡ schema_by s t
  own-says = ap schema_of o.given ∙ says-schema s o.accepted ∙ sym (by-own s t o.given)

-- ---- another

-- by any other table it counts as the schema of no bytes
pub by-other : (s t : List ℕ) → (t ≡ table_of s → ⊥) → schema_by s t ≡ []
unfolding schema_by
by-other s t n = go (same t (table_of s)) refl
  where
    go : (b : Bool) → same t (table_of s) ≡ b → cond b s [] ≡ []
    go false e = refl
    go true e = absurd (n (same-eq t (table_of s) (subst T (sym e) tt)))

pub none-refused : judged [] ≡ Refused
unfolding judged parse_type parse_kind head_kind
none-refused = refl

pub other-refused : {s t : List ℕ} → (Own s t → ⊥) → judged (schema_by s t) ≡ Refused
unfolding schema_by
other-refused {s} {t} n = go (same t (table_of s)) refl (judged s) refl
  where
    go : (b : Bool) → same t (table_of s) ≡ b → (j : Judged) → judged s ≡ j → judged (cond b s []) ≡ Refused
    go false e j q = none-refused
    go true e Refused q = q
    go true e Accepted q = absurd (n (record { accepted = q; given = same-eq t (table_of s) (subst T (sym e) tt) }))

-- ---- as comparing told

pub owned : (s t : List ℕ) (r : Bool) → Gives s t r → not r ≡ false → Own s t
owned s t r g e = subst (Gives s t) (not-false r e) g

pub not-owned : (s t : List ℕ) (r : Bool) → Gives s t r → not r ≡ true → judged (schema_by s t) ≡ Refused
not-owned s t r g e = other-refused (subst (Gives s t) (not-true r e) g)
