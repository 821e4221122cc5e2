-- An entry that goes on with the schema found for its number ends as the entry by number does. Assumes nothing.
use mathlib.Core.Path.{◌≡◌, refl, sym, ap, ◌∙◌}
use mathlib.Core.List.{List}
use Prim.Native.Nat.{ℕ, ◌-◌}
use lib.ListN.{take, drop}
use Rattle.schema.specs.Reading.{judged}
use Rattle.schema.specs.declared.Judged.{Judged}
use Rattle.schema.specs.declared.Judged.TheVariants.{Accepted, Refused}
use Rattle.layout.specs.Refusals.{numbered}
use Rattle.layout.specs.Setting.{Setting, Outcome}
use Rattle.layout.specs.Entries as E
use Rattle.layout.specs.Entries.{Sized, set_verdict}
use Rattle.std.specs.Prelude.{Ok, Err}
use Rattle.answers.specs.declared.Refusal.{Refusal}
use Rattle.answers.specs.declared.Span.{Span}
use Rattle.answers.specs.Meaning.{Outcome as Done, outcome_means, Length, length_means}
use Rattle.setting.specs.Writes.{SetAs}
use Rattle.shelf.specs.Catalogue.{schema_in}
use Rattle.shelf.specs.Places.{SchemaAt, FoundAs, is_broken, is_past, is_at}
use Rattle.catalogue.specs.Entries.{set_at}
use Rattle.catalogue.specs.Kept.{Asked, check, write, list, read, set, ends, ends_at, refusing}
use Rattle.catalogue.specs.Meaning.{GoesOn, EndsBy, ListsAt, WritesAt}
use Rattle.catalogue.proofs.ByNumber.{by_number, no-catalogue, thirteen}

-- a schema that is refused
refuses : (s : List ℕ) → judged s ≡ Refused → (q : Asked) → ends s q ≡ refusing (numbered 1) q
unfolding E.check_of E.write_of E.written_of E.list_of E.listed_of E.read_of E.set_of
refuses s e (check row) = rw e
refuses s e (write l out) = rw e
refuses s e (list row out) = rw e
refuses s e (read row p) = rw e
refuses s e (set row p x) = rw e

found : {t : List ℕ} {k start end : ℕ} → SchemaAt t k start end → (q : Asked) → ends (take (end - start) (drop start t)) q ≡ ends_at t k q
found {t} {k} y q = ap (λ (u : List ℕ). ends u q) y.is ∙ go (judged (schema_in t k)) refl
  where
    go : (j : Judged) → judged (schema_in t k) ≡ j → ends (schema_in t k) q ≡ ends_at t k q
    go Accepted e = sym (by_number t k q (y.all ∙ rw e) y.given)
    go Refused e = refuses (schema_in t k) e q ∙ sym (no-catalogue t k q (y.all ∙ rw e))

-- ---- what finding it told

module _ (t : List ℕ) (k : ℕ) where
  pub ends-by : {r : Refusal} → FoundAs t k (Err r) → EndsBy t k r
  ends-by (is_broken b) = record { ends = λ q. sym (no-catalogue t k q b); roomless = refl }
  ends-by (is_past y) = record { ends = λ q. sym (thirteen t k q y); roomless = refl }

  pub goes-on : {s : Span} → FoundAs t k (Ok s) → GoesOn t k (take (s.end - s.start) (drop s.start t))
  goes-on (is_at y) = found y

-- ---- the entries that write: the answer and the bytes at once

module _ {t : List ℕ} {k : ℕ} {l out : List ℕ} {r : Length} {out' : List ℕ} where
  pub writes-so : {z : Sized} {b : List ℕ} → (z, b) ≡ ends_at t k (write l out) → length_means r ≡ z → out' ≡ b → WritesAt t k l out r out'
  writes-so e a o = record { answers = a ∙ ap (λ (p : Sized × List ℕ). p.0) e; leaves = o ∙ ap (λ (p : Sized × List ℕ). p.1) e }

  pub lists-so : {z : Sized} {b : List ℕ} → (z, b) ≡ ends_at t k (list l out) → length_means r ≡ z → out' ≡ b → ListsAt t k l out r out'
  lists-so e a o = record { answers = a ∙ ap (λ (p : Sized × List ℕ). p.0) e; leaves = o ∙ ap (λ (p : Sized × List ℕ). p.1) e }

pub sets-so : (t : List ℕ) (k : ℕ) (row p : List ℕ) (x : Setting) {o : Outcome} {b : List ℕ} {r : Done} {row' : List ℕ}
    → (o, b) ≡ ends_at t k (set row p x) → outcome_means r ≡ set_verdict o → row' ≡ b → SetAs (set_at t k row p x) row row' r
sets-so t k row p x e a q = record { answers = a ∙ ap (λ (m : Outcome × List ℕ). set_verdict m.0) e; after = q ∙ ap (λ (m : Outcome × List ℕ). m.1) e }
