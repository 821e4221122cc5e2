-- What `add` and `add_by` answer, by what judging the catalogue and the schema told. Assumes nothing.
use Rattle.std.specs.Prelude.{None, Some, Ok, Err}
use mathlib.Core.Path.{◌≡◌, refl, sym, ap, ◌∙◌, subst}
use mathlib.Core.Bool.{Bool, true, false}
use mathlib.Core.List.{List}
use Prim.Native.Nat.{ℕ, ◌<◌}
use native.Mathlib.Omega.{arith}
use lib.ListN.{length}
use Rattle.words.specs.Bytes.{Bytes}
use Rattle.schema.specs.Reading.{judged}
use Rattle.schema.specs.declared.Judged.{Judged}
use Rattle.schema.specs.declared.Judged.TheVariants.{Accepted, Refused}
use Rattle.layout.specs.Refusals.{numbered}
use Rattle.layout.specs.Setting.{unless}
use Rattle.layout.specs.Entries as E
use Rattle.layout.specs.Entries.{verdict, is_accepted, judge_of}
use Rattle.layout.proofs.Entered.{judged-done}
use Rattle.compare.specs.Lent.{schema_by, Own}
use Rattle.compare.proofs.Lent.{by-own}
use Rattle.answers.specs.declared.Refusal.{Refusal}
use Rattle.answers.specs.declared.Refusal.TheVariants as F
use Rattle.answers.specs.Meaning.{refusal_means, Outcome, outcome_means, Length}
use Rattle.shelf.specs.Catalogue.{count_in, schemas_to, schemas_in, number_among, is_catalogue}
use Rattle.shelf.specs.Places.{NumberAs, SoundBut}
use Rattle.shelf.proofs.Among.{number_is}
use Rattle.shelf.proofs.Standing.{length-schemas}
use Rattle.shelf.proofs.Holding.{holds}
use Rattle.shelf.proofs.Finding.{whole}
use Rattle.catalogue.specs.Entries.{given, refused, add_of, added_of}
use Rattle.catalogue.specs.declared.Standing.{Standing}
use Rattle.catalogue.specs.declared.Standing.TheVariants as S
use Rattle.catalogue.specs.Meaning.{Behind, StandsAs, Entering, Adds}
use Rattle.catalogue.proofs.Adding.{old-at}

-- no catalogue, or no schema
pub adds-broken : (t s : List ℕ) → is_catalogue t ≡ false → Adds t s (Err F.Schema) t
unfolding add_of added_of
adds-broken t s e = record { answers = rw e; leaves = rw e }

pub adds_none : (t s : List ℕ) → judged s ≡ Refused → Adds t s (Err F.Schema) t
unfolding add_of added_of
adds_none t s e = go (is_catalogue t) refl
  where
    go : (v : Bool) → is_catalogue t ≡ v → Adds t s (Err F.Schema) t
    go true c = record { answers = rw (c, e); leaves = rw (c, e) }
    go false c = adds-broken t s c

-- a schema that is refused, as judging it told
pub adds-refused : {t s : List ℕ} {end : ℕ} → Behind t s end → {o : Outcome} {r : Refusal} → outcome_means o ≡ judge_of s → o ≡ Err r
    → Adds t s (Err r) t
unfolding add_of added_of judge_of
adds-refused {t} {s} y {r = r} e f = go (judged s) refl (sym (ap outcome_means f) ∙ e)
  where
    go : (j : Judged) → judged s ≡ j → E.refused (refusal_means r) ≡ verdict (unless (is_accepted (judged s)) 1) → Adds t s (Err r) t
    go Accepted j q = let z : E.refused (refusal_means r) ≡ E.done = rw j at q in let x : ◌≡◌ {A = ℕ} 0 1 = cc in absurd (omega arith)
    go Refused j q =
        let z : E.refused (refusal_means r) ≡ E.refused (numbered 1) = rw j at q in
        let m : refusal_means r ≡ numbered 1 = cc in
        record { answers = ap refused m ∙ rw (y.sound, j); leaves = rw (y.sound, j) }

-- and one that is accepted
pub enters : {t s : List ℕ} {end : ℕ} → Behind t s end → {o : Outcome} → outcome_means o ≡ judge_of s → o ≡ (Ok tt) → Entering t end s
enters {s = s} y e f = record { behind = y; schema = judged-done s (sym e ∙ ap outcome_means f) }

-- ---- where it stands in a catalogue, whose schemas were all judged

module _ {t : List ℕ} {end : ℕ} (y : SoundBut t 16 end) (b : Bytes t) (s : List ℕ) where
  sound : is_catalogue t ≡ true
  sound = whole y y.lies.few

  pub stands-old : {k : ℕ} → NumberAs s (schemas_to t (count_in t)) (Some k) → Adds t s (Ok k) t
  unfolding schemas_in
  stands-old n =
      let l : number_among s (schemas_to t (count_in t)) < length (schemas_to t (count_in t)) = rw n.0 at n.1 in
      let q = old-at (holds t b sound) s (record { given = l; is = number_is s (schemas_to t (count_in t)) l }) in
      record { answers = sym (q.0 ∙ ap given (sym n.0)); leaves = sym q.1 }

  pub stands-behind : NumberAs s (schemas_to t (count_in t)) None → Behind t s end
  unfolding schemas_in
  stands-behind n = record { bytes = b; sound = sound; ends = y.ends; new = omega (arith, length-schemas t (count_in t)) }

-- ---- as looking for it told

module _ (t s : List ℕ) {r : Standing} (p : StandsAs t s (Ok r)) where
  pub is_at : {k : ℕ} → r ≡ S.At k → Adds t s (Ok k) t
  is_at e = let P : Standing → Type 0 = λ z. StandsAs t s (Ok z) in subst P e p

  pub is-behind : {end : ℕ} → r ≡ S.Behind end → Behind t s end
  is-behind e = let P : Standing → Type 0 = λ z. StandsAs t s (Ok z) in subst P e p

-- by the schema's own table: what is added is the schema that counts
pub adds-by : {s table : List ℕ} → Own s table → {t t' : List ℕ} {r : Length} → Adds t s r t' → Adds t (schema_by s table) r t'
adds-by {s} {table} o {t} {t'} {r} a = subst (λ (u : List ℕ). Adds t u r t') (sym (by-own s table o.given)) a
