-- An entry by a table that is its schema's own. Assumes nothing.
use Rattle.std.proofs.Common.{◌≡◌, refl, sym, ap, ◌∙◌, subst, ℕ, Bool, true, false, cond, T, List, [], arith}
use Rattle.schema.specs.Reading.{judged}
use Rattle.schema.specs.declared.Judged.{Judged}
use Rattle.schema.specs.declared.Judged.TheVariants.{Accepted}
use Rattle.schema.specs.declared.Judged.TheVariants as J
use Rattle.layout.specs.Refusals as N
use Rattle.layout.specs.Setting.{Setting}
use Rattle.layout.specs.Entries.{Verdict, done, refused, judge_of, check_of, set_of}
use Rattle.answers.specs.declared.Refusal.{Refusal}
use Rattle.answers.specs.declared.Refusal.TheVariants as F
use Rattle.answers.specs.Meaning.{Outcome, Length, Read, refusal_means}
use Rattle.answers.proofs.Unique.{number-one}
use Rattle.table.specs.Tables.{table_of, schema_of}
use Rattle.reading.specs.Texts.{Reads}
use Rattle.setting.specs.Writes.{SetAs}
use Rattle.engine.specs.Lists.{ListsTo}
use Rattle.row.specs.Outcomes.{WritesTo}
use Rattle.row.proofs.Opening.{judge-yes}
use Rattle.compare.specs.Lent.{same, schema_by, Own}
use Rattle.compare.proofs.Lent.{same-eq, by-own, own-says, none-refused}
use Rattle.batch.proofs.Orders.{judged-yes}

-- ---- what judging the schema by the table tells

-- the table is the schema's own
pub own_of : (s t : List ℕ) → done ≡ judge_of (schema_by s t) → Own s t
unfolding schema_by
own_of s t e = go (same t (table_of s)) refl (judged-yes (schema_by s t) e)
  where
    go : (b : Bool) → same t (table_of s) ≡ b → judged (cond b s []) ≡ Accepted → Own s t
    go true q a = record { accepted = a; given = same-eq t (table_of s) (subst T (sym q) tt) }
    go false q a =
        let z : ◌≡◌ {A = Judged} J.Refused Accepted = sym none-refused ∙ a in
        let o : ◌≡◌ {A = ℕ} 0 1 = cc in absurd (omega arith)

-- or the schema that counts is refused, with 1
pub record Other (s : List ℕ) (r : Refusal) : Type 0 where
  pub schema : judged s ≡ J.Refused
  pub is : r ≡ F.Schema

pub other_of : (s : List ℕ) (r : Refusal) → refused (refusal_means r) ≡ judge_of s → Other s r
unfolding judge_of
other_of s r e = go (judged s) refl
  where
    go : (j : Judged) → judged s ≡ j → Other s r
    go Accepted a =
        let z : refused (refusal_means r) ≡ done = e ∙ rw a in
        let o : ◌≡◌ {A = ℕ} 0 1 = cc in absurd (omega arith)
    go J.Refused a =
        let z : refused (refusal_means r) ≡ refused (N.numbered 1) = e ∙ rw a in
        let n : refusal_means r ≡ refusal_means F.Schema = cc in
        let other : refusal_means r ≡ N.numbered 4 → ⊥ = λ q. let y : N.numbered 1 ≡ N.numbered 4 = sym n ∙ q in let o : ◌≡◌ {A = ℕ} 1 4 = cc in omega arith in
        record { schema = a; is = number-one r F.Schema n other }

-- ---- what an entry does by its schema's own table is what it does with the schema that counts
module _ {s t : List ℕ} (o : Own s t) where
  pub judge-own : done ≡ judge_of (schema_by s t)
  judge-own = judge-yes (schema_by s t) (ap judged (by-own s t o.given) ∙ o.accepted)

  pub check-own : {v : Verdict} (row : List ℕ) → v ≡ check_of (schema_of t) row → v ≡ check_of (schema_by s t) row
  check-own {v} row h = subst (λ (u : List ℕ). v ≡ check_of u row) (own-says o) h

  pub write-own : {l out out' : List ℕ} {r : Length} → WritesTo (schema_of t) l out r out' → WritesTo (schema_by s t) l out r out'
  write-own {l} {out} {out'} {r} h = subst (λ (u : List ℕ). WritesTo u l out r out') (own-says o) h

  pub list-own : {row out out' : List ℕ} {r : Length} → ListsTo (schema_of t) row out r out' → ListsTo (schema_by s t) row out r out'
  list-own {row} {out} {out'} {r} h = subst (λ (u : List ℕ). ListsTo u row out r out') (own-says o) h

  pub read-own : {row p : List ℕ} {r : Read} → Reads (schema_of t) row p r → Reads (schema_by s t) row p r
  read-own {row} {p} {r} h = subst (λ (u : List ℕ). Reads u row p r) (own-says o) h

  pub set_own : {row row' : List ℕ} {r : Outcome} (p : List ℕ) (x : Setting)
      → SetAs (set_of (schema_of t) row p x) row row' r → SetAs (set_of (schema_by s t) row p x) row row' r
  set_own {row} {row'} {r} p x h = subst (λ (u : List ℕ). SetAs (set_of u row p x) row row' r) (own-says o) h
