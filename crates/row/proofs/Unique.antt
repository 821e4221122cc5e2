-- Each entry's statement leaves one outcome. Assumes nothing.
use mathlib.Core.Path.{◌≡◌, refl, sym, ap, ◌∙◌}
use mathlib.Core.Bool.{true}
use mathlib.Core.Option.{none, some}
use mathlib.Core.List.{List, [], ◌∷◌}
use Prim.Native.Nat.{ℕ}
use native.Mathlib.Omega.{arith}
use denote.Ref.{Bor}
use Rattle.layout.specs.Refusals as N
use Rattle.layout.specs.Refusals.{Refusal}
use Rattle.layout.specs.Reading as R
use Rattle.layout.specs.Setting as S
use Rattle.layout.specs.Setting.{refusal_in}
use Rattle.layout.specs.Entries as E
use Rattle.layout.specs.Entries.{Verdict, judge_of, check_of, read_of, set_of, set_verdict}
use Rattle.answers.specs.Meaning.{Outcome}
use Rattle.answers.specs.Meaning.{outcome_means, Read, read_means, Numbered}
use Rattle.answers.proofs.Unique.{outcome-one, length-one, read_one}
use Rattle.reading.specs.Texts.{TextOf}
use Rattle.row.specs.Demand1.{Ends, Gives, Sets}
use Rattle.row.specs.Demand1 as D
use Rattle.row.specs.declared.Opened.{Opened}
use Rattle.row.specs.Unique.{SamePlace, Unique}
use Rattle.row.proofs.Among.{lacks, not-among}
use Rattle.row.proofs.Demand1.{demand1}
use Rattle.row.proofs.Numbers.{read-gives}

-- ---- outcomes: 4, whose length a verdict leaves out, is none of them

no-four : (ns : List ℕ) (v : Verdict) → lacks 4 ns ≡ true → Ends ns v → v ≡ E.refused (N.numbered 4) → ⊥
no-four ns v h D.done e = let z : ◌≡◌ {A = ℕ} 0 1 = cc in omega arith
no-four ns v h (D.refused (D.number {n = n} o _)) e = let z : n ≡ 4 = cc in not-among 4 o h z
no-four ns v h (D.refused (D.place o)) e = let z : ◌≡◌ {A = ℕ} 0 1 = cc in omega arith

pub outcomes : (ns : List ℕ) (v : Verdict) → lacks 4 ns ≡ true → Ends ns v → (r r' : Outcome) → outcome_means r ≡ v → outcome_means r' ≡ v → r ≡ r'
outcomes ns v h g r r' e e' = outcome-one r r' (e ∙ sym e') (λ q. no-four ns v h g (sym e ∙ q))

-- a setting's verdict is one of its numbers too
pub set-ends : (ns : List ℕ) (o : S.Outcome) → Sets ns o → Ends ns (set_verdict o)
set-ends ns o D.becomes = D.done
set-ends ns o (D.refused q) = D.refused q

-- ---- answers: neither the case of no answer, nor 4

no-refusal : (a : R.Answer) → refusal_in a ≡ none → (n : Refusal) → a ≡ R.refused n → ⊥
unfolding refusal_in
no-refusal a q n e = let z : some n ≡ none = sym (ap refusal_in e) ∙ q in let o : ◌≡◌ {A = ℕ} 0 1 = cc in omega arith

value : (a : R.Answer) → refusal_in a ≡ none → Numbered a
value a q = record { known = no-refusal a q (N.numbered 0); roomless = no-refusal a q (N.numbered 4) }

pub numbered : {ns : List ℕ} (a : R.Answer) → lacks 0 ns ≡ true → lacks 4 ns ≡ true → Gives ns a → Numbered a
unfolding refusal_in
numbered a h₀ h₄ D.null = value a refl
numbered a h₀ h₄ D.bool = value a refl
numbered a h₀ h₄ D.signed = value a refl
numbered a h₀ h₄ D.float32 = value a refl
numbered a h₀ h₄ D.float64 = value a refl
numbered a h₀ h₄ D.bytes = value a refl
numbered a h₀ h₄ D.container = value a refl
numbered a h₀ h₄ (D.refused (D.place o)) =
    record { known = λ e. let z : ◌≡◌ {A = ℕ} 0 1 = cc in omega arith; roomless = λ e. let z : ◌≡◌ {A = ℕ} 0 1 = cc in omega arith }
numbered a h₀ h₄ (D.refused (D.number {n = n} o _)) =
    record { known = λ e. let z : n ≡ 0 = cc in not-among 0 o h₀ z; roomless = λ e. let z : n ≡ 4 = cc in not-among 4 o h₄ z }

reads : (s row p : List ℕ) (r r' : Read) → read_means r ≡ read_of s row p → read_means r' ≡ read_of s row p → r ≡ r'
reads s row p r r' e e' = read_one r r' (e ∙ sym e') (rw e (numbered (read_of s row p) refl refl (read-gives s row p)))

-- ---- texts

one_place : (r r' : Bor (List ℕ)) → r ≡ r' → SamePlace r r'
one_place r r' e = record { block = ap (λ (x : Bor (List ℕ)). x.ref_ptr.0) e; place = ap (λ (x : Bor (List ℕ)). x.ref_ptr.1) e; bytes = ap (λ x. x.now) e }

texts : (a : R.Answer) (row other r r' : Bor (List ℕ)) → TextOf a row other r → TextOf a row other r' → SamePlace r r'
texts R.null row other r r' t t' = one_place r r' (t ∙ sym t')
texts (R.bool v) row other r r' t t' = one_place r r' (t ∙ sym t')
texts (R.signed z) row other r r' t t' = one_place r r' (t ∙ sym t')
texts (R.float32 n) row other r r' t t' = one_place r r' (t ∙ sym t')
texts (R.float64 n) row other r r' t t' = one_place r r' (t ∙ sym t')
texts (R.bytes o n) row other r r' t t' = record { block = t.block ∙ sym t'.block; place = t.place ∙ sym t'.place; bytes = t.bytes ∙ sym t'.bytes }
texts (R.container o n k) row other r r' t t' = one_place r r' (t ∙ sym t')
texts (R.refused n) row other r r' t t' = one_place r r' (t ∙ sym t')

-- ---- an opened row is its two slices

held : Bor (List ℕ) → Bor (List ℕ) → Opened
held schema row = record { schema = schema; row = row }

opens : (schema row : Bor (List ℕ)) (r r' : Opened) → (r.schema ≡ schema) × (r.row ≡ row) → (r'.schema ≡ schema) × (r'.row ≡ row) → r ≡ r'
unfolding held
opens schema row r r' e e' = ap (λ (x : Bor (List ℕ)). held x r.row) (e.0 ∙ sym e'.0) ∙ ap (held r'.schema) (e.1 ∙ sym e'.1)

pub unique : Unique
unique = record {
  judge = λ s. outcomes (1 ∷ []) (judge_of s) refl (demand1.judge s);
  check = λ s row. outcomes (1 ∷ 3 ∷ 7 ∷ []) (check_of s row) refl (demand1.check s row);
  write = λ s l out r r' b b' w w'. record { answer = length-one r r' (w.answers ∙ sym w'.answers); bytes = w.leaves ∙ sym w'.leaves };
  list = λ s row out r r' b b' w w'. record { answer = length-one r r' (w.answers ∙ sym w'.answers); bytes = w.leaves ∙ sym w'.leaves };
  read = reads;
  set = λ s row p x r r' b b' w w'. record {
    answer = outcomes (1 ∷ 3 ∷ 7 ∷ 5 ∷ 6 ∷ 8 ∷ 9 ∷ []) (set_verdict (set_of s row p x)) refl (set-ends _ (set_of s row p x) (demand1.set s row p x)) r r'
        w.answers w'.answers;
    bytes = w.after ∙ sym w'.after;
  };
  text-or = λ s p row other. texts (read_of s row.now p) row other;
  opened = opens;
}
