-- Each entry's statement leaves one outcome. Assumes nothing.
use Rattle.std.specs.Prelude.{Ok, Err}
use mathlib.Core.Path.{◌≡◌, refl, sym, ap, ◌∙◌}
use mathlib.Core.List.{List, [], ◌∷◌}
use Prim.Native.Nat.{ℕ}
use native.Mathlib.Omega.{arith}
use Rattle.layout.specs.Refusals as N
use Rattle.layout.specs.Entries.{set_verdict}
use Rattle.answers.specs.Meaning.{Length, refusal_means, Numbered as Told}
use Rattle.answers.proofs.Unique.{number-one, length-one, read_one}
use Rattle.row.specs.Demand1 as D
use Rattle.row.proofs.Among.{not-among}
use Rattle.row.proofs.Unique.{outcomes, set-ends, numbered}
use Rattle.catalogue.specs.Entries as E
use Rattle.catalogue.specs.Entries.{Numbering, add_of, check_at, read_at, set_at}
use Rattle.catalogue.specs.Meaning.{number_means}
use Rattle.catalogue.specs.Demand1.{Numbers}
use Rattle.catalogue.specs.Demand1 as G
use Rattle.catalogue.specs.Unique.{Unique}
use Rattle.catalogue.proofs.Demand1.{demand1}

-- 4, whose length a number's refusal leaves out, is none of adding's
no-four : (v : Numbering) → Numbers (1 ∷ 12 ∷ []) v → v ≡ E.refused (N.numbered 4) → ⊥
no-four v (G.numbers l) e = let z : ◌≡◌ {A = ℕ} 0 1 = cc in omega arith
no-four v (G.refuses (D.number {n = n} o _)) e = let z : n ≡ 4 = cc in not-among 4 o refl z
no-four v (G.refuses (D.place o)) e = let z : ◌≡◌ {A = ℕ} 0 1 = cc in omega arith

number_is : (r r' : Length) → number_means r ≡ number_means r' → (number_means r ≡ E.refused (N.numbered 4) → ⊥) → r ≡ r'
number_is (Ok m) (Ok n) e h = cc
number_is (Ok m) (Err s) e h = cc
number_is (Err r) (Ok n) e h = cc
number_is (Err r) (Err s) e h =
    let n : refusal_means r ≡ refusal_means s = cc in
    ap Err (number-one r s n (λ q. h (ap E.refused q)))

pub numbered-read : (t : List ℕ) (k : ℕ) (row p : List ℕ) → Told (read_at t k row p)
numbered-read t k row p = numbered (read_at t k row p) refl refl (demand1.read t k row p)

pub unique : Unique
unique = record {
  add = λ t s r r' b b' w w'. record {
    answer = number_is r r' (w.answers ∙ sym w'.answers) (λ q. no-four (add_of t s) (demand1.add t s) (sym w.answers ∙ q));
    bytes = w.leaves ∙ sym w'.leaves;
  };
  check = λ t k row. outcomes (13 ∷ 1 ∷ 3 ∷ 7 ∷ []) (check_at t k row) refl (demand1.check t k row);
  write = λ t k l out r r' b b' w w'. record { answer = length-one r r' (w.answers ∙ sym w'.answers); bytes = w.leaves ∙ sym w'.leaves };
  list = λ t k row out r r' b b' w w'. record { answer = length-one r r' (w.answers ∙ sym w'.answers); bytes = w.leaves ∙ sym w'.leaves };
  read = λ t k row p r r' e e'. read_one r r' (e ∙ sym e') (rw e (numbered-read t k row p));
  set = λ t k row p x r r' b b' w w'. record {
    answer = outcomes (13 ∷ 1 ∷ 3 ∷ 7 ∷ 5 ∷ 6 ∷ 8 ∷ 9 ∷ []) (set_verdict (set_at t k row p x)) refl
        (set-ends _ (set_at t k row p x) (demand1.set t k row p x)) r r' w.answers w'.answers;
    bytes = w.after ∙ sym w'.after;
  };
}
