-- Each entry's statement leaves one outcome. Assumes nothing.
use Rattle.std.specs.Prelude.{Result, Ok, Err}
use mathlib.Core.Path.{◌≡◌, refl, sym, ap, ap₂, ◌∙◌}
use mathlib.Core.List.{List, [], ◌∷◌}
use Prim.Native.Nat.{ℕ}
use native.Mathlib.Omega.{arith}
use Rattle.layout.specs.Refusals as N
use Rattle.layout.specs.Setting as S
use Rattle.layout.specs.Entries as E
use Rattle.layout.specs.Entries.{set_verdict}
use Rattle.answers.specs.declared.Refusal.{Refusal}
use Rattle.answers.specs.Meaning.{Length, refusal_means, length_of, Numbered}
use Rattle.answers.proofs.Unique.{refusal-one, number-one, outcome-one, length-one, read_one}
use Rattle.row.specs.Demand1.{Sets}
use Rattle.row.specs.Demand1 as D
use Rattle.row.proofs.Among.{not-among}
use Rattle.row.proofs.Unique.{numbered}
use Rattle.batch.specs.declared.Fetched.{Fetched}
use Rattle.batch.specs.declared.Fault.{Fault}
use Rattle.batch.specs.declared.Fault.TheVariants.{Whole, Row}
use Rattle.batch.specs.Entries as B
use Rattle.batch.specs.Entries.{Fetching, Checking, fetch_of, check_of, read_of, set_of}
use Rattle.batch.specs.Meaning.{count_means, fetch_means, fault_means, check_means}
use Rattle.batch.specs.Demand1.{Finds, Checks, fetch_numbers, set_numbers}
use Rattle.batch.specs.Demand1 as G
use Rattle.batch.specs.Unique.{Unique}
use Rattle.batch.proofs.Numbers.{demand1}

counts : (r r' : Length) → count_means r ≡ count_means r' → r ≡ r'
counts (Ok m) (Ok n) e = cc
counts (Ok m) (Err s) e = cc
counts (Err r) (Ok n) e = cc
counts (Err r) (Err s) e =
    let n : refusal_means r ≡ refusal_means s = cc in
    let l : length_of r ≡ length_of s = cc in
    ap Err (refusal-one r s n l)

-- 4, whose length these meanings leave out, is none of the numbers
no-four : (v : Fetching) → Finds fetch_numbers v → v ≡ B.refused (N.numbered 4) → ⊥
no-four v G.range e = let z : ◌≡◌ {A = ℕ} 0 1 = cc in absurd (omega arith)
no-four v (G.refused (D.number {n = n} o _)) e = let z : n ≡ 4 = cc in not-among 4 o refl z
no-four v (G.refused (D.place o)) e = let z : ◌≡◌ {A = ℕ} 0 1 = cc in absurd (omega arith)

fetched_at : ℕ → ℕ → Result Fetched Refusal
fetched_at start len = Ok (record { start = start; len = len })

fetched : (r r' : Result Fetched Refusal) → fetch_means r ≡ fetch_means r' → (fetch_means r ≡ B.refused (N.numbered 4) → ⊥) → r ≡ r'
unfolding fetched_at
fetched (Ok a) (Ok b) e h =
    let p : a.start ≡ b.start = cc in
    let q : a.len ≡ b.len = cc in
    ap₂ fetched_at p q
fetched (Ok a) (Err s) e h = cc
fetched (Err r) (Ok b) e h = cc
fetched (Err r) (Err s) e h =
    let n : refusal_means r ≡ refusal_means s = cc in
    ap Err (number-one r s n (λ q. h (ap B.refused q)))

no-four-all : (v : Checking) → Checks (1 ∷ 10 ∷ []) (3 ∷ 7 ∷ []) v → v ≡ B.refused (N.numbered 4) → ⊥
no-four-all v G.done e = let z : ◌≡◌ {A = ℕ} 0 1 = cc in absurd (omega arith)
no-four-all v (G.refused (D.number {n = n} o _)) e = let z : n ≡ 4 = cc in not-among 4 o refl z
no-four-all v (G.refused (D.place o)) e = let z : ◌≡◌ {A = ℕ} 0 1 = cc in absurd (omega arith)
no-four-all v (G.refused_row o) e = let z : ◌≡◌ {A = ℕ} 0 1 = cc in absurd (omega arith)

no-four-row : (v : Checking) (k : ℕ) → Checks (1 ∷ 10 ∷ []) (3 ∷ 7 ∷ []) v → v ≡ B.refused_row k (N.numbered 4) → ⊥
no-four-row v k G.done e = let z : ◌≡◌ {A = ℕ} 0 1 = cc in absurd (omega arith)
no-four-row v k (G.refused o) e = let z : ◌≡◌ {A = ℕ} 0 1 = cc in absurd (omega arith)
no-four-row v k (G.refused_row (D.number {n = n} o _)) e = let z : n ≡ 4 = cc in not-among 4 o refl z
no-four-row v k (G.refused_row (D.place o)) e = let z : ◌≡◌ {A = ℕ} 0 1 = cc in absurd (omega arith)

faults : (f f' : Fault) → fault_means f ≡ fault_means f' → (fault_means f ≡ B.refused (N.numbered 4) → ⊥)
    → ((k : ℕ) → fault_means f ≡ B.refused_row k (N.numbered 4) → ⊥) → f ≡ f'
faults (Whole r) (Whole s) e h g = let n : refusal_means r ≡ refusal_means s = cc in ap Whole (number-one r s n (λ q. h (ap B.refused q)))
faults (Whole r) (Row k s) e h g = cc
faults (Row j r) (Whole s) e h g = cc
faults (Row j r) (Row k s) e h g =
    let i : j ≡ k = cc in
    let n : refusal_means r ≡ refusal_means s = cc in
    ap₂ Row i (number-one r s n (λ q. g j (ap (B.refused_row j) q)))

checked : (r r' : Result (Unit {0}) Fault) → check_means r ≡ check_means r' → (check_means r ≡ B.refused (N.numbered 4) → ⊥)
    → ((k : ℕ) → check_means r ≡ B.refused_row k (N.numbered 4) → ⊥) → r ≡ r'
checked (Ok u) (Ok v) e h g = refl
checked (Ok u) (Err (Whole s)) e h g = cc
checked (Ok u) (Err (Row k s)) e h g = cc
checked (Err (Whole r)) (Ok v) e h g = cc
checked (Err (Row k r)) (Ok v) e h g = cc
checked (Err f) (Err f') e h g = ap Err (faults f f' e h g)

-- reading: neither 4 nor 0, which stands for a float's case without its float
pub numbered-read : (s b : List ℕ) (k : ℕ) (p : List ℕ) → Numbered (read_of s b k p)
numbered-read s b k p = numbered (read_of s b k p) refl refl (demand1.read s b k p)

-- setting
no-four-set : (o : S.Outcome) → Sets set_numbers o → set_verdict o ≡ E.refused (N.numbered 4) → ⊥
no-four-set o D.becomes e = let z : ◌≡◌ {A = ℕ} 0 1 = cc in absurd (omega arith)
no-four-set o (D.refused (D.number {n = n} q _)) e = let z : n ≡ 4 = cc in not-among 4 q refl z
no-four-set o (D.refused (D.place q)) e = let z : ◌≡◌ {A = ℕ} 0 1 = cc in absurd (omega arith)

pub unique : Unique
unique = record {
  count = λ b r r' e e'. counts r r' (e ∙ sym e');
  fetch = λ s b k r r' e e'. fetched r r' (e ∙ sym e') (λ q. no-four (fetch_of s b k) (demand1.fetch s b k) (sym e ∙ q));
  check = λ s b r r' e e'.
      checked r r' (e ∙ sym e') (λ q. no-four-all (check_of s b) (demand1.check s b) (sym e ∙ q))
      (λ k q. no-four-row (check_of s b) k (demand1.check s b) (sym e ∙ q));
  append = λ s room used row r r' b b' w w'. record { answer = length-one r r' (w.answers ∙ sym w'.answers); bytes = w.leaves ∙ sym w'.leaves };
  read = λ s b k p r r' e e'. read_one r r' (e ∙ sym e') (rw e (numbered-read s b k p));
  set = λ s b k p x r r' u u' w w'. record {
    answer = outcome-one r r' (w.answers ∙ sym w'.answers) (λ q. no-four-set (set_of s b k p x) (demand1.set s b k p x) (sym w.answers ∙ q));
    bytes = w.after ∙ sym w'.after;
  };
}
