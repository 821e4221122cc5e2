-- Words put, and each case of an answer told in them. Assumes nothing.
use Rattle.std.specs.Prelude.{Ok, Err}
use mathlib.Core.Path.{◌≡◌, refl, sym, ap, ◌∙◌}
use mathlib.Core.Bool.{Bool, true, false, cond}
use mathlib.Core.Option.{none}
use mathlib.Core.List.{List, ◌++◌}
use Prim.Native.Nat.{ℕ, ◌+◌, ◌≤◌}
use lib.Ieee.{Format, binary32, binary64, to_bits, nan_bits}
use native.Mathlib.Omega.{arith}
use lib.ListN.{length, take, drop}
use lib.Seq.{sets, sets-eq, length-take-le}
use borrow.Author.Tests.{le-leb}
use Rattle.layout.specs.Setting.{refusal_in}
use Rattle.answers.specs.declared.Refusal.{Refusal}
use Rattle.answers.specs.declared.Answer.{Answer as Case}
use Rattle.answers.specs.declared.Answer.TheVariants as A
use Rattle.answers.specs.Meaning.{refusal_means, plain, float, no_answer, meaning, Read, read_means, Numbered}
use Rattle.row.specs.Outcomes.{Low, LowIn}
use Rattle.codes.specs.Codes.{refusal_code}
use Rattle.codes.specs.Words.{words_of, Told, Tells}

-- n words of which fewer are lent, and those of which as many are

pub put-done : {n : ℕ} {w v out : List ℕ} → n ≤ length out → v ≡ w → length v ≡ length (take n out) → Told n none w out 0 (v ++ drop n out)
put-done {n} {w} {v} {out} h e l =
    let k : length w ≡ n = sym (ap length e) ∙ l ∙ length-take-le n out h in
    let q : v ++ drop n out ≡ sets out 0 w =
    ap (λ (u : List ℕ). u ++ drop n out) e ∙ ap (λ (m : ℕ). w ++ drop m out) (omega arith) ∙ sym (sets-eq w out 0 (omega arith)) in
    record { answers = rw (le-leb n (length out) h); leaves = rw (le-leb n (length out) h) q }

-- ---- an answer of reading is no refusal

-- a case that stands for no float is none of reading's answers
float-given : (f : Format) (n : ℕ) (v : Bool) → Numbered (cond v (float f n) no_answer) → refusal_in (cond v (float f n) no_answer) ≡ none
unfolding refusal_in
float-given binary32 n true g = refl
float-given binary64 n true g = refl
float-given f n false g = absurd (g.known refl)

answer-given : (x : Case) → Numbered (meaning x) → refusal_in (meaning x) ≡ none
unfolding refusal_in
answer-given A.Null g = refl
answer-given (A.Bool v) g = refl
answer-given (A.Number z) g = refl
answer-given (A.Float32 v) g = float-given binary32 (to_bits binary32 v) (plain binary32 v) g
answer-given (A.Float32Nan n) g = float-given binary32 n (nan_bits binary32 n) g
answer-given (A.Float64 v) g = float-given binary64 (to_bits binary64 v) (plain binary64 v) g
answer-given (A.Float64Nan n) g = float-given binary64 n (nan_bits binary64 n) g
answer-given (A.Bytes o n) g = refl
answer-given (A.Container o n k) g = refl

-- ---- told

module _ (x : Read) {a : Case} (e : x ≡ Ok a) (g : Numbered (read_means x)) where
  pub given-numbered : Numbered (meaning a)
  given-numbered = rw e at g

  pub given-none : refusal_in (read_means x) ≡ none
  given-none = rw e (answer-given a given-numbered)

  pub tells-given : {w out out' : List ℕ} {r : ℕ} → w ≡ words_of (meaning a) → Told 4 none w out r out' → Tells (read_means x) out r out'
  tells-given q p = rw (given-none, e, ← q) p

module _ (x : Read) {f : Refusal} (e : x ≡ Err f) where
  pub low-answer : LowIn 16384 (refusal_in (read_means x)) → Low 16384 (refusal_means f)
  unfolding refusal_in
  low-answer h = rw e at h

  pub tells-refused : {n : ℕ} {out : List ℕ} → n ≡ refusal_code (refusal_means f) → Tells (read_means x) out n out
  unfolding refusal_in
  tells-refused q = rw e (record { answers = q; leaves = refl })
