-- What the check says of the text: a row that was accepted has an accepted schema, is not too long, and has its card; one that was not
-- has its refusal. Assumes nothing.
use Rattle.std.specs.Prelude.{Ok, Err}
use mathlib.Core.Path.{◌≡◌, refl, sym, ap, ◌∙◌}
use mathlib.Core.Bool.{Bool, true, false}
use mathlib.Core.Option.{Option}
use mathlib.Core.List.{List}
use Prim.Native.Nat.{ℕ}
use native.Mathlib.Omega.{arith}
use lib.Dec.{leb}
use lib.ListN.{length}
use borrow.Author.Tests.{leb-true}
use Rattle.schema.specs.Reading.{judged}
use Rattle.schema.specs.declared.Judged.{Judged}
use Rattle.schema.specs.declared.Judged.TheVariants.{Accepted, Refused}
use Rattle.layout.specs.Refusals as N
use Rattle.layout.specs.Setting.{unless, ◌or◌}
use Rattle.layout.specs.Entries.{Verdict, done, refused, verdict, is_accepted, layout_bad, check_of}
use Rattle.answers.specs.Meaning.{Outcome}
use Rattle.answers.specs.declared.Refusal.{Refusal}
use Rattle.answers.specs.Meaning.{number_of, outcome_means}
use Rattle.answers.proofs.Unique.{number-means}
use Rattle.lettering.specs.Text.{Puts}
use Rattle.lettering.specs.Held.{Walked}
use Rattle.leaves.specs.Whole.{card_of}
use Rattle.card.specs.Output.{refusal, Ready, by_verdict, judged_text}
use Rattle.card.proofs.Lengths.{refusal-most}

not_done : (n : N.Refusal) → done ≡ refused n → ⊥
not_done n e = let z : ◌≡◌ {A = ℕ} 0 1 = cc in omega arith

module _ (s row : List ℕ) where
  opens : (j : Judged) → judged s ≡ j → (t : Bool) → leb (length row) 16384 ≡ t → (x : Option N.Refusal)
      → done ≡ verdict (unless (is_accepted j) 1 or (unless t 3 or x)) → Ready s row
  opens Refused e t f x d = absurd (not_done (N.numbered 1) d)
  opens Accepted e false f x d = absurd (not_done (N.numbered 3) d)
  opens Accepted e true f x d = record { schema = e; short = leb-true (length row) 16384 f }

  pub accepted-opens : done ≡ check_of s row → Ready s row
  unfolding check_of
  accepted-opens e = opens (judged s) refl (leb (length row) 16384) refl (layout_bad s row) e

  pub checked : (r : Outcome) → outcome_means r ≡ check_of s row → r ≡ Ok tt → Ready s row
  checked r m e = accepted-opens (ap outcome_means (sym e) ∙ m)

  pub text-done : (r : Outcome) → outcome_means r ≡ check_of s row → r ≡ Ok tt → card_of s row ≡ judged_text s row
  unfolding judged_text
  text-done r m e = ap (λ (v : Verdict). by_verdict v (card_of s row)) (ap outcome_means (sym e) ∙ m)

  pub text-refused : (r : Outcome) (f : Refusal) (n : ℕ) → outcome_means r ≡ check_of s row → r ≡ Err f → n ≡ number_of f → refusal n ≡ judged_text s row
  unfolding judged_text
  text-refused r f n m e q = ap refusal (q ∙ sym (number-means f)) ∙ ap (λ (v : Verdict). by_verdict v (card_of s row)) (ap outcome_means (sym e) ∙ m)

-- ---- a text as a whole

pub refusal-walked : (n : ℕ) {out out' : List ℕ} {r : ℕ} → length out ≡ 262144 → Puts out 0 (refusal n) r out' → Walked (refusal n) out 0 r out'
refusal-walked n e p = record { within = omega (arith, p.next, refusal-most n); held = λ l. p }
