-- The picture by what the check answers. Assumes nothing.
use Rattle.std.specs.Prelude.{Ok, Err}
use mathlib.Core.Path.{◌≡◌, refl, sym, ap, ◌∙◌}
use mathlib.Core.Bool.{Bool, true, false}
use mathlib.Core.Option.{Option, none, some}
use mathlib.Core.List.{List}
use Prim.Native.Nat.{ℕ}
use native.Mathlib.Omega.{arith}
use lib.Dec.{leb}
use lib.ListN.{length}
use borrow.Author.Tests.{leb-true}
use Rattle.schema.specs.Reading.{judged}
use Rattle.schema.specs.declared.Judged.{Judged}
use Rattle.schema.specs.declared.Judged.TheVariants.{Accepted, Refused}
use Rattle.layout.specs.Refusals as N
use Rattle.layout.specs.Setting.{unless, ◌or◌}
use Rattle.layout.specs.Entries.{Verdict, done, refused, verdict, is_accepted, layout_bad, check_of}
use Rattle.answers.specs.Meaning.{Outcome}
use Rattle.answers.specs.declared.Refusal.{Refusal}
use Rattle.answers.specs.declared.Refusal.TheVariants as F
use Rattle.answers.specs.Meaning.{number_of, place_of, refusal_means, outcome_means}
use Rattle.picture.specs.Picture.{shown}
use Rattle.card.specs.Output.{refusal, Ready}
use Rattle.card.specs.Whereabouts.{by_fault, where_text}

-- the place of a 7, and the number of any other
broken-means : (f : Refusal) → number_of f ≡ 7 → refusal_means f ≡ N.broken_at (place_of f)
broken-means F.Schema h = absurd (omega arith)
broken-means F.Listing h = absurd (omega arith)
broken-means F.TooLong h = absurd (omega arith)
broken-means (F.Room n) h = absurd (omega arith)
broken-means F.NoPlace h = absurd (omega arith)
broken-means F.NullBefore h = absurd (omega arith)
broken-means (F.Layout p) h = refl
broken-means F.Unfit h = absurd (omega arith)
broken-means F.Resize h = absurd (omega arith)
broken-means F.Batch h = absurd (omega arith)
broken-means F.Log h = absurd (omega arith)
broken-means F.Full h = absurd (omega arith)
broken-means F.NoNumber h = absurd (omega arith)

other-means : (f : Refusal) → (number_of f ≡ 7 → ⊥) → refusal_means f ≡ N.numbered (number_of f)
other-means F.Schema h = refl
other-means F.Listing h = refl
other-means F.TooLong h = refl
other-means (F.Room n) h = refl
other-means F.NoPlace h = refl
other-means F.NullBefore h = refl
other-means (F.Layout p) h = absurd (h refl)
other-means F.Unfit h = refl
other-means F.Resize h = refl
other-means F.Batch h = refl
other-means F.Log h = refl
other-means F.Full h = refl
other-means F.NoNumber h = refl

abbrev number_by : Verdict → ℕ
number_by done = 0
number_by (refused r) = N.number_in r

module _ (s row : List ℕ) where
  opens : (p : ℕ) (j : Judged) → judged s ≡ j → (t : Bool) → leb (length row) 16384 ≡ t → (x : Option N.Refusal)
      → refused (N.broken_at p) ≡ verdict (unless (is_accepted j) 1 or (unless t 3 or x)) → Ready s row
  opens p Refused e t f x d = let z : ◌≡◌ {A = ℕ} 7 1 = ap number_by d in absurd (omega arith)
  opens p Accepted e false f x d = let z : ◌≡◌ {A = ℕ} 7 3 = ap number_by d in absurd (omega arith)
  opens p Accepted e true f x d = record { schema = e; short = leb-true (length row) 16384 f }

  broken-opens : (p : ℕ) → refused (N.broken_at p) ≡ check_of s row → Ready s row
  unfolding check_of
  broken-opens p e = opens p (judged s) refl (leb (length row) 16384) refl (layout_bad s row) e

  text-by : (v : Verdict) → v ≡ check_of s row → by_fault v (λ f. shown s row f) ≡ where_text s row
  unfolding where_text
  text-by v e = ap (λ (w : Verdict). by_fault w (λ f. shown s row f)) e

  module _ (r : Outcome) (m : outcome_means r ≡ check_of s row) where
    pub where-done : r ≡ Ok tt → shown s row none ≡ where_text s row
    where-done e = text-by done (ap outcome_means (sym e) ∙ m)

    module _ (f : Refusal) (n : ℕ) (e : r ≡ Err f) (q : n ≡ number_of f) where
      pub where-refused : (n ≡ 7 → ⊥) → refusal n ≡ where_text s row
      where-refused h =
          let is : refused (N.numbered (number_of f)) ≡ check_of s row =
          ap refused (sym (other-means f (λ k. h (q ∙ k)))) ∙ ap outcome_means (sym e) ∙ m in
          ap refusal q ∙ text-by (refused (N.numbered (number_of f))) is

      breaks : n ≡ 7 → refused (N.broken_at (place_of f)) ≡ check_of s row
      breaks h = ap refused (sym (broken-means f (sym q ∙ h))) ∙ ap outcome_means (sym e) ∙ m

      pub where-opens : n ≡ 7 → Ready s row
      where-opens h = broken-opens (place_of f) (breaks h)

      pub where-broken : (p : ℕ) → n ≡ 7 → p ≡ place_of f → shown s row (some p) ≡ where_text s row
      where-broken p h k = ap (λ (x : ℕ). shown s row (some x)) k ∙ text-by (refused (N.broken_at (place_of f))) (breaks h)
