-- What a check's answer says, for `list` and `set`, which check first: in its order it refuses as they do. Assumes nothing.
use mathlib.Core.Path.{◌≡◌, refl, sym, ap, ◌∙◌, subst}
use mathlib.Core.Option.{Option, none, some}
use mathlib.Core.List.{List}
use Prim.Native.Nat.{ℕ, ◌≤◌, ◌<◌}
use native.Mathlib.Decide.{dec_lt}
use native.Mathlib.Omega.{arith}
use lib.ListN.{length}
use Rattle.schema.specs.Types.{ro}
use Rattle.schema.specs.Reading.{judged}
use Rattle.schema.specs.Walk.{fields_of}
use Rattle.schema.specs.declared.Judged.TheVariants.{Accepted}
use Rattle.layout.specs.Refusals.{numbered, broken_at}
use Rattle.layout.specs.Refusals as N
use Rattle.layout.specs.Layout.{fault_at}
use Rattle.layout.specs.Entries.{Verdict, done, refused, verdict, broken, check_of}
use Rattle.answers.specs.declared.Refusal.{Refusal}
use Rattle.answers.specs.declared.Refusal.TheVariants as F
use Rattle.answers.specs.Meaning.{refusal_means}
use Rattle.answers.proofs.Unique.{number-one}
use Rattle.engine.proofs.Orders.{check-long, check-short}

-- a row within its limit that stands for contents of the schema
pub record Passed (s row : List ℕ) : Type 0 where
  pub short : length row ≤ 16384
  pub sound : fault_at (ro (fields_of s)) row ≡ none

-- why a row is refused: it is too long, or it is broken at a place
pub data Failed (s row : List ℕ) : Refusal → Type 0 where
  long : 16384 < length row → Failed s row F.TooLong
  torn : (j : ℕ) → length row ≤ 16384 → fault_at (ro (fields_of s)) row ≡ some j → Failed s row (F.Layout j)

-- the refusal in a verdict
abbrev refusal : Verdict → N.Refusal
refusal done = numbered 0
refusal (refused r) = r

module _ (s row : List ℕ) (a : judged s ≡ Accepted) where
  in-limit : length row ≤ 16384 → check_of s row ≡ verdict (broken (fault_at (ro (fields_of s)) row))
  in-limit h = sym (check-short s row a h)

  too_long : 16384 < length row → check_of s row ≡ refused (numbered 3)
  too_long h = sym (check-long s row a h)

  pub passed : done ≡ check_of s row → Passed s row
  passed e = go (dec_lt 16384 (length row))
    where
      whole : (o : Option ℕ) → done ≡ verdict (broken o) → o ≡ none
      whole none q = refl
      whole (some j) q = let z : ◌≡◌ {A = ℕ} 0 1 = cc in absurd (omega arith)

      go : Dec (16384 < length row) → Passed s row
      go (yes h) = let q : done ≡ refused (numbered 3) = e ∙ too_long h in let z : ◌≡◌ {A = ℕ} 0 1 = cc in absurd (omega arith)
      go (no h) = let k : length row ≤ 16384 = omega arith in record { short = k; sound = whole (fault_at (ro (fields_of s)) row) (e ∙ in-limit k) }

  pub failed : {r : Refusal} → refused (refusal_means r) ≡ check_of s row → Failed s row r
  failed {r} e = go (dec_lt 16384 (length row))
    where
      torn-at : (o : Option ℕ) → fault_at (ro (fields_of s)) row ≡ o → length row ≤ 16384 → refused (refusal_means r) ≡ verdict (broken o) → Failed s row r
      torn-at none q k v = let z : ◌≡◌ {A = ℕ} 0 1 = cc in absurd (omega arith)
      torn-at (some j) q k v =
          let m : broken_at j ≡ refusal_means r = ap refusal (sym v) in
          subst (Failed s row) (number-one (F.Layout j) r m (λ n. let z : ◌≡◌ {A = ℕ} 0 1 = cc in omega arith)) (torn j k q)

      go : Dec (16384 < length row) → Failed s row r
      go (yes h) =
          let m : numbered 3 ≡ refusal_means r = ap refusal (sym (e ∙ too_long h)) in
          subst (Failed s row) (number-one F.TooLong r m (λ n. let z : ◌≡◌ {A = ℕ} 3 4 = ap N.number_in n in omega arith)) (long h)
      go (no h) = let k : length row ≤ 16384 = omega arith in torn-at (fault_at (ro (fields_of s)) row) refl k (e ∙ in-limit k)
