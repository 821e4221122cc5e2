-- A code's halves do not meet: a refusal's number is at most 13, a place is at most 16384, and what a length is fits the lower half. Assumes nothing.
use mathlib.Core.Path.{◌≡◌, refl}
use Prim.Native.Nat.{ℕ, ◌+◌, ◌*◌, ◌≤◌}
use native.Mathlib.Omega.{arith}
use Rattle.layout.specs.Entries.{Sized}
use Rattle.answers.specs.declared.Refusal.{Refusal}
use Rattle.answers.specs.declared.Refusal.TheVariants as F
use Rattle.answers.specs.Meaning.{number_of, place_of, refusal_means}
use Rattle.row.specs.Outcomes.{length_in, Low, LowSized}
use Rattle.codes.specs.Codes.{refusal_code, Halved}

pub number_small : (r : Refusal) → number_of r ≤ 13
number_small F.Schema = omega arith
number_small F.Listing = omega arith
number_small F.TooLong = omega arith
number_small (F.Room n) = omega arith
number_small F.NoPlace = omega arith
number_small F.NullBefore = omega arith
number_small (F.Layout p) = omega arith
number_small F.Unfit = omega arith
number_small F.Resize = omega arith
number_small F.Batch = omega arith
number_small F.Log = omega arith
number_small F.Full = omega arith
number_small F.NoNumber = omega arith

place-small : (r : Refusal) → Low 16384 (refusal_means r) → place_of r ≤ 16384
place-small F.Schema h = omega arith
place-small F.Listing h = omega arith
place-small F.TooLong h = omega arith
place-small (F.Room n) h = omega arith
place-small F.NoPlace h = omega arith
place-small F.NullBefore h = omega arith
place-small (F.Layout p) h = h
place-small F.Unfit h = omega arith
place-small F.Resize h = omega arith
place-small F.Batch h = omega arith
place-small F.Log h = omega arith
place-small F.Full h = omega arith
place-small F.NoNumber h = omega arith

code_is : (r : Refusal) → number_of r * 4294967296 + place_of r ≡ refusal_code (refusal_means r)
code_is F.Schema = refl
code_is F.Listing = refl
code_is F.TooLong = refl
code_is (F.Room n) = refl
code_is F.NoPlace = refl
code_is F.NullBefore = refl
code_is (F.Layout p) = refl
code_is F.Unfit = refl
code_is F.Resize = refl
code_is F.Batch = refl
code_is F.Log = refl
code_is F.Full = refl
code_is F.NoNumber = refl

pub code-small : (r : Refusal) → Low 16384 (refusal_means r) → refusal_code (refusal_means r) ≤ 60129542144
code-small r h = omega (arith, number_small r, place-small r h, code_is r)

pub halved : (z z' : Sized) → z ≡ z' → length_in z' ≤ 49152 → LowSized 16384 z' → Halved z
halved z z' e h l = rw e (record { below = omega arith; place = l })
