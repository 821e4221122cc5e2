-- One enum value is left for each meaning: every meaning leads back to its value. Assumes nothing.
use Rattle.std.specs.Prelude.{Ok, Err}
use mathlib.Core.Path.{◌≡◌, refl, sym, ap, ◌∙◌}
use mathlib.Core.Bool.{Bool, true, false, cond}
use Prim.Native.Nat.{ℕ}
use lib.Dec.{eqb}
use lib.Ieee.{Float, Format, binary32, binary64, nan_bits, of_bits, to_bits}
use Rattle.layout.specs.Refusals as N
use Rattle.layout.specs.Reading as R
use Rattle.layout.specs.Entries as E
use Rattle.answers.specs.declared.Refusal.{Refusal}
use Rattle.answers.specs.declared.Refusal.TheVariants as F
use Rattle.answers.specs.Meaning.{Outcome}
use Rattle.answers.specs.Meaning.{Length}
use Rattle.answers.specs.declared.Answer.TheVariants as A
use Rattle.answers.specs.Meaning.{number_of, length_of, refusal_means, outcome_means, length_means, no_answer, plain, float, float_means, nan_means, meaning}
use Rattle.answers.specs.Meaning.{Numbered, Read, read_means}
use Rattle.answers.proofs.FloatLaws.{plain_back, plain-not-nan}

-- ---- refusals

-- the refusal of a meaning and a length
abbrev refusal : N.Refusal → ℕ → Refusal
refusal (N.broken_at p) l = F.Layout p
refusal (N.numbered n) l =
    cond (eqb n 1) F.Schema
    (cond (eqb n 2) F.Listing
    (cond (eqb n 3) F.TooLong
    (cond (eqb n 4) (F.Room l)
    (cond (eqb n 5) F.NoPlace
    (cond (eqb n 6) F.NullBefore
    (cond (eqb n 8) F.Unfit (cond (eqb n 9) F.Resize (cond (eqb n 10) F.Batch (cond (eqb n 11) F.Log (cond (eqb n 12) F.Full F.NoNumber))))))))))

refusal-back : (r : Refusal) → refusal (refusal_means r) (length_of r) ≡ r
refusal-back F.Schema = refl
refusal-back F.Listing = refl
refusal-back F.TooLong = refl
refusal-back (F.Room n) = refl
refusal-back F.NoPlace = refl
refusal-back F.NullBefore = refl
refusal-back (F.Layout p) = refl
refusal-back F.Unfit = refl
refusal-back F.Resize = refl
refusal-back F.Batch = refl
refusal-back F.Log = refl
refusal-back F.Full = refl
refusal-back F.NoNumber = refl

-- a refusal is its number, its place and its length
pub refusal-one : (r s : Refusal) → refusal_means r ≡ refusal_means s → length_of r ≡ length_of s → r ≡ s
refusal-one r s n l = sym (refusal-back r) ∙ ap (λ (m : N.Refusal). refusal m (length_of r)) n ∙ ap (refusal (refusal_means s)) l ∙ refusal-back s

pub number-means : (r : Refusal) → N.number_in (refusal_means r) ≡ number_of r
number-means F.Schema = refl
number-means F.Listing = refl
number-means F.TooLong = refl
number-means (F.Room n) = refl
number-means F.NoPlace = refl
number-means F.NullBefore = refl
number-means (F.Layout p) = refl
number-means F.Unfit = refl
number-means F.Resize = refl
number-means F.Batch = refl
number-means F.Log = refl
number-means F.Full = refl
number-means F.NoNumber = refl

-- only 4 has a length
pub no_length : (r : Refusal) → (refusal_means r ≡ N.numbered 4 → ⊥) → length_of r ≡ 0
no_length F.Schema h = refl
no_length F.Listing h = refl
no_length F.TooLong h = refl
no_length (F.Room n) h = absurd (h refl)
no_length F.NoPlace h = refl
no_length F.NullBefore h = refl
no_length (F.Layout p) h = refl
no_length F.Unfit h = refl
no_length F.Resize h = refl
no_length F.Batch h = refl
no_length F.Log h = refl
no_length F.Full h = refl
no_length F.NoNumber h = refl

-- so number and place tell any other
pub number-one : (r s : Refusal) → refusal_means r ≡ refusal_means s → (refusal_means r ≡ N.numbered 4 → ⊥) → r ≡ s
number-one r s n h = refusal-one r s n (no_length r h ∙ sym (no_length s (λ e. h (n ∙ e))))

-- ---- outcomes and lengths

pub outcome-one : (a b : Outcome) → outcome_means a ≡ outcome_means b → (outcome_means a ≡ E.refused (N.numbered 4) → ⊥) → a ≡ b
outcome-one (Ok u) (Ok v) e h = refl
outcome-one (Ok u) (Err s) e h = cc
outcome-one (Err r) (Ok u) e h = cc
outcome-one (Err r) (Err s) e h =
    let n : refusal_means r ≡ refusal_means s = cc in
    ap Err (number-one r s n (λ q. h (ap E.refused q)))

pub length-one : (a b : Length) → length_means a ≡ length_means b → a ≡ b
length-one (Ok m) (Ok n) e = cc
length-one (Ok m) (Err s) e = cc
length-one (Err r) (Ok n) e = cc
length-one (Err r) (Err s) e =
    let n : refusal_means r ≡ refusal_means s = cc in
    let l : length_of r ≡ length_of s = cc in
    ap Err (refusal-one r s n l)

-- ---- answers

abbrev pub of_float : Format → Float → Read
of_float binary32 x = Ok (A.Float32 x)
of_float binary64 x = Ok (A.Float64 x)

abbrev pub of_nan : Format → ℕ → Read
of_nan binary32 b = Ok (A.Float32Nan b)
of_nan binary64 b = Ok (A.Float64Nan b)

-- the answer of a float's pattern
abbrev pub of_pattern : Format → ℕ → Read
of_pattern f b = cond (nan_bits f b) (of_nan f b) (of_float f (of_bits f b))

-- what a reading answers of a meaning
abbrev pub answer : R.Answer → Read
answer R.null = Ok (A.Null)
answer (R.bool v) = Ok (A.Bool v)
answer (R.signed z) = Ok (A.Number z)
answer (R.float32 b) = of_pattern binary32 b
answer (R.float64 b) = of_pattern binary64 b
answer (R.bytes o n) = Ok (A.Bytes o n)
answer (R.container o n k) = Ok (A.Container o n k)
answer (R.refused n) = Err (refusal n 0)

pub answer-float : (f : Format) (b : ℕ) → answer (float f b) ≡ of_pattern f b
answer-float binary32 b = refl
answer-float binary64 b = refl

float_back : (f : Format) (x : Float) → (float_means f x ≡ no_answer → ⊥) → answer (float_means f x) ≡ of_float f x
float_back f x h = go (plain f x) refl
  where
    go : (v : Bool) → plain f x ≡ v → answer (float_means f x) ≡ of_float f x
    go true e = rw e (answer-float f (to_bits f x) ∙ rw (plain-not-nan f x e, plain_back f x e))
    go false e = absurd (h (rw e))

nan-back : (f : Format) (b : ℕ) → (nan_means f b ≡ no_answer → ⊥) → answer (nan_means f b) ≡ of_nan f b
nan-back f b h = go (nan_bits f b) refl
  where
    go : (v : Bool) → nan_bits f b ≡ v → answer (nan_means f b) ≡ of_nan f b
    go true e = rw e (answer-float f b ∙ rw e)
    go false e = absurd (h (rw e))

pub answer_back : (a : Read) → Numbered (read_means a) → answer (read_means a) ≡ a
answer_back (Ok A.Null) h = refl
answer_back (Ok (A.Bool v)) h = refl
answer_back (Ok (A.Number z)) h = refl
answer_back (Ok (A.Float32 x)) h = float_back binary32 x h.known
answer_back (Ok (A.Float32Nan b)) h = nan-back binary32 b h.known
answer_back (Ok (A.Float64 x)) h = float_back binary64 x h.known
answer_back (Ok (A.Float64Nan b)) h = nan-back binary64 b h.known
answer_back (Ok (A.Bytes o n)) h = refl
answer_back (Ok (A.Container o n k)) h = refl
answer_back (Err r) h =
    ap Err (ap (refusal (refusal_means r)) (sym (no_length r (λ q. h.roomless (ap R.refused q)))) ∙ refusal-back r)

-- of every meaning that a reading gives there is one answer
pub read_one : (a b : Read) → read_means a ≡ read_means b → Numbered (read_means a) → a ≡ b
read_one a b e h = sym (answer_back a h) ∙ ap answer e ∙ answer_back b (rw e at h)
