-- The document's number and values for each case of the enums. Assumes nothing: these are definitions.
use Rattle.std.specs.Prelude.{Ok, Err}
use Rattle.std.specs.Prelude.{◌≡◌, Bool, not, ◌&&◌, cond, List, ℕ, Float, Result}
use Rattle.std.proofs.Math.Option.{Option, none, some}
use Rattle.std.specs.Float.{Format, binary32, binary64}
use Rattle.std.specs.Float.Ieee.{fits, is_nan, nan_bits, to_bits}
use Rattle.words.specs.Bytes.{Bytes}
use Rattle.layout.specs.Refusals as N
use Rattle.layout.specs.Reading as R
use Rattle.layout.specs.Setting as S
use Rattle.layout.specs.Entries as E
use Rattle.layout.specs.Demand3.{Proper}
use Rattle.answers.specs.declared.Refusal.{Refusal}
use Rattle.answers.specs.declared.Refusal.TheVariants as F
use Rattle.answers.specs.declared.Answer.{Answer}
use Rattle.answers.specs.declared.Answer.TheVariants as A
use Rattle.answers.specs.declared.Setting.{Setting}
use Rattle.answers.specs.declared.Setting.TheVariants as T
use Rattle.answers.specs.declared.Given.{Given}
use Rattle.answers.specs.declared.Given.TheVariants as G

-- ---- refusals

-- the number in the document's table
abbrev pub number_of : Refusal → ℕ
number_of F.Schema = 1
number_of F.Listing = 2
number_of F.TooLong = 3
number_of (F.Room n) = 4
number_of F.NoPlace = 5
number_of F.NullBefore = 6
number_of (F.Layout p) = 7
number_of F.Unfit = 8
number_of F.Resize = 9
number_of F.Batch = 10
number_of F.Log = 11
number_of F.Full = 12
number_of F.NoNumber = 13

-- a refusal's length is 0 except for 4, which answers the length needed
abbrev pub length_of : Refusal → ℕ
length_of F.Schema = 0
length_of F.Listing = 0
length_of F.TooLong = 0
length_of (F.Room n) = n
length_of F.NoPlace = 0
length_of F.NullBefore = 0
length_of (F.Layout p) = 0
length_of F.Unfit = 0
length_of F.Resize = 0
length_of F.Batch = 0
length_of F.Log = 0
length_of F.Full = 0
length_of F.NoNumber = 0

-- only 7 has a place
abbrev pub place_of : Refusal → ℕ
place_of F.Schema = 0
place_of F.Listing = 0
place_of F.TooLong = 0
place_of (F.Room n) = 0
place_of F.NoPlace = 0
place_of F.NullBefore = 0
place_of (F.Layout p) = p
place_of F.Unfit = 0
place_of F.Resize = 0
place_of F.Batch = 0
place_of F.Log = 0
place_of F.Full = 0
place_of F.NoNumber = 0

-- the number, and of a 7 the place
abbrev pub refusal_means : Refusal → N.Refusal
refusal_means F.Schema = N.numbered 1
refusal_means F.Listing = N.numbered 2
refusal_means F.TooLong = N.numbered 3
refusal_means (F.Room n) = N.numbered 4
refusal_means F.NoPlace = N.numbered 5
refusal_means F.NullBefore = N.numbered 6
refusal_means (F.Layout p) = N.broken_at p
refusal_means F.Unfit = N.numbered 8
refusal_means F.Resize = N.numbered 9
refusal_means F.Batch = N.numbered 10
refusal_means F.Log = N.numbered 11
refusal_means F.Full = N.numbered 12
refusal_means F.NoNumber = N.numbered 13

-- ---- outcomes

-- judge, check and set: done, or a refusal
abbrev pub Outcome : Type 0
Outcome = Result (Unit {0}) Refusal

abbrev pub outcome_means : Outcome → E.Verdict
outcome_means (Ok u) = E.done
outcome_means (Err r) = E.refused (refusal_means r)

-- write and list: the length n of what was written, or a refusal and its length
abbrev pub Length : Type 0
Length = Result ℕ Refusal

abbrev pub length_means : Length → E.Sized
length_means (Ok n) = E.takes n
length_means (Err r) = E.refused_with (refusal_means r) (length_of r)

-- ---- answers

-- the document refuses with no number 0: an answer of this meaning is none of its answers
abbrev pub no_answer : R.Answer
no_answer = R.refused (N.numbered 0)

-- a number of the format that is no NaN
abbrev pub plain : Format → Float → Bool
plain f x = fits f x && not (is_nan x)

-- a float of the format by its bits
abbrev pub float : Format → ℕ → R.Answer
float binary32 n = R.float32 n
float binary64 n = R.float64 n

-- a float stands for its bits where it is plain, a pattern for itself where it is a NaN's
abbrev pub float_means : Format → Float → R.Answer
float_means f x = cond (plain f x) (float f (to_bits f x)) no_answer

abbrev pub nan_means : Format → ℕ → R.Answer
nan_means f b = cond (nan_bits f b) (float f b) no_answer

abbrev pub meaning : Answer → R.Answer
meaning A.Null = R.null
meaning (A.Bool v) = R.bool v
meaning (A.Number z) = R.signed z
meaning (A.Float32 x) = float_means binary32 x
meaning (A.Float32Nan b) = nan_means binary32 b
meaning (A.Float64 x) = float_means binary64 x
meaning (A.Float64Nan b) = nan_means binary64 b
meaning (A.Bytes o n) = R.bytes o n
meaning (A.Container o n k) = R.container o n k

-- read: what stands at a place, or a refusal
abbrev pub Read : Type 0
Read = Result Answer Refusal

abbrev pub read_means : Read → R.Answer
read_means (Ok a) = meaning a
read_means (Err r) = R.refused (refusal_means r)

-- one of the document's answers, and not 4, whose length this meaning leaves out
pub record Numbered (a : R.Answer) : Type 0 where
  pub known : a ≡ no_answer → ⊥
  pub roomless : a ≡ R.refused (N.numbered 4) → ⊥

-- ---- settings, with the bytes u beside them

-- the bits that a float writes; a NaN without a pattern writes the quiet one with no payload, as to_bits says
abbrev pub setting_of : Setting → List ℕ → S.Setting
setting_of T.Null u = S.null
setting_of (T.Bool v) u = S.bool v
setting_of (T.Number z) u = S.signed z
setting_of (T.Float32 x) u = S.float32 (to_bits binary32 x)
setting_of (T.Float32Nan b) u = S.float32 b
setting_of (T.Float64 x) u = S.float64 (to_bits binary64 x)
setting_of (T.Float64Nan b) u = S.float64 b
setting_of T.Bytes u = S.bytes u

-- the setting that a `Given` stands for
abbrev pub given_means : Given → List ℕ → S.Setting
given_means G.Null u = S.null
given_means (G.Bool v) u = S.bool v
given_means (G.Number z) u = S.signed z
given_means (G.Float32 b) u = S.float32 b
given_means (G.Float64 b) u = S.float64 b
given_means G.Bytes u = S.bytes u

-- what a `Given` is of a setting: it stands for the same, whatever bytes lie beside it; and every setting that can be passed is proper
pub record GivenAs (x : Setting) (g : Given) : Type 0 where
  pub means : (u : List ℕ) → given_means g u ≡ setting_of x u
  pub proper : (u : List ℕ) → Bytes u → Proper (setting_of x u)

-- the setting that asks for what an answer gave, where there is one, with the bytes of its range beside it
abbrev pub again : Answer → Option Setting
again A.Null = some T.Null
again (A.Bool v) = some (T.Bool v)
again (A.Number z) = some (T.Number z)
again (A.Float32 x) = some (T.Float32 x)
again (A.Float32Nan b) = some (T.Float32Nan b)
again (A.Float64 x) = some (T.Float64 x)
again (A.Float64Nan b) = some (T.Float64Nan b)
again (A.Bytes o n) = some T.Bytes
again (A.Container o n k) = none
