-- `answers::floats::float64_of` meets its contract. Assumes nothing.
use mathlib.Core.Path.{sym, subst}
use mathlib.Core.Bool.{Bool, not}
use lib.Dec.{T}
use lib.Ieee.{binary64}
use borrow.Author.Rules.{rules}
use Rattle.words.proofs.Powers.{mask_is}
use Rattle.answers.proofs.FloatLaws.{nan-above, nan-not-above, nan-means, float-means}
use Rattle.answers.proofs.floats.float64_of.Goals as goal

pub float_from_bits-result : goal.float_from_bits-result
float_from_bits-result c = let b = c.args.bits in
    subst (λ (v : Bool). T (not v)) (sym (nan-not-above binary64 b _ (mask_is b 63) c.if-bits-gt9218868437227405312.false)) tt

pub returns-then-bits-gt9218868437227405312 : goal.returns-then-bits-gt9218868437227405312
returns-then-bits-gt9218868437227405312 c = let b = c.args.bits in
    nan-means binary64 b (nan-above binary64 b _ (mask_is b 63) c.if-bits-gt9218868437227405312.true)

pub returns-else-bits-gt9218868437227405312 : goal.returns-else-bits-gt9218868437227405312
returns-else-bits-gt9218868437227405312 c = let b = c.args.bits in
    float-means binary64 b (search rules) (nan-not-above binary64 b _ (mask_is b 63) c.if-bits-gt9218868437227405312.false)
