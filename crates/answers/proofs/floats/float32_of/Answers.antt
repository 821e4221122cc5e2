-- `answers::floats::float32_of` meets its contract. Assumes nothing.
use mathlib.Core.Path.{sym, subst}
use mathlib.Core.Bool.{Bool, not}
use lib.Dec.{T}
use lib.Ieee.{binary32}
use borrow.Author.Rules.{rules}
use Rattle.words.proofs.Powers.{mask_is}
use Rattle.answers.proofs.FloatLaws.{nan-above, nan-not-above, nan-means, float-means}
use Rattle.answers.proofs.floats.float32_of.Goals as goal

pub float_from_bits-result : goal.float_from_bits-result
float_from_bits-result c = let b = c.args.bits in
    subst (λ (v : Bool). T (not v)) (sym (nan-not-above binary32 b _ (mask_is b 31) c.if-bits-gt2139095040.false)) tt

pub returns-then-bits-gt2139095040 : goal.returns-then-bits-gt2139095040
returns-then-bits-gt2139095040 c = let b = c.args.bits in
    nan-means binary32 b (nan-above binary32 b _ (mask_is b 31) c.if-bits-gt2139095040.true)

pub returns-else-bits-gt2139095040 : goal.returns-else-bits-gt2139095040
returns-else-bits-gt2139095040 c = let b = c.args.bits in
    float-means binary32 b (search rules) (nan-not-above binary32 b _ (mask_is b 31) c.if-bits-gt2139095040.false)
