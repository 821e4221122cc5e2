-- What a read answered, set again as it was answered, is the setting that the answer shows, float bits and NaNs included. So by demand 3 a
-- present leaf set to the answer of its read alters nothing. Assumes nothing.
use mathlib.Core.Path.{◌≡◌, refl}
use mathlib.Core.Bool.{Bool, true, false}
use mathlib.Core.Option.{some, some-injective, none-ne-some}
use mathlib.Core.List.{List}
use Prim.Native.Nat.{ℕ}
use lib.Ieee.{Float, Format, binary32, binary64, nan_bits, to_bits}
use Rattle.layout.specs.Reading.{held}
use Rattle.layout.specs.Setting as S
use Rattle.layout.specs.Demand3.{told}
use Rattle.answers.specs.declared.Answer.{Answer}
use Rattle.answers.specs.declared.Answer.TheVariants as A
use Rattle.answers.specs.declared.Setting.{Setting}
use Rattle.answers.specs.Meaning.{no_answer, plain, float, float_means, nan_means, meaning, Numbered, setting_of, again}

-- what an answer means that is one of the document's
float_is : (f : Format) (x : Float) → (float_means f x ≡ no_answer → ⊥) → float_means f x ≡ float f (to_bits f x)
float_is f x n = go (plain f x) refl
  where
    go : (v : Bool) → plain f x ≡ v → float_means f x ≡ float f (to_bits f x)
    go true e = rw e
    go false e = absurd (n (rw e))

nan_is : (f : Format) (b : ℕ) → (nan_means f b ≡ no_answer → ⊥) → nan_means f b ≡ float f b
nan_is f b n = go (nan_bits f b) refl
  where
    go : (v : Bool) → nan_bits f b ≡ v → nan_means f b ≡ float f b
    go true e = rw e
    go false e = absurd (n (rw e))

pub again-told : (row : List ℕ) (a : Answer) (x : Setting) → Numbered (meaning a) → again a ≡ some x
    → told row (meaning a) ≡ some (setting_of x (held row (meaning a)))
unfolding told held
again-told row A.Null x n e = rw (← (some-injective _ _ e))
again-told row (A.Bool v) x n e = rw (← (some-injective _ _ e))
again-told row (A.Number z) x n e = rw (← (some-injective _ _ e))
again-told row (A.Float32 y) x n e = rw (float_is binary32 y n.known, ← (some-injective _ _ e))
again-told row (A.Float32Nan b) x n e = rw (nan_is binary32 b n.known, ← (some-injective _ _ e))
again-told row (A.Float64 y) x n e = rw (float_is binary64 y n.known, ← (some-injective _ _ e))
again-told row (A.Float64Nan b) x n e = rw (nan_is binary64 b n.known, ← (some-injective _ _ e))
again-told row (A.Bytes o k) x n e = rw (← (some-injective _ _ e))
again-told row (A.Container o k m) x n e = absurd (none-ne-some _ e)
