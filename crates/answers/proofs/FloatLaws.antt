-- A float's pattern, over the format: a NaN's is known by one comparison, and every other comes back whole. Assumes nothing.
use mathlib.Core.Path.{◌≡◌, sym, ap, ◌∙◌, subst}
use mathlib.Core.Bool.{Bool, true, false, not, true≢false}
use Prim.Native.Nat.{ℕ, ◌*◌, ◌%◌, ◌<◌, ◌≤◌}
use lib.Dec.{T}
use borrow.Author.Tests.{lt-ltb, le-ltb}
use lib.Ieee.{Float, nan, inf, fin, Format, ne, is_nan, fits, nan_bits, of_bits, to_bits, top, ones, hid}
use lib.Ieee.Bits.{is_true, is_false, nan_bits_is, nan_bits_above, of_bits-to_bits, to_bits-of_bits, of_bits-fits}
use lib.Ieee.Fits.{and_l, and_r}
use lib.Ieee.Compare.{differs_from_itself, nan_differs}
use Rattle.answers.specs.Meaning.{plain, float, float_means, nan_means}

-- ---- `x != x`

pub is-nan : (x : Float) → ne x x ≡ true → x ≡ nan
is-nan x e = differs_from_itself x (subst T (sym e) tt)

pub not-nan : (x : Float) → ne x x ≡ false → T (not (is_nan x))
unfolding is_nan
not-nan nan e = absurd (true≢false (sym nan_differs ∙ e))
not-nan (inf s) e = tt
not-nan (fin s m e') e = tt

-- ---- the comparison that a program makes, with the sign's bit taken off

pub nan-above : (f : Format) (b m : ℕ) → m ≡ b % top f → ones f * hid f < m → nan_bits f b ≡ true
nan-above f b m e h = nan_bits_above f b ∙ lt-ltb (ones f * hid f) (b % top f) (rw e at h)

pub nan-not-above : (f : Format) (b m : ℕ) → m ≡ b % top f → m ≤ ones f * hid f → nan_bits f b ≡ false
nan-not-above f b m e h = nan_bits_above f b ∙ le-ltb (ones f * hid f) (b % top f) (rw e at h)

-- ---- a pattern that is no NaN's is a plain float's, and comes back whole

pub pattern-plain : (f : Format) (b : ℕ) → nan_bits f b ≡ false → plain f (of_bits f b) ≡ true
pattern-plain f b e = rw (is_true (fits f (of_bits f b)) (of_bits-fits f b), ← nan_bits_is f b, e)

pub whole : (f : Format) (b : ℕ) → b < 2 * top f → nan_bits f b ≡ false → to_bits f (of_bits f b) ≡ b
whole f b h e = to_bits-of_bits f b h (subst (λ (v : Bool). T (not v)) (sym e ∙ nan_bits_is f b) tt)

-- what a program answers for a pattern stands for the pattern
pub nan-means : (f : Format) (b : ℕ) → nan_bits f b ≡ true → nan_means f b ≡ float f b
nan-means f b e = rw e

pub float-means : (f : Format) (b : ℕ) → b < 2 * top f → nan_bits f b ≡ false → float_means f (of_bits f b) ≡ float f b
float-means f b h e = rw (pattern-plain f b e, whole f b h e)

-- ---- and back: a plain float's bits are no NaN's pattern, and are read as the float

pub plain_back : (f : Format) (x : Float) → plain f x ≡ true → of_bits f (to_bits f x) ≡ x
plain_back f x p = of_bits-to_bits f x (and_l (fits f x) (not (is_nan x)) (subst T (sym p) tt))

pub plain-not-nan : (f : Format) (x : Float) → plain f x ≡ true → nan_bits f (to_bits f x) ≡ false
plain-not-nan f x p =
    nan_bits_is f (to_bits f x)
    ∙ ap is_nan (plain_back f x p)
    ∙ is_false (is_nan x) (and_r (fits f x) (not (is_nan x)) (subst T (sym p) tt))
