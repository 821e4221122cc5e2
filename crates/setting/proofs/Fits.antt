-- What each setting comes to at a leaf, by the leaf's place in the table. Assumes nothing.
use mathlib.Core.Path.{◌≡◌, refl, sym, ap, ◌∙◌}
use mathlib.Core.Bool.{Bool, true, false}
use mathlib.Core.Option.{some}
use mathlib.Core.List.{List}
use Prim.Native.Nat.{ℕ, zero, suc, ◌^◌, ◌≤◌, ◌<◌}
use native.Mathlib.Omega.{arith}
use lib.IntN.{ℤ}
use lib.Signed.{mag}
use borrow.Author.Tests.{ltb-true}
use Rattle.words.specs.Bytes.{le}
use Rattle.words.specs.Bits.{digit}
use Rattle.words.specs.Signed.{half_of, of_signed, in_range}
use Rattle.words.proofs.SignedLaws.{half-bytes, of_signed-lt}
use Rattle.schema.specs.Marks.{types, line}
use Rattle.schema.specs.Types.{fix, fixed_at, fixed_place, width}
use Rattle.schema.proofs.Table.{each}
use Rattle.table.specs.Words.{place_in, width_in}
use Rattle.layout.specs.Setting as S
use Rattle.layout.specs.Setting.{in_bytes, bool_bytes, signed_bytes, float32_bytes, float64_bytes, suits}
use Rattle.answers.specs.declared.Given.{Given}
use Rattle.answers.specs.declared.Given.TheVariants as G
use Rattle.answers.specs.Meaning.{given_means}
use Rattle.setting.specs.Writes.{FixedIn, LeafIs}
use Rattle.setting.specs.declared.Leaf.{Leaf}
use Rattle.setting.specs.declared.Leaf.TheVariants as L
use Rattle.std.specs.Prelude as P
use Rattle.std.specs.Prelude.{Some, None}

-- ---- a bool

pub bool-fits : (k : ℕ) → k ≡ 0 → (v : Bool) (n : ℕ) → n ≡ digit v → LeafIs (fixed_at k) (S.bool v) (Some (L.Bits n))
unfolding fixed_at in_bytes bool_bytes width fixed_place types le
bool-fits zero z true n e = rw e (record { bytes = refl; below = omega arith; given = refl })
bool-fits zero z false n e = rw e (record { bytes = refl; below = omega arith; given = refl })
bool-fits (suc k) z v n e = absurd (omega arith)

pub bool-unfit : (k : ℕ) → k < 7 → (k ≡ 0 → ⊥) → (v : Bool) → LeafIs (fixed_at k) (S.bool v) None
unfolding fixed_at suits in_bytes signed_bytes float32_bytes float64_bytes
bool-unfit zero h z v = absurd (z refl)
bool-unfit (suc k) h z v =
    each (λ j. suits (fix (fixed_at (suc j))) (S.bool v) ≡ false) 6 (refl, (refl, (refl, (refl, (refl, (refl, tt)))))) k (omega arith)

-- ---- a signed number

number_at : (w : ℕ) → 0 < w → (z : ℤ) → in_range (half_of w) z ≡ true → (n : ℕ) → n ≡ of_signed (half_of w) z
    → (signed_bytes w (S.signed z) ≡ some (le w n)) × (n < 256 ^ w)
unfolding signed_bytes
number_at w p z i n e =
    let m : mag z < half_of w = ltb-true (mag z) (half_of w) i in
    (rw (i, e), rw (e, ← (half-bytes w p)) (of_signed-lt (half_of w) z m))

bool-place : (k : ℕ) → k ≡ 0 → (z : ℤ) → LeafIs (fixed_at k) (S.signed z) None
unfolding fixed_at suits in_bytes bool_bytes
bool-place zero e z = refl
bool-place (suc k) e z = absurd (omega arith)

float-place : (k : ℕ) → k < 7 → 4 < k → (z : ℤ) → LeafIs (fixed_at k) (S.signed z) None
unfolding fixed_at suits in_bytes float32_bytes float64_bytes
float-place (suc (suc (suc (suc (suc zero))))) h g z = refl
float-place (suc (suc (suc (suc (suc (suc zero)))))) h g z = refl
float-place (suc (suc (suc (suc (suc (suc (suc k))))))) h g z = absurd (omega arith)
float-place zero h g z = absurd (omega arith)
float-place (suc zero) h g z = absurd (omega arith)
float-place (suc (suc zero)) h g z = absurd (omega arith)
float-place (suc (suc (suc zero))) h g z = absurd (omega arith)
float-place (suc (suc (suc (suc zero)))) h g z = absurd (omega arith)

-- an integer's place, and its bytes
pub record Integer (k w : ℕ) : Type 0 where
  pub bytes : (x : S.Setting) → in_bytes (fixed_at k) x ≡ signed_bytes w x
  pub wide : width (fixed_at k) ≡ w
  pub some : 0 < w
  pub most : w ≤ 8

integer-from : (j : ℕ) → j < 4 → Integer (suc j) (line (suc j)).width
unfolding fixed_at in_bytes width fixed_place types
integer-from =
    each (λ j. Integer (suc j) (line (suc j)).width) 4 (
      record { bytes = λ x. refl; wide = refl; some = omega arith; most = omega arith },
      (
        record { bytes = λ x. refl; wide = refl; some = omega arith; most = omega arith },
        (
          record { bytes = λ x. refl; wide = refl; some = omega arith; most = omega arith },
          (record { bytes = λ x. refl; wide = refl; some = omega arith; most = omega arith }, tt),
        ),
      ),
    )

integer-is : (k w : ℕ) → (k ≡ 0 → ⊥) → k ≤ 4 → w ≡ (line k).width → Integer k w
integer-is zero w z h e = absurd (z refl)
integer-is (suc j) w z h e = rw e (integer-from j (omega arith))

-- k is the place of the type that an entry e says, and w its width
module _ {e k : ℕ} (F : FixedIn e) (ek : k ≡ place_in e) where
  pub number-bool : k ≡ 0 → (z : ℤ) → LeafIs (fixed_at (place_in e)) (S.signed z) None
  number-bool q z = bool-place (place_in e) (sym ek ∙ q) z

  pub number-float : 4 < k → (z : ℤ) → LeafIs (fixed_at (place_in e)) (S.signed z) None
  number-float l z = float-place (place_in e) F.fixed (omega arith) z

  module _ (n0 : k ≡ 0 → ⊥) (m : k ≤ 4) {w : ℕ} (ew : w ≡ width_in e) where
    integer : Integer (place_in e) w
    integer = integer-is (place_in e) w (λ q. n0 (ek ∙ q)) (omega arith) (ew ∙ F.lined.width)

    pub number-wide : (0 < w) × (w ≤ 8)
    number-wide = (integer.some, integer.most)

    -- z is handed on as y
    module _ {z y : ℤ} (q : y ≡ z) {r : Bool} (er : r ≡ in_range (half_of w) y) where
      pub number-mag : r ≡ true → (0 < w) × (w ≤ 8) × (mag y < half_of w)
      number-mag t = (integer.some, integer.most, ltb-true (mag y) (half_of w) (sym er ∙ t))

      pub number_fits : r ≡ true → {n : ℕ} → n ≡ of_signed (half_of w) y → LeafIs (fixed_at (place_in e)) (S.signed z) (Some (L.Bits n))
      number_fits t {n} m =
          let i : in_range (half_of w) z ≡ true = ap (in_range (half_of w)) (sym q) ∙ sym er ∙ t in
          let p = number_at w integer.some z i n (m ∙ ap (of_signed (half_of w)) q) in
          record { bytes = rw integer.wide (integer.bytes (S.signed z) ∙ p.0); below = rw integer.wide p.1; given = refl }

      pub number-out : r ≡ false → LeafIs (fixed_at (place_in e)) (S.signed z) None
      unfolding suits signed_bytes
      number-out t =
          let i : in_range (half_of w) z ≡ false = ap (in_range (half_of w)) (sym q) ∙ sym er ∙ t in
          rw (integer.bytes (S.signed z), i)

-- ---- floats

pub float32-fits : (k : ℕ) → k ≡ 5 → (b : ℕ) → b < 2 ^ 32 → LeafIs (fixed_at k) (S.float32 b) (Some (L.Bits b))
unfolding fixed_at in_bytes float32_bytes width fixed_place types
float32-fits k e b h = rw e (record { bytes = refl; below = h; given = refl })

pub float32-unfit : (k : ℕ) → k < 7 → (k ≡ 5 → ⊥) → (b : ℕ) → LeafIs (fixed_at k) (S.float32 b) None
unfolding fixed_at suits in_bytes bool_bytes signed_bytes float64_bytes
float32-unfit k h z b =
    each (λ j. (j ≡ 5 → ⊥) → suits (fix (fixed_at j)) (S.float32 b) ≡ false) 7
    (λ q. refl, (λ q. refl, (λ q. refl, (λ q. refl, (λ q. refl, (λ q. absurd (q refl), (λ q. refl, tt))))))) k h z

pub float64-fits : (k : ℕ) → k ≡ 6 → (b : ℕ) → b < 2 ^ 64 → LeafIs (fixed_at k) (S.float64 b) (Some (L.Bits b))
unfolding fixed_at in_bytes float64_bytes width fixed_place types
float64-fits k e b h = rw e (record { bytes = refl; below = h; given = refl })

pub float64-unfit : (k : ℕ) → k < 7 → (k ≡ 6 → ⊥) → (b : ℕ) → LeafIs (fixed_at k) (S.float64 b) None
unfolding fixed_at suits in_bytes bool_bytes signed_bytes float32_bytes
float64-unfit k h z b =
    each (λ j. (j ≡ 6 → ⊥) → suits (fix (fixed_at j)) (S.float64 b) ≡ false) 7
    (λ q. refl, (λ q. refl, (λ q. refl, (λ q. refl, (λ q. refl, (λ q. refl, (λ q. absurd (q refl), tt))))))) k h z

-- ---- bytes, and a setting by its case

bytes-place : (k : ℕ) → k < 7 → (u : List ℕ) → LeafIs (fixed_at k) (S.bytes u) None
unfolding fixed_at suits in_bytes bool_bytes signed_bytes float32_bytes float64_bytes
bytes-place k h u =
    each (λ j. suits (fix (fixed_at j)) (S.bytes u) ≡ false) 7 (refl, (refl, (refl, (refl, (refl, (refl, (refl, tt))))))) k h

module _ (e : ℕ) {g : Given} where
  pub leaf-null : g ≡ G.Null → (u : List ℕ) → LeafIs (fixed_at (place_in e)) (given_means g u) (Some L.Null)
  leaf-null q u = rw q

  pub leaf-bytes : FixedIn e → g ≡ G.Bytes → (u : List ℕ) → LeafIs (fixed_at (place_in e)) (given_means g u) None
  leaf-bytes F q u = rw q (bytes-place (place_in e) F.fixed u)

  -- k is the place that the entry says
  module _ (k : ℕ) (ek : k ≡ place_in e) (r : P.Option Leaf) where
    pub leaf-as : {g' : Given} → g ≡ g' → ((u : List ℕ) → LeafIs (fixed_at k) (given_means g' u) r) → (u : List ℕ)
        → LeafIs (fixed_at (place_in e)) (given_means g u) r
    leaf-as q h u = rw (q, ← ek) (h u)

  pub leaf-number : (r : P.Option Leaf) {z y : ℤ} → g ≡ G.Number z → y ≡ z → LeafIs (fixed_at (place_in e)) (S.signed y) r → (u : List ℕ)
      → LeafIs (fixed_at (place_in e)) (given_means g u) r
  leaf-number r q p h u = rw (q, ← p) h
