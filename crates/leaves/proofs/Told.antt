-- Each case of an answer as the contents of its line. Assumes nothing.
use mathlib.Core.Path.{◌≡◌}
use mathlib.Core.Bool.{Bool, true, false, cond}
use mathlib.Core.List.{List, [], ◌∷◌}
use Prim.Native.Nat.{ℕ, ◌+◌, ◌*◌, ◌≤◌}
use native.Mathlib.Omega.{arith}
use lib.IntN.{ℤ}
use lib.Ieee.{Float, Format, binary32, binary64, to_bits, nan_bits}
use lib.ListN.{length}
use mir.Val.{bool_byte}
use Rattle.words.specs.Bytes.{part}
use Rattle.words.specs.Bits.{digit}
use Rattle.layout.specs.Refusals.{numbered}
use Rattle.layout.specs.Reading as R
use Rattle.answers.specs.declared.Answer.{Answer as Case}
use Rattle.answers.specs.declared.Answer.TheVariants as A
use Rattle.answers.specs.Meaning.{plain, float, meaning}
use Rattle.row.specs.Demand1.{ReadGives}
use Rattle.row.proofs.Numbers.{no_zero}
use Rattle.lettering.specs.Text.{hex, signed, bytes, Puts}
use Rattle.lettering.proofs.Putting.{puts_none}
use Rattle.leaves.specs.Lines.{contents}
use Rattle.leaves.specs.Room.{Room}

pub bool-byte : (v : Bool) → 48 + bool_byte v ≤ 49
bool-byte true = omega arith
bool-byte false = omega arith

-- the hex digits of a float's bits
wide : Format → ℕ
wide binary32 = 8
wide binary64 = 16

module _ {out out' : List ℕ} {at r : ℕ} (row : List ℕ) (x : Case) where
  pub told-null : x ≡ A.Null → Puts out at (110 ∷ 117 ∷ 108 ∷ 108 ∷ []) r out' → Puts out at (contents row (meaning x)) r out'
  unfolding contents
  told-null e p = rw e p

  pub told-bool : (v : Bool) (n : ℕ) → x ≡ A.Bool v → n ≡ 48 + digit v → Puts out at (n ∷ []) r out' → Puts out at (contents row (meaning x)) r out'
  unfolding contents
  told-bool v n e q p = rw e (rw q at p)

  pub told-number : (z w : ℤ) → x ≡ A.Number z → w ≡ z → Puts out at (signed w) r out' → Puts out at (contents row (meaning x)) r out'
  unfolding contents
  told-number z w e q p = rw e (rw q at p)

  told-float : (f : Format) (n : ℕ) → Puts out at (hex (wide f) n) r out' → Puts out at (contents row (float f n)) r out'
  unfolding contents wide
  told-float binary32 n p = p
  told-float binary64 n p = p

  -- a case that stands for no float is none of reading's answers
  only : (f : Format) (n : ℕ) (v : Bool) → ReadGives (cond v (float f n) (R.refused (numbered 0))) → Puts out at (hex (wide f) n) r out'
      → Puts out at (contents row (cond v (float f n) (R.refused (numbered 0)))) r out'
  only f n true g p = told-float f n p
  only f n false g p = absurd (no_zero g)

  pub told-float32 : (v : Float) (n : ℕ) → x ≡ A.Float32 v → n ≡ to_bits binary32 v → ReadGives (meaning x) → Puts out at (hex 8 n) r out'
      → Puts out at (contents row (meaning x)) r out'
  unfolding wide
  told-float32 v n e q g p = rw e (only binary32 (to_bits binary32 v) (plain binary32 v) (rw e at g) (rw q at p))

  pub told-nan32 : (n : ℕ) → x ≡ A.Float32Nan n → ReadGives (meaning x) → Puts out at (hex 8 n) r out' → Puts out at (contents row (meaning x)) r out'
  unfolding wide
  told-nan32 n e g p = rw e (only binary32 n (nan_bits binary32 n) (rw e at g) p)

  pub told-float64 : (v : Float) (n : ℕ) → x ≡ A.Float64 v → n ≡ to_bits binary64 v → ReadGives (meaning x) → Puts out at (hex 16 n) r out'
      → Puts out at (contents row (meaning x)) r out'
  unfolding wide
  told-float64 v n e q g p = rw e (only binary64 (to_bits binary64 v) (plain binary64 v) (rw e at g) (rw q at p))

  pub told-nan64 : (n : ℕ) → x ≡ A.Float64Nan n → ReadGives (meaning x) → Puts out at (hex 16 n) r out' → Puts out at (contents row (meaning x)) r out'
  unfolding wide
  told-nan64 n e g p = rw e (only binary64 n (nan_bits binary64 n) (rw e at g) p)

  pub told-bytes : (o n : ℕ) → x ≡ A.Bytes o n → Puts out at (bytes (part row o n)) r out' → Puts out at (contents row (meaning x)) r out'
  unfolding contents
  told-bytes o n e p = rw e p

module _ (out row : List ℕ) (at : ℕ) (x : Case) where
  pub told-container : (o n k : ℕ) → x ≡ A.Container o n k → Puts out at (contents row (meaning x)) at out
  unfolding contents
  told-container o n k e = rw e (puts_none out at)

  -- a byte range has room, and lies in the row
  pub bytes-room : (o n : ℕ) → x ≡ A.Bytes o n → Room out at row (meaning x) → (at + (2 * n + 1) ≤ length out) × (o + n ≤ length row)
  bytes-room o n e h =
      let w : o + n ≤ length row = rw e at h.within in
      (omega (arith, h.room, h.short), w)
