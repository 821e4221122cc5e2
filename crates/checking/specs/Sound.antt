-- What a checked value answers: a number for the first fault that judging it meets, and for the first in a container's children from
-- one of them on. Assumes nothing: these are definitions.
use Rattle.std.specs.Prelude.{None, Some, cond, List, ℕ, zero, suc, ◌+◌, ◌*◌, ◌-◌, ◌/◌, ◌^◌, eqb, length, drop}
use Rattle.std.specs.Prelude as Rust
use Rattle.std.proofs.Math.Option.{Option, none, some}
use Rattle.std.proofs.Math.Decide.{ℕ_discrete}
use Rattle.words.specs.Bytes.{num, pad, bitmap, part, zeros_ahead}
use Rattle.schema.specs.Types.{Ty}
use Rattle.layout.specs.Faults.{Place, slot, byte, Read, fault, got, ◌>>=◌, ◌>>◌, assert_at}
use Rattle.layout.specs.Tiles.{Range, total}
use Rattle.layout.specs.Cells.{Cell}
use Rattle.layout.specs.Layout.{Kid, reads, front, codec}

-- 1 for the slot, i + 2 for byte i
abbrev pub place_code : Place → ℕ
place_code slot = 1
place_code (byte i) = suc (suc i)

-- 0 for no fault
unfoldable pub code : {A : Type 0} → Read A → ℕ
code (fault p) = place_code p
code (got a) = 0

-- the fault of bytes that should stand for contents of the type
unfoldable pub fault_of : Ty → List ℕ → ℕ
fault_of t b = code ((codec t).get b)

-- A child's fault r as its container tells it: its slot is the container's byte j, and its first byte the byte o. Where it has none, x.
unfoldable pub in_child : ℕ → ℕ → ℕ → ℕ → ℕ
in_child j o zero x = x
in_child j o (suc zero) x = suc (suc j)
in_child j o (suc (suc i)) x = suc (suc (o + i))

-- the zeros of b from byte p up to byte q, and then x
abbrev pub zeros_then : List ℕ → ℕ → ℕ → ℕ → ℕ
zeros_then b p q x = cond (eqb (num (part b p (q - p))) 0) x (suc (suc (p + zeros_ahead (part b p (q - p)))))

-- behind the children of b, which took the ranges rs: the zeros behind the slots, and the end
unfoldable pub ending : ℕ → ℕ → ℕ → List ℕ → List Cell × List Range → Read (List Cell)
ending h w n b p = do
  assert_at (byte (h + bitmap n + n * w + zeros_ahead (part b (h + bitmap n + n * w) (pad (n * w) - n * w))))
      (ℕ_discrete (num (part b (h + bitmap n + n * w) (pad (n * w) - n * w))) 0)
  assert_at slot (ℕ_discrete (total p.1) (length b - front h w n))
  got p.0

-- The fault in the children ks of the container b, from number i on, beside the ranges rs of the earlier ones, or behind them.
unfoldable pub fault_from : ℕ → ℕ → List Kid → List ℕ → ℕ → List Range → ℕ
fault_from h w ks b i rs =
    code (reads w (front h w (length ks)) (drop (front h w (length ks)) b) (drop i ks) (h + bitmap (length ks) + i * w)
    (num (part b h (bitmap (length ks))) / 2 ^ i)
    (drop (i * w) (part b (h + bitmap (length ks)) (length ks * w))) rs >>= ending h w (length ks) b)

-- the place of a broken row's fault
abbrev pub checked_means : Rust.Option ℕ → Option ℕ
checked_means None = none
checked_means (Some p) = some p
