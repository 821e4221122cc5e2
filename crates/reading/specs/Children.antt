-- A child of a container, as the code finds it, and what that means. Assumes nothing: these are definitions.
use Rattle.std.specs.Prelude.{◌≡◌, ◌⊎◌, List, ℕ, ◌+◌, ◌-◌, ◌/◌, ◌≤◌, ◌<◌, length}
use Rattle.std.proofs.Math.Option.{none}
use Rattle.words.specs.Bytes.{part}
use Rattle.schema.specs.Types.{Ty, fix, text, li, ma, ro, width}
use Rattle.layout.specs.Layout.{front}
use Rattle.layout.specs.Refusals.{broken_at}
use Rattle.layout.specs.Walk as W
use Rattle.layout.specs.Walk.{stop, to_null, into, by_slot}
use Rattle.reading.specs.declared.Seat.{Seat}
use Rattle.reading.specs.declared.Child.{Child}
use Rattle.reading.specs.declared.Child.TheVariants.{Null, At}
use Rattle.std.specs.Prelude.{Result, Ok, Err}
use Rattle.answers.specs.declared.Refusal.{Refusal}
use Rattle.answers.specs.Meaning.{refusal_means}

-- the seat as the layout has it
abbrev pub seat_as : Seat → W.Seat
seat_as x = record { bits = x.bits; number = x.number; slot = x.slot; wide = x.wide }

-- a type's bytes in the table, 0 where they vary
unfoldable pub wide_of : Ty → ℕ
wide_of (fix f) = width f
wide_of (text t) = 0
wide_of (li t) = 0
wide_of (ma k v) = 0
wide_of (ro ts) = 0

-- what the code found of a child of type t, as a step of the walk
unfoldable pub child_as : Ty → List ℕ → Result Child Refusal → W.Step
child_as t row (Err r) = stop (refusal_means r)
child_as t row (Ok (Null s)) = to_null (seat_as s)
child_as t row (Ok (At s o k)) = into t (seat_as s) o (part row o k)

-- the seat's bit and slot lie in the row, and the slot has room for v bytes
pub record SeatIn (row : List ℕ) (v : ℕ) (s : Seat) : Type 0 where
  pub flag : s.bits + s.number / 8 < length row
  pub room : s.slot + s.wide ≤ length row
  pub wide : v ≤ s.wide

-- the bytes found lie in the row, and are v where v is not 0
pub record Lies (row : List ℕ) (v : ℕ) (s : Seat) (o k : ℕ) : Type 0 where
  pub within : o + k ≤ length row
  pub sized : (v ≡ 0) ⊎ (k ≡ v)
  pub seated : SeatIn row v s

abbrev pub ChildIn : List ℕ → ℕ → Result Child Refusal → Type 0
ChildIn row v (Err r) = Unit {0}
ChildIn row v (Ok (Null s)) = SeatIn row v s
ChildIn row v (Ok (At s o k)) = Lies row v s o k

-- a seat whose slot of 8 bytes lies in the container of size bytes at base
pub record SlotOf (row : List ℕ) (base size : ℕ) (s : Seat) : Type 0 where
  pub within : base + size ≤ length row
  pub short : length row ≤ 16384
  pub after : base ≤ s.slot
  pub before : s.slot + 8 ≤ base + size
  pub seated : SeatIn row 0 s

-- where the slot points, for a child of any type that varies
pub record Points (row : List ℕ) (base size fixed : ℕ) (s : Seat) (r : Result Child Refusal) : Type 0 where
  pub means : (t : Ty) → child_as t row r ≡ by_slot none t (seat_as s) fixed base (s.slot - base) (part row base size)
  pub lands : ChildIn row 0 r

-- there is such a child, and the container holds its fixed part
pub record IsChild (row : List ℕ) (base size h n w v i : ℕ) : Type 0 where
  pub within : base + size ≤ length row
  pub short : length row ≤ 16384
  pub child : i < n
  pub fixed : front h w n ≤ size
  pub slot : v ≤ w
  pub wide : w ≤ 8
  pub some : 0 < w
  pub points : v ≡ 0 → w ≡ 8

-- the child, of any type of v bytes, as the walk has it
pub record Comes (row : List ℕ) (base size h n w v i : ℕ) (r : Result Child Refusal) : Type 0 where
  pub means : (t : Ty) → wide_of t ≡ v → child_as t row r ≡ W.child h w n t i base (part row base size)
  pub lands : ChildIn row v r
