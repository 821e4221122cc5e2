-- An answer as one 64-bit number: the refusal's number in the upper half, 0 for done; in the lower the length, and of a 7 the place.
-- Assumes nothing: these are definitions.
use Rattle.std.specs.Prelude.{ℕ, ◌+◌, ◌*◌, ◌^◌, ◌≤◌, ◌≡◌, List}
use Rattle.layout.specs.Refusals.{Refusal, numbered, broken_at}
use Rattle.layout.specs.Entries.{Verdict, done, refused, Sized, takes, refused_with}
use Rattle.row.specs.Outcomes.{length_in, LowSized}

abbrev pub refusal_code : Refusal → ℕ
refusal_code (numbered n) = n * 2 ^ 32
refusal_code (broken_at place) = 7 * 2 ^ 32 + place

abbrev pub verdict_code : Verdict → ℕ
verdict_code done = 0
verdict_code (refused r) = refusal_code r

abbrev pub sized_code : Sized → ℕ
sized_code (takes n) = n
sized_code (refused_with r k) = refusal_code r + k

-- the length and the place fit the lower half together
pub record Halved (z : Sized) : Type 0 where
  pub below : length_in z ≤ 65536
  pub place : LowSized 16384 z

-- an entry that fills an output: its code r, and what the output holds after
pub record Fills (z : Sized) (after : List ℕ) (r : ℕ) (out' : List ℕ) : Type 0 where
  pub answers : r ≡ sized_code z
  pub leaves : out' ≡ after
