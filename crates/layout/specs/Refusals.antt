-- What a caller gets back instead of a result. Assumes nothing: these are definitions.
use Rattle.std.specs.Prelude.{ℕ}

-- a number of the document's table; 7 comes with the place of the fault, counted from the row's first byte
pub data Refusal : Type 0 where
  numbered : ℕ → Refusal
  broken_at : ℕ → Refusal

abbrev pub number_in : Refusal → ℕ
number_in (numbered n) = n
number_in (broken_at place) = 7
