-- The document's numbers and values for each case of the enums. Assumes nothing: these are definitions.
use Rattle.std.specs.Prelude.{Ok, Err, ◌≡◌, List, ℕ, Result}
use Rattle.schema.specs.declared.Judged.{Judged}
use Rattle.schema.specs.declared.Judged.TheVariants as J
use Rattle.layout.specs.Entries.{Sized, takes, refused_with}
use Rattle.answers.specs.declared.Refusal.{Refusal}
use Rattle.answers.specs.declared.Refusal.TheVariants as F
use Rattle.answers.specs.Meaning.{Length, refusal_means, length_of, length_means}
use Rattle.batch.specs.declared.Fetched.{Fetched}
use Rattle.batch.specs.declared.Fault.{Fault}
use Rattle.batch.specs.declared.Fault.TheVariants.{Whole, Row}
use Rattle.batch.specs.Entries.{Fetching, range, Checking, append_of, appended_of}
use Rattle.batch.specs.Entries as B

-- count: the number of rows, or a refusal
abbrev pub count_means : Length → Sized
count_means (Ok n) = takes n
count_means (Err r) = refused_with (refusal_means r) (length_of r)

-- fetch: a row's range in the batch, or a refusal
abbrev pub fetch_means : Result Fetched Refusal → Fetching
fetch_means (Ok row) = range row.start row.len
fetch_means (Err r) = B.refused (refusal_means r)

-- check: done, a refusal, or a row's number and its refusal
abbrev pub fault_means : Fault → Checking
fault_means (Whole r) = B.refused (refusal_means r)
fault_means (Row k r) = B.refused_row k (refusal_means r)

abbrev pub check_means : Result (Unit {0}) Fault → Checking
check_means (Ok u) = B.done
check_means (Err f) = fault_means f

-- append: the answer r, and what the room holds after
pub record Appends (s room : List ℕ) (used : ℕ) (row : List ℕ) (r : Length) (room' : List ℕ) : Type 0 where
  pub answers : length_means r ≡ append_of s room used row
  pub leaves : room' ≡ appended_of s room used row

-- a refusal that comes after 1
abbrev pub after_schema : Judged → Refusal → Refusal
after_schema J.Accepted r = r
after_schema J.Refused r = F.Schema
