-- What the functions of `batch` hand on of the frames they have passed. Assumes nothing: these are definitions.
use Rattle.std.specs.Prelude.{◌≡◌, List, ◌++◌, ℕ, ◌+◌, ◌-◌, ◌^◌, ◌≤◌, ◌<◌, eqb, length, drop, Result, Ok, Err, Some, None}
use Rattle.std.specs.Prelude as P
use Rattle.std.proofs.Math.Option.{Option, none, some}
use Rattle.words.specs.Bytes.{part}
use Rattle.schema.specs.Kinds.{pick}
use Rattle.layout.specs.Refusals.{Refusal, numbered}
use Rattle.layout.specs.Entries.{sized_after}
use Rattle.answers.specs.Meaning.{Length, length_means}
use Rattle.batch.specs.Frames.{big, frame, framing, first, framed}
use Rattle.batch.specs.Entries.{row_of, start_of, framed_at, Checking, refused, refused_row}
use Rattle.answers.specs.declared.Span.{Span}
use Rattle.answers.specs.declared.Refusal.{Refusal as Answered}
use Rattle.answers.specs.declared.Refusal.TheVariants as F
use Rattle.schema.specs.Reading.{judged}
use Rattle.batch.specs.Meaning.{after_schema}

-- r is the size that the 4 bytes from the one numbered at on say
pub record Says (b : List ℕ) (at r : ℕ) : Type 0 where
  pub is : r ≡ big (part b at 4)
  pub below : r < 2 ^ 32

-- a row put in its frame behind the first used bytes of a room: the answer r, and what the room holds after
pub record PutsRow (room : List ℕ) (used : ℕ) (row : List ℕ) (r : Length) (room' : List ℕ) : Type 0 where
  pub answers : length_means r ≡ sized_after none (used + length (frame row)) (length room)
  pub leaves : room' ≡ framed_at (sized_after none (used + length (frame row)) (length room)) room used row

-- a frame stands from at to end
pub record Stands (b : List ℕ) (at end : ℕ) : Type 0 where
  pub low : at + 4 ≤ end
  pub high : end ≤ length b
  pub row : first (drop at b) ≡ some (part b (at + 4) (end - (at + 4)), drop end b)

-- the end of the frame at a place, if the bytes do not end inside it
abbrev pub FrameEnd : List ℕ → ℕ → P.Option ℕ → Type 0
FrameEnd b at None = first (drop at b) ≡ none
FrameEnd b at (Some end) = Stands b at end

abbrev pub joined : List (List ℕ) → Option (List (List ℕ)) → Option (List (List ℕ))
joined us none = none
joined us (some vs) = some (us ++ vs)

-- n frames stand before the byte numbered at, and the batch's rows are theirs and those of what is left
pub record Passed (b : List ℕ) (at n : ℕ) : Type 0 where
  pub rows : List (List ℕ)
  pub counts : length rows ≡ n
  pub size : length (framing rows) ≡ at
  pub high : at ≤ length b
  pub left : framed b ≡ joined rows (framed (drop at b))

-- the batch ends before row k
pub record Ended (b : List ℕ) (k : ℕ) : Type 0 where
  pub rows : List (List ℕ)
  pub is : framed b ≡ some rows
  pub few : length rows ≤ k

-- row k stands from start to end
pub record RowAt (b : List ℕ) (k start end : ℕ) : Type 0 where
  pub rows : List (List ℕ)
  pub is : framed b ≡ some rows
  pub counts : k < length rows
  pub begins : start ≡ start_of b k
  pub low : start ≤ end
  pub high : end ≤ length b
  pub row : part b start (end - start) ≡ row_of b k

-- where no frame ends: at the end of the bytes they have no more rows, before it they end inside one
abbrev pub no_frame : List ℕ → ℕ → Answered
no_frame b at = pick (eqb at (length b)) F.NoPlace F.Batch

-- what looking for row k comes to
pub data Finds (b : List ℕ) (k : ℕ) : Result Span Answered → Type 0 where
  is_broken : framed b ≡ none → Finds b k (Err F.Batch)
  is_past : Ended b k → Finds b k (Err F.NoPlace)
  is_at : {s : Span} → RowAt b k s.start s.end → Finds b k (Ok s)

-- the same where the schema is judged first
pub data FindsAfter (s b : List ℕ) (k : ℕ) : Result Span Answered → Type 0 where
  no_row : {r : Answered} → Finds b k (Err r) → FindsAfter s b k (Err (after_schema (judged s) r))
  a_row : {x : Span} → RowAt b k x.start x.end → FindsAfter s b k (Ok x)

-- what the refusal r of row k comes to: 10 of the whole batch is before it
abbrev pub refused_in : Option (List (List ℕ)) → ℕ → Refusal → Checking
refused_in none k r = refused (numbered 10)
refused_in (some rows) k r = refused_row k r
