-- What the card tool writes where the picture of a row is asked for. Assumes nothing: these are definitions.
use Rattle.std.proofs.Math.Option.{Option, none, some}
use Rattle.std.specs.Prelude.{List, ℕ}
use Rattle.layout.specs.Refusals.{numbered, broken_at}
use Rattle.layout.specs.Entries.{Verdict, done, refused, check_of}
use Rattle.picture.specs.Picture.{shown}
use Rattle.card.specs.Input.{split_of}
use Rattle.card.specs.Output.{refusal, by_split}

-- a row that check accepts has its picture, one that breaks the layout too, with the mark; any other refusal is said as the card does
abbrev pub by_fault : Verdict → (Option ℕ → List ℕ) → List ℕ
by_fault done f = f none
by_fault (refused (broken_at place)) f = f (some place)
by_fault (refused (numbered n)) f = refusal n

unfoldable pub where_text : List ℕ → List ℕ → List ℕ
where_text s row = by_fault (check_of s row) (λ fault. shown s row fault)

unfoldable pub where_output_of : List ℕ → List ℕ
where_output_of input = by_split where_text (split_of input) input
